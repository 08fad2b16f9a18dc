use Rattle.mesh_text.proofs.RunLaws as lemmas
use Rattle.mesh_text.proofs.laws.a_run_is_a_run_of_events.Goals as goal

pub returns : goal.returns
returns c = lemmas.run_of_events
