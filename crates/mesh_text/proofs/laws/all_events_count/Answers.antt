use Rattle.mesh_text.proofs.RunLaws as lemmas
use Rattle.mesh_text.proofs.laws.all_events_count.Goals as goal

pub returns : goal.returns
returns c = lemmas.all_events_count
