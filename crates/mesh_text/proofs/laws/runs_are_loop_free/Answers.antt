use Rattle.mesh_text.proofs.RunLaws as lemmas
use Rattle.mesh_text.proofs.laws.runs_are_loop_free.Goals as goal

pub returns : goal.returns
returns c = lemmas.runs_are_loop_free
