use Rattle.mesh_text.proofs.RunLaws as lemmas
use Rattle.mesh_text.proofs.laws.a_run_keeps_the_invariant.Goals as goal

pub returns : goal.returns
returns c = lemmas.run_keeps_invariant
