use Rattle.mesh_load.proofs.PlainRuns as lemmas
use Rattle.mesh_load.proofs.laws.a_run_is_plain.Goals as goal

pub returns : goal.returns
returns c = lemmas.run_is_plain
