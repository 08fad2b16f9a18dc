use Rattle.mesh_blocks.proofs.SameRun as lemmas
use Rattle.mesh_blocks.proofs.laws.a_watched_run_is_the_run.Goals as goal

pub returns : goal.returns
returns c = lemmas.watched_run_is_the_run
