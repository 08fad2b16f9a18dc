use Rattle.mesh_blocks.proofs.SameRun as lemmas
use Rattle.mesh_blocks.proofs.laws.each_state_is_the_runs.Goals as goal

pub returns : goal.returns
returns c = lemmas.state_is_the_runs
