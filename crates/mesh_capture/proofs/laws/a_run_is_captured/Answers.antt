use Rattle.mesh_capture.proofs.WholeRuns.{run_is_captured}
use Rattle.mesh_capture.proofs.laws.a_run_is_captured.Goals as goal

pub returns : goal.returns
returns c = run_is_captured
