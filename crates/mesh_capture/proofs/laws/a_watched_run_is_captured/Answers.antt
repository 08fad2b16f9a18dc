use Rattle.mesh_capture.proofs.WatchedRuns.{watched_run_is_captured}
use Rattle.mesh_capture.proofs.laws.a_watched_run_is_captured.Goals as goal

pub returns : goal.returns
returns c = watched_run_is_captured
