use Rattle.mesh_capture.proofs.PlacedRuns.{run_with_places_is_captured}
use Rattle.mesh_capture.proofs.laws.a_run_with_places_is_captured.Goals as goal

pub returns : goal.returns
returns c = run_with_places_is_captured
