use Rattle.mesh_capture.proofs.Checks.{header_sums}
use Rattle.mesh_capture.proofs.laws.headers_sum_to_all_ones.Goals as goal

pub returns : goal.returns
returns c = header_sums
