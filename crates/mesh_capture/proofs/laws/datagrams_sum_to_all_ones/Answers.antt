use Rattle.mesh_capture.proofs.Checks.{datagram_sums}
use Rattle.mesh_capture.proofs.laws.datagrams_sum_to_all_ones.Goals as goal

pub returns : goal.returns
returns c = datagram_sums
