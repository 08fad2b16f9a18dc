use Rattle.std.proofs.Common.{length}
use Rattle.mesh_load.proofs.NodeLists.{AreReadSoFar}
use Rattle.mesh_load.proofs.nodes.read_nodes.Given as goal

abbrev pub invariant-loop-me : goal.invariant-loop-me
invariant-loop-me l = AreReadSoFar l.variant (length l.mesh) l.me l.bytes (l.nodes).nodes l.in_place l.rest
