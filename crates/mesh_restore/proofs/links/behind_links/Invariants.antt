use Rattle.mesh_restore.proofs.LinkLists.{ArePassedSoFar}
use Rattle.mesh_restore.proofs.links.behind_links.Given as goal

abbrev pub invariant-loop : goal.invariant-loop
invariant-loop l = ArePassedSoFar l.nodes l.count l.counter l.low l.bytes l.rest
