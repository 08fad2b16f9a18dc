use Rattle.mesh_restore.proofs.CopyLists.{AreFlownSoFar}
use Rattle.mesh_restore.proofs.copies.fly_all.Given as goal

abbrev pub invariant-loop : goal.invariant-loop
invariant-loop l = AreFlownSoFar l.nodes l.next l.count l.counter l.low l.bytes l.fn.radio l.radio l.apart l.rest
