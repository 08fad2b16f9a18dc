use Rattle.mesh_radio.proofs.Joins.{IsFrontBelow}
use Rattle.mesh_radio.proofs.joining.front.Given as goal

abbrev pub invariant-nodes : goal.invariant-nodes
invariant-nodes l = IsFrontBelow l.to l.count l.node l.front
