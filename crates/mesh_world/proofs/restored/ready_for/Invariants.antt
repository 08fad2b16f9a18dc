use Rattle.std.proofs.Common.{take}
use Rattle.std.specs.List.{AllByRecursion}
use Rattle.aodv_node.specs.Seen.{IsSoundNode}
use Rattle.mesh_world.proofs.ReadySets.{IsReadyUpTo}
use Rattle.mesh_world.proofs.restored.ready_for.Given as goal

abbrev pub invariant-loop-x : goal.invariant-loop-x
invariant-loop-x l = record {
  ready : IsReadyUpTo l.mesh l.nodes l.x l.ready;
  sound : AllByRecursion IsSoundNode (take l.x l.nodes);
}
