use Rattle.std.proofs.Common.{◌≡◌, ◌≤◌, length}
use Rattle.aodv_model.proofs.Keys.{below}
use Rattle.mesh_save.proofs.routes.count_routes.Given as goal

abbrev pub invariant-loop-d : goal.invariant-loop-d
invariant-loop-d l = (l.count ≡ length (below l.d l.node.core.rt)) × (l.count ≤ l.d)
