use Rattle.std.proofs.Common.{◌-◌, length}
use Rattle.mesh_world.proofs.Ways.{IsAt}
use Rattle.mesh_world.proofs.route.follow.Given as goal

abbrev pub invariant-loop-at : goal.invariant-loop-at
invariant-loop-at l = IsAt l.nodes l.from l.to l.at l.hops

abbrev pub decreases-loop-at : goal.decreases-loop-at
decreases-loop-at l = length l.nodes - l.hops
