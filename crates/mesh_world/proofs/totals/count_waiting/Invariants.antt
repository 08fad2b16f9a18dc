use Rattle.std.proofs.Common.{◌-◌}
use Rattle.mesh_world.proofs.Counts.{IsCounting}
use Rattle.mesh_world.proofs.totals.count_waiting.Given as goal

abbrev pub invariant-loop-dest : goal.invariant-loop-dest
invariant-loop-dest l = IsCounting l.node l.start l.count

abbrev pub decreases-loop-dest : goal.decreases-loop-dest
decreases-loop-dest l = l.node.size - l.start
