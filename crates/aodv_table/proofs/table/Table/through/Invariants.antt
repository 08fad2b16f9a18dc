use Rattle.std.proofs.Common.{◌-◌}
use Rattle.aodv_table.proofs.Searches.{Found}
use Rattle.aodv_table.proofs.table.Table.through.Given as goal

abbrev pub invariant-loop-d : goal.invariant-loop-d
invariant-loop-d g l = Found (g.Self.Table.entries l.self) l.next l.start l.found

abbrev pub decreases-loop-d : goal.decreases-loop-d
decreases-loop-d g l = l.nodes - l.start
