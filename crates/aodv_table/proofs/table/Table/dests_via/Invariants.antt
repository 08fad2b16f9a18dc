use Rattle.std.proofs.Common.{◌-◌}
use Rattle.aodv_table.proofs.Searches.{Raised}
use Rattle.aodv_table.proofs.table.Table.dests_via.Given as goal

abbrev pub invariant-loop-d : goal.invariant-loop-d
invariant-loop-d g l = Raised (g.Self.Table.entries l.self) l.next l.start l.out

abbrev pub decreases-loop-d : goal.decreases-loop-d
decreases-loop-d g l = l.nodes - l.start
