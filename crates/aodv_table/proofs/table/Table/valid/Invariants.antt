use Rattle.aodv_table.proofs.Searches.{ValidFound}
use Rattle.aodv_table.proofs.table.Table.valid.Given as goal

abbrev pub invariant-loop-d : goal.invariant-loop-d
invariant-loop-d g l = ValidFound (g.Self.Table.entries l.self) l.d l.valid
