use Rattle.std.proofs.Common.{ap}
use Rattle.aodv_table.specs.Seen.{TableSeen}
use Rattle.aodv_table.proofs.IndexLaws.{rows_end}
use Rattle.aodv_table.proofs.rows.RowTableTable.nodes.Goals as goal

pub returns-clause-below : goal.returns-clause-below
returns-clause-below c =
    rows_end c.self.inside.nodes c.args.self.now.nodes c.self.inside.rows c.args.self.now.entries (ap (λ (t : TableSeen). t.entries) c.self.view_is) (ap (λ (t : TableSeen). t.nodes) c.self.view_is) c.self.invariant.each
