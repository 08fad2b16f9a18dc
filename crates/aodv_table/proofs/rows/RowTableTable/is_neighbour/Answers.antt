use Rattle.std.proofs.Common.{ap, ◌∙◌}
use Rattle.aodv_table.specs.Seen.{TableSeen}
use Rattle.aodv_table.proofs.IndexLaws.{is_known}
use Rattle.aodv_table.proofs.rows.RowTableTable.is_neighbour.Goals as goal

pub returns : goal.returns
returns c =
    c.has.ensures.value
    ∙ is_known c.self.inside.nodes c.self.inside.rows c.self.inside.valid c.self.inside.neighbours c.args.d c.args.self.now.entries c.self.invariant (ap (λ (t : TableSeen). t.entries) c.self.view_is)
