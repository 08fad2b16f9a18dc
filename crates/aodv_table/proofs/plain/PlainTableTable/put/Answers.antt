use Rattle.std.proofs.Common.{ap}
use Rattle.aodv_table.specs.Seen.{TableSeen}
use Rattle.aodv_table.proofs.RowLaws.{rows_kept}
use Rattle.aodv_table.proofs.plain.PlainTableTable.put.Goals as goal

pub invariant_of-self : goal.invariant_of-self
invariant_of-self c =
    rows_kept c.self.inside.nodes c.args.self.now.nodes c.self.inside.rows.entries c.write_row.new.rows.entries c.self.inside.valid c.mark_valid.new.valid c.args.d c.args.e
    c.self.invariant (ap (λ (t : TableSeen). t.nodes) c.self.view_is) c.requires.below c.write_row.ensures.entries c.mark_valid.ensures
