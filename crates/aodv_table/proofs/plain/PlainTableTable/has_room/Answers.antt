use Rattle.std.proofs.Common.{ap, sym, ◌∙◌}
use Rattle.std.specs.FinSet as sets
use Rattle.aodv_table.specs.Seen.{TableSeen}
use Rattle.aodv_table.proofs.RowLaws.{contains-rooms_in}
use Rattle.aodv_table.proofs.plain.PlainTableTable.has_room.Goals as goal

pub returns : goal.returns
returns c =
    c.contains_key.ensures
    ∙ sym (contains-rooms_in c.self.inside.rows.entries c.args.d)
    ∙ ap (λ (t : TableSeen). sets.contains t.rooms c.args.d) c.self.view_is
