use Rattle.std.proofs.Common.{◌≡◌, length, get_or, Option, None, List, ap, ◌∙◌, arith}
use Rattle.aodv_model.specs.declared.entry.Entry.{Entry}
use Rattle.aodv_table.specs.Indexed.{whole_rows}
use Rattle.aodv_table.proofs.WholeRows.{length_whole, whole_read}
use Rattle.aodv_table.proofs.row_list.RowList.entry.Goals as goal

pub index-requires : goal.index-requires
index-requires c =
    let seen : length (whole_rows c.self.inside.rows.items c.self.inside.precursors.items) ≡ length c.args.self.now = ap length c.self.view_is in
    omega (arith, c.requires, seen, length_whole c.self.inside.rows.items c.self.inside.precursors.items c.self.invariant)

pub index-requires-2 : goal.index-requires-2
index-requires-2 c =
    let seen : length (whole_rows c.self.inside.rows.items c.self.inside.precursors.items) ≡ length c.args.self.now = ap length c.self.view_is in
    omega (arith, c.requires, seen, c.self.invariant, length_whole c.self.inside.rows.items c.self.inside.precursors.items c.self.invariant)

pub returns : goal.returns
returns c =
    let seen : length (whole_rows c.self.inside.rows.items c.self.inside.precursors.items) ≡ length c.args.self.now = ap length c.self.view_is in
    c.entry.ensures
    ∙ whole_read c.self.inside.rows.items c.self.inside.precursors.items c.args.d c.index.result.now c.index-2.result.now c.self.invariant
    (omega (arith, c.requires, seen, length_whole c.self.inside.rows.items c.self.inside.precursors.items c.self.invariant)) c.index.ensures c.index-2.ensures
    ∙ ap (λ (rows : List (Option Entry)). get_or rows c.args.d None) c.self.view_is
