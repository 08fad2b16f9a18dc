use Rattle.std.proofs.Common.{◌≡◌, length, slice_set, Option, List, ap, ◌∙◌, arith}
use Rattle.mesh_base.specs.Members.{NodeIds}
use Rattle.aodv_model.specs.declared.entry.Entry.{Entry}
use Rattle.aodv_table.specs.Indexed.{whole_rows}
use Rattle.aodv_table.proofs.WholeRows.{length_whole, bare, whole_written, length_written}
use Rattle.aodv_table.proofs.row_list.RowList.set.Goals as goal

pub index_mut-requires : goal.index_mut-requires
index_mut-requires c =
    let seen : length (whole_rows c.self.inside.rows.items c.self.inside.precursors.items) ≡ length c.args.self.now = ap length c.self.view_is in
    omega (arith, c.requires, seen, c.self.invariant, length_whole c.self.inside.rows.items c.self.inside.precursors.items c.self.invariant)

pub index_mut-requires-2 : goal.index_mut-requires-2
index_mut-requires-2 c =
    let seen : length (whole_rows c.self.inside.rows.items c.self.inside.precursors.items) ≡ length c.args.self.now = ap length c.self.view_is in
    omega (arith, c.requires, seen, length_whole c.self.inside.rows.items c.self.inside.precursors.items c.self.invariant)

pub invariant_of-self : goal.invariant_of-self
invariant_of-self c = length_written c.self.inside.rows.items c.self.inside.precursors.items c.args.d c.new.result c.precursors_of.result c.self.invariant

pub returns : goal.returns
returns c =
    let seen : length (whole_rows c.self.inside.rows.items c.self.inside.precursors.items) ≡ length c.args.self.now = ap length c.self.view_is in
    ap (λ (o : Option Entry). whole_rows (slice_set c.self.inside.rows.items c.args.d o) (slice_set c.self.inside.precursors.items c.args.d c.precursors_of.result)) c.new.ensures
    ∙ ap (λ (nodes : NodeIds). whole_rows (slice_set c.self.inside.rows.items c.args.d (bare c.args.entry)) (slice_set c.self.inside.precursors.items c.args.d nodes)) c.precursors_of.ensures
    ∙ whole_written c.self.inside.rows.items c.self.inside.precursors.items c.args.d c.args.entry c.self.invariant (omega (arith, c.requires, seen, length_whole c.self.inside.rows.items c.self.inside.precursors.items c.self.invariant))
    ∙ ap (λ (rows : List (Option Entry)). slice_set rows c.args.d c.args.entry) c.self.view_is
