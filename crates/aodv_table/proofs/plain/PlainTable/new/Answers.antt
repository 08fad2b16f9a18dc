use Rattle.std.proofs.Common.{refl}
use Rattle.aodv_table.proofs.RowLaws.{new_rows, no_rows, no_rooms}
use Rattle.aodv_table.proofs.plain.PlainTable.new.Goals as goal

pub invariant_of-result : goal.invariant_of-result
invariant_of-result c = new_rows c.args.nodes _ _ c.requires c.new.ensures.empty c.new-2.ensures

pub returns : goal.returns
returns c =
    let none = no_rows _ c.new.ensures.empty in
    let no_room = no_rooms _ c.new.ensures.empty in
    rw (none, no_room) refl
