use Rattle.std.proofs.Common.{ap}
use Rattle.aodv_table.specs.Seen.{TableSeen}
use Rattle.aodv_table.proofs.RowLaws.{room_here, room_kept}
use Rattle.aodv_table.proofs.plain.PlainTableTable.make_room.Goals as goal

pub returns-clause-here : goal.returns-clause-here
returns-clause-here c = room_here c.add_row.result _ _ c.args.d c.add_row.ensures.rooms

pub returns-clause-keeps : goal.returns-clause-keeps
returns-clause-keeps c = room_kept c.add_row.result _ _ c.args.self.now.rooms c.args.d (ap (λ (t : TableSeen). t.rooms) c.self.view_is) c.add_row.ensures.rooms c.add_row.ensures.refused
