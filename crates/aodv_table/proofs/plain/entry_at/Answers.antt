use Rattle.std.proofs.Common.{Some, None}
use Rattle.aodv_table.proofs.RowLaws.{entry_read, room_of_row}
use Rattle.aodv_table.proofs.plain.entry_at.Goals as goal

pub returns-in-Some-clause-value : goal.returns-in-Some-clause-value
returns-in-Some-clause-value c = entry_read c.args.rows.now.entries c.args.d (Some c.in-Some.row.now) c.in-Some.ensures.value

pub returns-in-Some-clause-room : goal.returns-in-Some-clause-room
returns-in-Some-clause-room c = λ _. room_of_row c.args.rows.now.entries c.args.d c.in-Some.row.now c.in-Some.ensures.value

pub returns-in-None-clause-value : goal.returns-in-None-clause-value
returns-in-None-clause-value c = entry_read c.args.rows.now.entries c.args.d None c.in-None.ensures.value
