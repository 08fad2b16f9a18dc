use Rattle.std.proofs.Common.{None}
use Rattle.aodv_table.proofs.RowLaws.{had_room, lacks_room, row_added, room_added}
use Rattle.aodv_table.proofs.plain.add_row.Goals as goal

pub returns-then-contains_key-clause-rooms : goal.returns-then-contains_key-clause-rooms
returns-then-contains_key-clause-rooms c = had_room c.args.rows.now.entries c.args.d c.contains_key.result c.contains_key.ensures c.if-contains_key.true

pub returns-clause-entries : goal.returns-clause-entries
returns-clause-entries c = row_added c.args.rows.now.entries c.insert.new.self.entries c.args.d c.contains_key.result c.contains_key.ensures c.if-contains_key.false c.in_ok-insert.ensures.updates.0

pub returns-clause-rooms : goal.returns-clause-rooms
returns-clause-rooms c = room_added c.args.rows.now.entries c.insert.new.self.entries c.args.d None c.in_ok-insert.ensures.updates.0

pub returns-in_err-insert-clause-there : goal.returns-in_err-insert-clause-there
returns-in_err-insert-clause-there c = λ there. absurd (lacks_room c.args.rows.now.entries c.args.d c.contains_key.result c.contains_key.ensures c.if-contains_key.false there)

pub returns-clause-still : goal.returns-clause-still
returns-clause-still c = λ there. absurd (lacks_room c.args.rows.now.entries c.args.d c.contains_key.result c.contains_key.ensures c.if-contains_key.false there)
