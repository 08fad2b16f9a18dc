use Rattle.aodv_table.proofs.RowLaws.{written, row_there, same_rooms, had_row}
use Rattle.aodv_table.proofs.plain.write_row.Goals as goal

pub unreachable-requires : goal.unreachable-requires
unreachable-requires c = row_there c.args.rows.now.entries c.args.d c.requires c.in-Err.ensures.absent

pub returns-clause-entries : goal.returns-clause-entries
returns-clause-entries c = written c.args.rows.now.entries c.insert.new.self.entries c.args.d c.args.row c.in-Ok.ensures.updates.0

pub returns-clause-rooms : goal.returns-clause-rooms
returns-clause-rooms c = same_rooms c.args.rows.now.entries c.insert.new.self.entries (c.in-Ok.ensures.keys_stay (had_row c.args.rows.now.entries c.args.d c.in-Ok.field-0 c.in-Ok.ensures.old c.requires))
