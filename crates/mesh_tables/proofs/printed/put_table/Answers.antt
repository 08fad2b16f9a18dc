use Rattle.mesh_tables.proofs.Kept.{shown_insert, size_insert}
use Rattle.mesh_tables.specs.Kept.{shown_in}
use Rattle.mesh_tables.proofs.printed.put_table.Goals as goal

pub returns-in-Ok-clause-put : goal.returns-in-Ok-clause-put
returns-in-Ok-clause-put c = rw c.in-Ok.ensures.entries (shown_insert c.args.closed.now.entries c.args.node c.args.rows)

pub returns-in-Ok-clause-size : goal.returns-in-Ok-clause-size
returns-in-Ok-clause-size c =
    rw (c.in-Ok.ensures.entries, shown_insert c.args.closed.now.entries c.args.node c.args.rows)
    (size_insert (shown_in c.args.closed.now.entries) c.args.node c.args.rows.entries)
