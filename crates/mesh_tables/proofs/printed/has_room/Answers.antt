use Rattle.std.proofs.Common.{refl}
use Rattle.mesh_tables.proofs.Kept.{has_table, length_shown}
use Rattle.mesh_tables.proofs.printed.has_room.Goals as goal

pub returns-then-contains_key : goal.returns-then-contains_key
returns-then-contains_key c = rw (has_table c.args.closed.now.entries c.args.x, ← c.contains_key.ensures, c.if-contains_key.true) refl

pub returns-else-contains_key : goal.returns-else-contains_key
returns-else-contains_key c =
    rw (has_table c.args.closed.now.entries c.args.x, ← c.contains_key.ensures, c.if-contains_key.false, length_shown c.args.closed.now.entries, c.len.ensures.len) refl
