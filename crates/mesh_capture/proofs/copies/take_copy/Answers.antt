use Rattle.mesh_capture.proofs.Kept.{short_remove, short_lookup}
use Rattle.mesh_capture.proofs.copies.take_copy.Goals as goal

pub returns-clause-short : goal.returns-clause-short
returns-clause-short c = rw c.remove.ensures.entries (short_remove _ c.args.flying.now.entries c.requires)

pub returns-clause-packet : goal.returns-clause-packet
returns-clause-packet c = rw c.remove.ensures.value (short_lookup _ c.args.flying.now.entries c.requires)
