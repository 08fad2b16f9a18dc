use Rattle.std.proofs.Common.{◌-◌}
use Rattle.mesh_save.specs.Bytes.{copy_bytes}
use Rattle.mesh_save.proofs.Puts.{ArePut}
use Rattle.mesh_save.proofs.radio_part.put_copies.Given as goal

abbrev pub invariant-copies : goal.invariant-copies
invariant-copies g l = ArePut g.P.Encoder.wrote copy_bytes l.radio.flying l.initial.encoder l.encoder l.id

abbrev pub decreases-copies : goal.decreases-copies
decreases-copies g l = l.radio.next_copy - l.id
