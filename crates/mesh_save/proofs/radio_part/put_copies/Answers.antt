use Rattle.std.proofs.Common.{◌+◌, refl}
use Rattle.mesh_base.specs.Views.{flying_seen}
use Rattle.mesh_save.specs.Bytes.{copy_bytes}
use Rattle.mesh_save.proofs.Puts.{copy, no_copies, all_copies}
use Rattle.mesh_save.proofs.radio_part.put_copies.Goals as goal

pub copies-init : goal.copies-init
copies-init g c = no_copies g.P.Encoder.wrote copy_bytes c.args.radio.now.flying _ (g.met.P.Encoder.nothing _)

pub copies-preserved : goal.copies-preserved
copies-preserved g c = copy g.P.Encoder.wrote g.met.P.Encoder.joins copy_bytes c.args.radio.now.flying (flying_seen c.in-Some.copy) c.copies.id (c.in-Some.copy.id + 1) _ _ _ refl c.in-Some.ensures.some c.copies.invariant c.put_copy.ensures

pub returns : goal.returns
returns g c = rw (← c.count.ensures.value) (g.met.P.Encoder.joins _ _ _ _ _ c.put32.ensures (all_copies g.P.Encoder.wrote copy_bytes c.args.radio.now.flying c.copies.id _ _ (rw c.in_default.is at c.next_from.ensures.none) c.copies.invariant))
