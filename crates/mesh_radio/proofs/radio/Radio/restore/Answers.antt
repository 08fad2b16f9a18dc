use Rattle.std.proofs.Common.{sym, subst}
use Rattle.std.specs.List.{AllByRecursion}
use Rattle.mesh_radio.specs.Copies.{IsBetween, IsPacketLong}
use Rattle.mesh_radio.specs.Kept.{Flights}
use Rattle.mesh_radio.proofs.Links.{radio_none}
use Rattle.mesh_radio.proofs.radio.Radio.restore.Goals as goal

pub invariant_of-result : goal.invariant_of-result
invariant_of-result c = radio_none c.args.nodes c.in_ok-links.links c.in_ok-ever.ever c.new-copies.result c.in_ok-links.ensures c.in_ok-ever.ensures c.requires.few
    (subst (λ (f : Flights). AllByRecursion (IsBetween c.args.nodes) f.flying) (sym c.new-copies.ensures) tt)
    (subst (λ (f : Flights). AllByRecursion IsPacketLong f.flying) (sym c.new-copies.ensures) tt)
