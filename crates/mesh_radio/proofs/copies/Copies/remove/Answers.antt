use Rattle.std.proofs.Common.{◌∙◌, ap, sym}
use Rattle.std.specs.Prelude.{option_map}
use Rattle.mesh_base.specs.declared.events.Flying.{Flying}
use Rattle.mesh_radio.specs.Copies.{find_copy}
use Rattle.mesh_radio.specs.Kept.{Flights}
use Rattle.mesh_radio.proofs.Changes.{none-less}
use Rattle.mesh_radio.proofs.Entries.{found-copy}
use Rattle.mesh_radio.proofs.copies.Copies.remove.Goals as goal

pub remove_found-requires : goal.remove_found-requires
remove_found-requires c =
    let inside = c.self.inside in
    let found = c.in-Some.ensures.some in
    ap (λ (v : Flights). option_map (λ (f : Flying). f.to) (find_copy v.flying c.args.id)) (sym c.self.view_is)
    ∙ ap (option_map (λ (f : Flying). f.to)) (found-copy inside.casts.entries 1 inside.next c.args.id c.in-Some.spot.index c.in-Some.spot.to found.entry (c.self.invariant.0).casts.rising found found.at)

pub returns-in_default : goal.returns-in_default
returns-in_default c =
    let inside = c.self.inside in
    none-less inside.casts.entries inside.next c.args.id c.args.self.now (c.self.invariant.0).casts.rising (ap (λ (v : Flights). v.flying) c.self.view_is) c.in_default.ensures.none
