use Rattle.std.proofs.Common.{◌∙◌, ap, sym}
use Rattle.std.specs.Prelude.{option_map}
use Rattle.mesh_base.specs.declared.events.Flying.{Flying}
use Rattle.mesh_radio.specs.Copies.{find_copy}
use Rattle.mesh_radio.specs.Kept.{Flights}
use Rattle.mesh_radio.proofs.Entries.{find-all, found-copy}
use Rattle.mesh_radio.proofs.copies.Copies.receiver.Goals as goal

pub returns-in_err-spot : goal.returns-in_err-spot
returns-in_err-spot c =
    let inside = c.self.inside in
    c.from_residual.ensures
    ∙ sym (ap (option_map (λ (f : Flying). f.to)) (find-all 1 inside.next c.args.id inside.casts.entries (c.self.invariant.0).casts.rising ∙ c.in_err-spot.ensures.none))
    ∙ ap (λ (v : Flights). option_map (λ (f : Flying). f.to) (find_copy v.flying c.args.id)) c.self.view_is

pub returns : goal.returns
returns c =
    let inside = c.self.inside in
    let found = c.in_ok-spot.ensures.some in
    sym (ap (option_map (λ (f : Flying). f.to)) (found-copy inside.casts.entries 1 inside.next c.args.id c.in_ok-spot.spot.index c.in_ok-spot.spot.to found.entry (c.self.invariant.0).casts.rising found found.at))
    ∙ ap (λ (v : Flights). option_map (λ (f : Flying). f.to) (find_copy v.flying c.args.id)) c.self.view_is
