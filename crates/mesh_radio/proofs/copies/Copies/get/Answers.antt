use Rattle.std.proofs.Common.{◌∙◌, ap, sym}
use Rattle.std.specs.Prelude.{option_map}
use Rattle.mesh_radio.specs.Copies.{held_seen, find_copy}
use Rattle.mesh_radio.specs.Kept.{Flights}
use Rattle.mesh_radio.proofs.Entries.{find-all, found-copy}
use Rattle.mesh_radio.proofs.copies.Copies.get.Goals as goal

pub returns-in_err-spot : goal.returns-in_err-spot
returns-in_err-spot c =
    let inside = c.self.inside in
    ap (option_map held_seen) c.from_residual.ensures
    ∙ sym (find-all 1 inside.next c.args.id inside.casts.entries (c.self.invariant.0).casts.rising ∙ c.in_err-spot.ensures.none)
    ∙ ap (λ (v : Flights). find_copy v.flying c.args.id) c.self.view_is

pub returns : goal.returns
returns c =
    let inside = c.self.inside in
    let cast = c.in_ok-cast.cast.now in
    sym (found-copy inside.casts.entries 1 inside.next c.args.id c.in_ok-spot.spot.index c.in_ok-spot.spot.to (c.in_ok-cast.field-0-0.now, cast) (c.self.invariant.0).casts.rising c.in_ok-spot.ensures.some (sym c.in_ok-cast.ensures.entry))
    ∙ ap (λ (v : Flights). find_copy v.flying c.args.id) c.self.view_is
