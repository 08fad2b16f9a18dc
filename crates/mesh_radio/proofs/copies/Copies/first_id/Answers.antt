use Rattle.std.proofs.Common.{◌∙◌, ap, sym, subst}
use Rattle.std.specs.Prelude.{slice_get, option_map}
use Rattle.mesh_base.specs.declared.events.Flying.{Flying}
use Rattle.mesh_radio.specs.Kept.{Flights}
use Rattle.mesh_radio.specs.Casts.{IsLeastOf}
use Rattle.mesh_radio.proofs.Leasts.{first-id}
use Rattle.mesh_radio.proofs.copies.Copies.first_id.Goals as goal

pub returns-in_err-least : goal.returns-in_err-least
returns-in_err-least c =
    let es = c.self.inside.casts.entries in
    let none = subst (IsLeastOf es) c.in_err-least.was c.self.invariant.2 in
    c.from_residual.ensures
    ∙ ap (λ fs. option_map (λ (f : Flying). f.id) (slice_get fs 0)) (sym none)
    ∙ ap (λ (v : Flights). option_map (λ (f : Flying). f.id) (slice_get v.flying 0)) c.self.view_is

pub returns : goal.returns
returns c =
    let inside = c.self.inside in
    let es = inside.casts.entries in
    let kept = c.self.invariant.0 in
    first-id es inside.next c.in_ok-least.least kept.casts.rising kept.casts.lefts (subst (IsLeastOf es) c.in_ok-least.was c.self.invariant.2)
    ∙ ap (λ (v : Flights). option_map (λ (f : Flying). f.id) (slice_get v.flying 0)) c.self.view_is
