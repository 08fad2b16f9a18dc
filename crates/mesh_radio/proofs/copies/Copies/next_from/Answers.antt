use Rattle.std.proofs.Common.{◌+◌, ◌∷◌, ◌∙◌, ap, sym, arith}
use Rattle.mesh_radio.specs.Copies.{from_id}
use Rattle.mesh_radio.specs.Kept.{Flights}
use Rattle.mesh_radio.specs.Casts.{copies_of}
use Rattle.mesh_radio.proofs.Entries.{find-all, copies-numbered, none-or}
use Rattle.mesh_radio.proofs.Nexts.{from-none, next-told, next-within}
use Rattle.mesh_radio.proofs.copies.Copies.next_from.Goals as goal

pub returns-in_err-spot-clause-none : goal.returns-in_err-spot-clause-none
returns-in_err-spot-clause-none c =
    let inside = c.self.inside in
    let es = inside.casts.entries in
    let kept = c.self.invariant.0 in
    none-or c.from_residual.result _
    (ap (λ (v : Flights). from_id v.flying c.args.id) (sym c.self.view_is)
    ∙ from-none c.args.id 1 inside.next (copies_of es) (copies-numbered 1 inside.next es kept.casts.rising) (λ q le. find-all 1 inside.next q es kept.casts.rising ∙ c.in_err-spot.ensures.none q le))

pub overflow_add-result : goal.overflow_add-result
overflow_add-result c =
    let inside = c.self.inside in
    let kept = c.self.invariant.0 in
    let within = next-within inside.casts.entries inside.next c.args.id c.in_ok-spot.spot.index c.in_ok-spot.spot.to (c.in_ok-first.first.now, c.in_ok-first.cast.now) kept.casts.rising kept.casts.lefts c.in_ok-spot.ensures.some (sym c.in_ok-first.ensures.entry) in
    omega (arith, c.count_below.ensures.value, within.1, kept.casts.few)

pub returns-clause-some : goal.returns-clause-some
returns-clause-some c =
    let inside = c.self.inside in
    let es = inside.casts.entries in
    let kept = c.self.invariant.0 in
    let first = c.in_ok-first.first.now in
    let cast = c.in_ok-first.cast.now in
    let to = c.in_ok-spot.spot.to in
    let told = next-told es inside.next c.args.id c.in_ok-spot.spot.index to (first, cast) kept.casts.rising kept.casts.lefts c.in_ok-spot.ensures.some (sym c.in_ok-first.ensures.entry) in
    ap (λ (v : Flights). from_id v.flying c.args.id) (sym c.self.view_is)
    ∙ told
    ∙ ap (λ n. record { id = first + n; from = cast.from; to = to; bytes = cast.bytes } ∷ from_id (copies_of es) (first + n + 1)) (sym c.count_below.ensures.value)
    ∙ ap (λ bs. record { id = first + c.count_below.result; from = cast.from; to = to; bytes = bs } ∷ from_id (copies_of es) (first + c.count_below.result + 1)) (sym c.as_slice.ensures)
    ∙ ap (λ (v : Flights). record { id = first + c.count_below.result; from = cast.from; to = to; bytes = c.as_slice.result.now } ∷ from_id v.flying (first + c.count_below.result + 1)) c.self.view_is

pub returns-clause-below : goal.returns-clause-below
returns-clause-below c =
    let inside = c.self.inside in
    let kept = c.self.invariant.0 in
    let within = next-within inside.casts.entries inside.next c.args.id c.in_ok-spot.spot.index c.in_ok-spot.spot.to (c.in_ok-first.first.now, c.in_ok-first.cast.now) kept.casts.rising kept.casts.lefts c.in_ok-spot.ensures.some (sym c.in_ok-first.ensures.entry) in
    let next = ap (λ (v : Flights). v.next_copy) c.self.view_is in
    (omega (arith, c.count_below.ensures.value, within.0), omega (arith, c.count_below.ensures.value, within.1), omega (arith, kept.casts.few))
