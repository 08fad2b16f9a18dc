use Rattle.std.proofs.Common.{◌+◌, ap, sym, subst, arith}
use Rattle.mesh_radio.specs.Casts.{IsLeastOf}
use Rattle.mesh_radio.proofs.Nexts.{next-within}
use Rattle.mesh_radio.proofs.Leasts.{no-copies, least-is}
use Rattle.mesh_radio.proofs.casts.least_from.Goals as goal

pub returns-in_err-spot : goal.returns-in_err-spot
returns-in_err-spot c =
    let es = c.args.casts.now.entries in
    subst (IsLeastOf es) (sym c.from_residual.ensures) (no-copies es c.requires.casts.0 (c.requires.casts.1).rising c.in_err-spot.ensures.none)

pub overflow_add-result : goal.overflow_add-result
overflow_add-result c =
    let casts = c.requires.casts.1 in
    let within = next-within c.args.casts.now.entries c.requires.casts.0 0 c.in_ok-spot.spot.index c.in_ok-spot.spot.to (c.in_ok-first.first.now, c.in_ok-first.cast.now) casts.rising casts.lefts c.in_ok-spot.ensures.some (sym c.in_ok-first.ensures.entry) in
    omega (arith, c.count_below.ensures.value, within.1, casts.few)

pub returns : goal.returns
returns c =
    least-is c.args.casts.now.entries c.requires.casts.0 c.in_ok-spot.spot.index _ c.in_ok-spot.spot.to (c.in_ok-first.first.now, c.in_ok-first.cast.now) c.in_ok-spot.ensures.some (sym c.in_ok-first.ensures.entry)
    (ap (λ n. c.in_ok-first.first.now + n) c.count_below.ensures.value)
