use Rattle.std.proofs.Common.{rules, arith}
use Rattle.mesh_radio.proofs.Joins.{all-cut}
use Rattle.mesh_radio.proofs.joining.free_from.Goals as goal

pub returns-clause-same : goal.returns-clause-same
returns-clause-same c =
    let casts = c.requires.casts.1 in
    (all-cut _ c.args.id _ (λ k v b w g call. search rules) 1 c.requires.casts.0 _ _ c.retain.ensures.filtered casts.rising casts.lefts casts.alone c.requires.before c.requires.some).same

pub returns-clause-casts : goal.returns-clause-casts
returns-clause-casts c =
    let casts = c.requires.casts.1 in
    let cut = all-cut _ c.args.id _ (λ k v b w g call. search rules) 1 c.requires.casts.0 _ _ c.retain.ensures.filtered casts.rising casts.lefts casts.alone c.requires.before c.requires.some in
    record { rising = cut.rising; few = omega (arith, c.ranges.id.fits); lefts = cut.lefts; alone = cut.alone }
