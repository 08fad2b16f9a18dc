use Rattle.std.proofs.Common.{◌≡◌, ◌<◌, ◌+◌, ◌-◌, ◌/◌, length, Some, arith, refl, ap}
use Rattle.std.specs.Prelude.{slice_get}
use Rattle.std.proofs.lemmas.Option.{slice_get_read}
use Rattle.mesh_trail.specs.declared.casts.Cast.{Cast}
use Rattle.mesh_trail.proofs.Positions.{ends_rise}
use Rattle.mesh_trail.proofs.casts.position_after.Goals as goal

pub halves-preserved-then-casts-middle : goal.halves-preserved-then-casts-middle
halves-preserved-then-casts-middle c =
    let cs = c.args.casts.now in
    let m = c.halves.low + (c.halves.high - c.halves.low) / 2 in
    let inv = c.halves.invariant in
    let within : m < length cs = omega arith in
    let at : slice_get cs m ≡ Some c.index-casts-middle.result = slice_get_read cs (length cs) m c.index-casts-middle.result refl within c.index-casts-middle.is in
    record {
      le = omega arith;
      within = omega arith;
      below = λ j d l is. let rise = ends_rise 0 cs c.requires.0 j m d c.index-casts-middle.result c.requires.1 (omega arith) is at in let same = ap (λ (e : Cast). e.end) c.index-casts-middle.is in omega (arith, same);
      above = inv.above;
    }

pub halves-preserved : goal.halves-preserved
halves-preserved c =
    let cs = c.args.casts.now in
    let m = c.halves.low + (c.halves.high - c.halves.low) / 2 in
    let inv = c.halves.invariant in
    let within : m < length cs = omega arith in
    let at : slice_get cs m ≡ Some c.index-casts-middle.result = slice_get_read cs (length cs) m c.index-casts-middle.result refl within c.index-casts-middle.is in
    record {
      le = omega arith;
      within = omega arith;
      below = inv.below;
      above = λ j d l is. let rise = ends_rise 0 cs c.requires.0 m j c.index-casts-middle.result d c.requires.1 l at is in let same = ap (λ (e : Cast). e.end) c.index-casts-middle.is in omega (arith, same);
    }
