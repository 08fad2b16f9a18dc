use Rattle.std.proofs.Common.{◌≡◌, ◌+◌, ◌-◌, true, false, leb, length, refl, sym, arith}
use Rattle.std.specs.Bool.{OnTrue}
use Rattle.std.proofs.lemmas.Bool.{leb-true}
use Rattle.std.proofs.lemmas.Option.{slice_get_within}
use Rattle.mesh_radio.specs.Casts.{Entry, AreCasts}
use Rattle.mesh_radio.proofs.Nexts.{ids-below}
use Rattle.mesh_radio.proofs.Joins.{rising-last}
use Rattle.mesh_radio.proofs.joining.is_after.Goals as goal

pub overflow_add-result : goal.overflow_add-result
overflow_add-result c =
    let es = c.args.casts.now.entries in
    let casts = c.requires.casts.1 in
    let e : Entry = (c.in-Some.first.now, c.in-Some.cast.now) in
    let most = ids-below 1 c.requires.casts.0 (length es - 1) es e casts.rising (sym c.in-Some.ensures.entry) in
    omega (arith, c.count.ensures.value, casts.few)

pub returns-in-Some : goal.returns-in-Some
returns-in-Some c =
    let es = c.args.casts.now.entries in
    let casts = c.requires.casts.1 in
    let e : Entry = (c.in-Some.first.now, c.in-Some.cast.now) in
    let at = sym c.in-Some.ensures.entry in
    let within = slice_get_within es (length es - 1) e at in
    let sum = c.in-Some.first.now + c.count.result in
    elim (leb sum c.args.id) as (λ b. leb sum c.args.id ≡ b → OnTrue b (AreCasts es c.args.id)) [
      | true ↦ λ is.
          let le = leb-true sum c.args.id is in
          record {
            rising = rising-last 1 c.requires.casts.0 c.args.id (length es - 1) es e casts.rising at (omega arith) (omega (arith, c.count.ensures.value));
            few = omega (arith, c.ranges.id.fits);
            lefts = casts.lefts;
            alone = casts.alone;
          }
      | false ↦ λ _. tt
    ] refl
