use Rattle.std.proofs.Common.{◌≡◌, ◌-◌, true, false, length, Some, sym, arith}
use Rattle.std.specs.Bool.{OnTrue}
use Rattle.std.specs.Prelude.{slice_get}
use Rattle.mesh_radio.specs.Casts.{Entry}
use Rattle.mesh_radio.specs.Gathered.{IsNextOf}
use Rattle.mesh_radio.proofs.Nexts.{ids-below}
use Rattle.mesh_radio.proofs.gathering.is_next.Goals as goal

pub is_next_of-requires : goal.is_next_of-requires
is_next_of-requires c =
    let es = c.args.casts.now.entries in
    let casts = c.requires.1 in
    let e : Entry = (c.in-Some.first.now, c.in-Some.cast.now) in
    let most = ids-below 1 c.requires.0 (length es - 1) es e casts.rising (sym c.in-Some.ensures.entry) in
    record { few = omega (arith, casts.few) }

pub returns-in-Some : goal.returns-in-Some
returns-in-Some c =
    let es = c.args.casts.now.entries in
    let f = c.args.f.now in
    let e : Entry = (c.in-Some.first.now, c.in-Some.cast.now) in
    let at = sym c.in-Some.ensures.entry in
    elim c.is_next_of.result as (λ b. OnTrue b (IsNextOf e f) → OnTrue b ((x : Entry) × (slice_get es (length es - 1) ≡ Some x) × IsNextOf x f)) [
      | true ↦ λ n. (e, at, n)
      | false ↦ λ _. tt
    ] c.is_next_of.ensures
