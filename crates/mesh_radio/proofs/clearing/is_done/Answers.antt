use Rattle.std.proofs.Common.{◌≡◌, true, false, not, Some, sym}
use Rattle.std.specs.Prelude.{slice_get, is_some}
use Rattle.std.specs.Bool.{OnTrue}
use Rattle.mesh_radio.specs.Casts.{Entry, has_left}
use Rattle.mesh_radio.proofs.Sweeps.{none-left}
use Rattle.mesh_radio.proofs.clearing.is_done.Goals as goal

pub returns-in-Some : goal.returns-in-Some
returns-in-Some c =
    let e : Entry = (c.in-Some.field-0-0.now, c.in-Some.cast.now) in
    elim c.is_none.result as (λ b. is_some c.next_from.result ≡ not b → OnTrue b ((x : Entry) × (slice_get c.args.casts.now.entries c.args.index ≡ Some x) × (has_left x.1 ≡ false))) [
      | true ↦ λ none. (e, sym c.in-Some.ensures.entry, none-left c.in-Some.cast.now c.next_from.result c.next_from.ensures.least none)
      | false ↦ λ _. tt
    ] c.is_none.ensures
