-- A reader of lines by what it cuts.
use Rattle.std.proofs.Common.{◌≡◌, ℕ, Bool, Option, Some, None, Result, Err, sym, ap, subst}
use Rattle.std.proofs.Math.Nat.{ℕ_set}
use Rattle.std.specs.Option.{IfSome}
use Rattle.mesh_io.specs.NextLines.{limits_of}
use Rattle.mesh_io.specs.declared.limits.Limits.{Limits}
use Rattle.mesh_io.specs.declared.source.Source.{Ghosts}
use Rattle.mesh_io.specs.declared.cutter.Cutter.{Cutter}
use Rattle.mesh_io.specs.declared.lines.LinesWithin.{LinesWithin}
use Rattle.mesh_io.specs.declared.line_error.LineError.{LineError}

limits_prop : (x y : Limits) → IsProp (x ≡ y)
limits_prop x y = Prim.hlevel (ℕ_set)

-- a reader whose cutter stayed stayed
pub same_reader : {S : Type 0} {l i n : ℕ} {G : Ghosts S} (old : LinesWithin S l i n G) (now : Cutter S n G) (most : now.most ≡ limits_of l i) → now ≡ old.cutter
    → ◌≡◌ {A = LinesWithin S l i n G} (record { cutter = now; most = most }) old
same_reader {S} {l} {i} {n} {G} old now most e =
    subst (λ c. (m : c.most ≡ limits_of l i) → ◌≡◌ {A = LinesWithin S l i n G} (record { cutter = c; most = m }) old) (sym e)
    (λ m. ap (λ p. record { cutter = old.cutter; most = p }) (limits_prop (old.cutter).most (limits_of l i) m old.most)) most

-- what a cutter goes on to refuse, its reader does
pub reader_stays : {S : Type 0} {l i n : ℕ} {G : Ghosts S} (old : LinesWithin S l i n G) (now : Cutter S n G) (most : now.most ≡ limits_of l i) (result : Result Bool LineError)
    (refusal : Option LineError) → IfSome refusal (λ r. (result ≡ Err r) × (now ≡ old.cutter))
    → IfSome refusal (λ r. (result ≡ Err r) × ◌≡◌ {A = LinesWithin S l i n G} (record { cutter = now; most = most }) old)
reader_stays old now most result None h = tt
reader_stays old now most result (Some r) h = (h.0, same_reader old now most h.1)

-- and the other way round: the cutter of a reader that stayed stayed
pub cutter_stays : {S : Type 0} {l i n : ℕ} {G : Ghosts S} (old now : LinesWithin S l i n G) (result : Result Bool LineError) (refusal : Option LineError)
    → IfSome refusal (λ r. (result ≡ Err r) × (now ≡ old)) → IfSome refusal (λ r. (result ≡ Err r) × (now.cutter ≡ old.cutter))
cutter_stays old now result None h = tt
cutter_stays {S} {l} {i} {n} {G} old now result (Some r) h = (h.0, ap (λ (reader : LinesWithin S l i n G). reader.cutter) h.1)
