-- What holds of each entry after a change of a table.
use Rattle.std.proofs.Common.{◌≡◌, ℕ, ◌<◌, ◌≤◌, Bool, true, false, ◌&&◌, ◌==◌, nat_lt, Some, None, Option, refl, ap, sym, ◌∙◌, subst, arith}
use Rattle.std.specs.Prelude.{option_map, if◌then◌else◌, unwrap_or}
use Rattle.std.proofs.lemmas.Bool.{eqb-true}
use Rattle.std.proofs.lemmas.Bool.Decides.{nat_tests}
use Rattle.std.proofs.lemmas.Option.{same_Some, none-some}
use Rattle.std.specs.FinMap as maps
use Rattle.aodv_model.specs.Quality.{inc, is_val}
use Rattle.aodv_model.specs.declared.entry.Entry.{Entry}
use Rattle.aodv_model.proofs.Lookups.{get-accepted, get-unreachable_by, get-update}
use Rattle.aodv_model.specs.Tables.{Dests, Table, accepted_unreachable, entry_after, goes_by, merge, unreachable_by, update}

-- ---- updates

pub after_by : (Q : Entry → Type 0) (o : Option Entry) (r : Entry) → Q r → ((s : Entry) → o ≡ Some s → Q (merge s r)) → Q (entry_after o r)
after_by Q None r new over = new
after_by Q (Some s) r new over = over s refl

each_updated : (P : ℕ → Entry → Type 0) (rt : Table) (d : ℕ) (r : Entry) (q : ℕ) (e : Entry) (b : Bool) → (q == d) ≡ b → (if b then Some (entry_after (maps.get rt d) r) else maps.get rt q) ≡ Some e → ((e : Entry) → maps.get rt q ≡ Some e → P q e) → P d (entry_after (maps.get rt d) r) → P q e
each_updated P rt d r q e true same is old new =
    subst (λ k. P k e) (sym (eqb-true q d same)) (subst (P d) (same_Some _ _ is) new)
each_updated P rt d r q e false same is old new = old e is

-- what holds of each entry, and of the new one
pub update_each : (P : ℕ → Entry → Type 0) (rt : Table) (d : ℕ) (r : Entry) → ((q : ℕ) (e : Entry) → maps.get rt q ≡ Some e → P q e) → P d (entry_after (maps.get rt d) r) → (q : ℕ) (e : Entry) → maps.get (update rt d r) q ≡ Some e → P q e
update_each P rt d r old new q e is = each_updated P rt d r q e (q == d) refl (sym (get-update rt d r q) ∙ is) (old q) new

-- ---- changes of each entry

pub mapped_each : (P : ℕ → Entry → Type 0) (g : ℕ → Entry → Entry) (q : ℕ) (e : Entry) (o : Option Entry) → option_map (g q) o ≡ Some e → ((e : Entry) → o ≡ Some e → P q (g q e)) → P q e
mapped_each P g q e None is each = absurd (none-some e is)
mapped_each P g q e (Some s) is each = subst (P q) (same_Some _ _ is) (each s refl)

-- each number stated is above the one that stands there
pub record Raises (rt : Table) (dests : Dests) : Type 0 where
  pub up : (d : ℕ) (e : Entry) (m : ℕ) → maps.get rt d ≡ Some e → maps.get dests d ≡ Some m → (e.dsn ≤ m) × (1 ≤ e.dsn → e.dsn < m)

raised : (e : Entry) (b : Bool) (m : ℕ) → option_map (λ (e : Entry). inc e.dsn) (if b then Some e else None) ≡ Some m → (e.dsn ≤ m) × (1 ≤ e.dsn → e.dsn < m)
raised e b m is = grind (arith, nat_tests)

pub unreachable_by_raises : (rt : Table) (y : ℕ) → Raises rt (unreachable_by rt y)
unreachable_by_raises rt y = record {
  up = λ d e m here is. raised e (goes_by (maps.get rt d) y) m (ap (λ o. option_map (λ (e : Entry). inc e.dsn) (if goes_by (maps.get rt d) y then o else None)) (sym here) ∙ sym (get-unreachable_by rt y d) ∙ is);
}

accepted_up : (e : Entry) (b : Bool) (o : Option ℕ) (m : ℕ) → (if b && nat_lt e.dsn (unwrap_or o 0) then o else None) ≡ Some m → (e.dsn ≤ m) × (1 ≤ e.dsn → e.dsn < m)
accepted_up e b o m is = grind (arith, nat_tests)

pub accepted_raises : (rt : Table) (y : ℕ) (dests : Dests) → Raises rt (accepted_unreachable rt y dests)
accepted_raises rt y dests = record { up = λ d e m here is. accepted_up e (is_val e.flag && (e.next == y)) (maps.get dests d) m (rw here at (sym (get-accepted rt y dests d) ∙ is)) }
