-- What tables answer after an entry is written, and the sets of their destinations. (What they answer after the
-- model's changes stands in aodv_model.)
use Rattle.std.proofs.Common.{◌≡◌, ℕ, Bool, true, false, cond, eqb, ◌&&◌, Option, Some, None, refl, ap, sym, ◌∙◌}
use Rattle.std.specs.Prelude.{◌==◌, is_some}
use Rattle.std.proofs.lemmas.Cmp.{nat_cmp_total}
use Rattle.std.specs.Ordering.{nat_cmp}
use Rattle.std.specs.Cmp.{unsigned_tied}
use Rattle.std.specs.FinMap as maps
use Rattle.std.specs.FinMap.{FinMap, nat_cmp-IsAntisymmetric}
use Rattle.std.specs.FinSet as sets
use Rattle.mesh_base.specs.Members.{NodeIds}
use Rattle.aodv_model.specs.declared.entry.Entry.{Entry}
use Rattle.aodv_model.specs.Quality.{is_val}
use Rattle.aodv_model.specs.Tables.{Table, goes_by, is_valid_in, in_vD}
use Rattle.aodv_model.proofs.Lookups.{contains-dests_of, get-kept}
use Rattle.aodv_table.specs.Calls.{with_entry, valid_dests, dests_by}

-- an entry is written or taken away
pub get-with_entry : (rt : Table) (d : ℕ) (o : Option Entry) (q : ℕ) → maps.get (with_entry rt d o) q ≡ cond (eqb q d) o (maps.get rt q)
get-with_entry rt d None q = maps.get-remove nat_cmp_total rt d q ∙ ap (λ (b : Bool). cond b None (maps.get rt q)) (unsigned_tied q d)
get-with_entry rt d (Some e) q = maps.get-insert nat_cmp_total rt d e q ∙ ap (λ (b : Bool). cond b (Some e) (maps.get rt q)) (unsigned_tied q d)

-- two tables with the same entry for each destination are the same
pub same_table : {V : Type 0} (a b : FinMap nat_cmp V) → ((q : ℕ) → maps.get a q ≡ maps.get b q) → a ≡ b
same_table a b same = maps.same_map nat_cmp_total nat_cmp-IsAntisymmetric a b same

pub same_nodes : (a b : NodeIds) → ((q : ℕ) → sets.contains a q ≡ sets.contains b q) → a ≡ b
same_nodes a b same = sets.same_set nat_cmp_total nat_cmp-IsAntisymmetric a b same

-- ---- sets of destinations

kept_if_valid : (o : Option Entry) → is_some (cond (is_valid_in o) o None) ≡ is_valid_in o
kept_if_valid None = refl
kept_if_valid (Some e) = elim (is_val e.flag) as (λ b. is_some (cond b (Some e) None) ≡ b) [ true ↦ refl | false ↦ refl ]

pub contains-valid_dests : (rt : Table) (q : ℕ) → sets.contains (valid_dests rt) q ≡ is_valid_in (maps.get rt q)
unfolding valid_dests
contains-valid_dests rt q = contains-dests_of (maps.retain_keys rt (in_vD rt)) q ∙ ap is_some (get-kept rt (in_vD rt) q) ∙ kept_if_valid (maps.get rt q)

pub kept_if_by : (o : Option Entry) (y : ℕ) → is_some (cond (goes_by o y) o None) ≡ goes_by o y
kept_if_by None y = refl
kept_if_by (Some e) y = elim (is_val e.flag && (e.next == y)) as (λ b. is_some (cond b (Some e) None) ≡ b) [ true ↦ refl | false ↦ refl ]

pub contains-dests_by : (rt : Table) (y q : ℕ) → sets.contains (dests_by rt y) q ≡ goes_by (maps.get rt q) y
unfolding dests_by
contains-dests_by rt y q = contains-dests_of (maps.retain_keys rt (λ d. goes_by (maps.get rt d) y)) q ∙ ap is_some (get-kept rt (λ d. goes_by (maps.get rt d) y) q) ∙ kept_if_by (maps.get rt q) y
