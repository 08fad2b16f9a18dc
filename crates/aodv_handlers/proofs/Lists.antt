-- Lists from an index on, sets, and the entries of a map.
use Rattle.std.proofs.Common.{◌≡◌, ℕ, zero, suc, ◌≤◌, Bool, true, false, cond, ◌||◌, ◌↔◌, IsTrue, Some, None, List, [], ◌∷◌, length, map, refl, sym, ap, ◌∙◌, eq-eqb, arith}
use Rattle.std.specs.Prelude.{slice_get}
use Rattle.std.specs.List.{list_any}
use Rattle.std.specs.Ordering.{nat_cmp, eq_by_cmp}
use Rattle.std.specs.Cmp.{unsigned_tied}
use Rattle.std.specs.FinMap as maps
use Rattle.std.specs.FinMap.{FinMap, nat_cmp-IsAntisymmetric}
use Rattle.std.specs.FinSet as sets
use Rattle.std.proofs.lemmas.Cmp.{nat_cmp_total}
use Rattle.std.proofs.lemmas.Bool.{eqb-true}
use Rattle.std.proofs.lemmas.Option.{none-some}
use Rattle.std.proofs.Math.ListN.{drop}
use Rattle.std.specs.FinMap.Entries.{where_key, find-where_key, is_sorted-where_key}
use Rattle.mesh_base.specs.Members.{NodeIds}
use Rattle.aodv_model.specs.Handlers.{is_empty}
use Rattle.aodv_table.proofs.Lookups.{same_nodes}

pub from_end : {A : Type 0} (xs : List A) (k : ℕ) → length xs ≤ k → drop k xs ≡ []
from_end [] zero h = refl
from_end [] (suc k) h = refl
from_end (x ∷ xs) zero h = absurd (omega arith)
from_end (x ∷ xs) (suc k) h = from_end xs k (omega arith)

-- ---- sets

or_assoc : (a b c : Bool) → ((a || b) || c) ≡ (a || (b || c))
or_assoc true b c = refl
or_assoc false b c = refl

pub empty_union : (s : NodeIds) → sets.union sets.empty s ≡ s
empty_union s = same_nodes _ s (λ q. sets.contains-union nat_cmp_total sets.empty s q ∙ ap (λ (b : Bool). b || sets.contains s q) (sets.contains-empty nat_cmp q))

pub union_assoc : (r s t : NodeIds) → sets.union (sets.union r s) t ≡ sets.union r (sets.union s t)
union_assoc r s t = same_nodes _ _ (λ q.
    sets.contains-union nat_cmp_total (sets.union r s) t q
    ∙ ap (λ (b : Bool). b || sets.contains t q) (sets.contains-union nat_cmp_total r s q)
    ∙ or_assoc (sets.contains r q) (sets.contains s q) (sets.contains t q)
    ∙ sym (sets.contains-union nat_cmp_total r (sets.union s t) q ∙ ap (λ (b : Bool). sets.contains r q || b) (sets.contains-union nat_cmp_total s t q)))

pub empty_is : is_empty sets.empty ≡ true
empty_is = eq-eqb _ 0 (sets.len-empty nat_cmp)

pub is_empty_same : (s : NodeIds) → is_empty s ≡ true → s ≡ sets.empty
is_empty_same s e = sets.empty_of_len s (eqb-true (sets.len s) 0 e)

-- a test for the empty set
pub tests_empty : (r : Bool) (s : NodeIds) → IsTrue r ↔ (s ≡ sets.empty) → r ≡ is_empty s
tests_empty true s h = sym (ap is_empty (h.0 refl) ∙ empty_is)
tests_empty false s h = case (is_empty s) refl
  where
    case : (b : Bool) → is_empty s ≡ b → false ≡ b
    case true e = h.1 (is_empty_same s e)
    case false e = refl

-- ---- the entries of a map

pub entries_where : {X : Type 0} (m : FinMap nat_cmp X) (p : ℕ → Bool) → maps.entries (maps.retain_keys m p) ≡ where_key nat_cmp p (maps.entries m)
entries_where m p =
    let alike : (q x : ℕ) → nat_cmp q x ≡ _ → p x ≡ p q = λ q x tie. ap p (sym (nat_cmp-IsAntisymmetric q x tie)) in
    let sorted = is_sorted-where_key nat_cmp p (maps.entries m) (maps.entries_sorted m) in
    let same : maps.retain_keys m p ≡ maps.from_sorted (where_key nat_cmp p (maps.entries m)) =
    maps.same_map nat_cmp_total nat_cmp-IsAntisymmetric _ _ (λ q.
    maps.get-retain_keys m p q (alike q)
    ∙ ap (λ o. cond (p q) o None) (maps.get-entries m q)
    ∙ sym (maps.get-from_sorted nat_cmp (where_key nat_cmp p (maps.entries m)) q sorted ∙ find-where_key nat_cmp p q (alike q) (maps.entries m))) in
    ap maps.entries same ∙ maps.entries-from_sorted nat_cmp (where_key nat_cmp p (maps.entries m)) sorted

pub any_there : {X : Type 0} (es : List (ℕ × X)) (k : ℕ) (p : ℕ × X) → slice_get es k ≡ Some p → list_any (eq_by_cmp nat_cmp p.0) (map (λ e. e.0) es) ≡ true
any_there [] k p is = absurd (none-some p is)
any_there (e ∷ es) zero p is =
    let same : e ≡ p = cc in
    ap (λ (b : Bool). b || list_any (eq_by_cmp nat_cmp p.0) (map (λ e. e.0) es)) (unsigned_tied p.0 e.0 ∙ eq-eqb p.0 e.0 (ap (λ p. p.0) (sym same)))
any_there (e ∷ es) (suc k) p is = ap (λ (b : Bool). eq_by_cmp nat_cmp p.0 e.0 || b) (any_there es k p is) ∙ or_true (eq_by_cmp nat_cmp p.0 e.0)
  where
    or_true : (b : Bool) → (b || true) ≡ true
    or_true true = refl
    or_true false = refl
