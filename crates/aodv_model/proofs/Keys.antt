-- The entries of a map by rising number.
use Rattle.std.proofs.Common.{◌≡◌, ℕ, ◌+◌, ◌<◌, ◌≤◌, true, false, List, [], ◌++◌, Option, Some, None, refl, sym, ap, ◌∙◌, arith, inl, inr}
use Rattle.std.specs.Prelude.{is_some}
use Rattle.std.specs.declared.cmp.Ordering.TheVariants.{Less, Equal, Greater}
use Rattle.std.specs.Ordering.{is_lt, is_le, nat_cmp}
use Rattle.std.specs.Cmp.{nat_cmp_is, nat_cmp_total}
use Rattle.std.specs.FinMap as maps
use Rattle.std.specs.FinMap.{FinMap, nat_cmp-IsAntisymmetric, entries_sorted, get-entries}
use Rattle.std.specs.FinMap.Entries.{where_key}
use Rattle.std.proofs.lemmas.Bool.{cases_lt}
use Rattle.aodv_model.proofs.Listing.{before, up_to, at, where_same, where_upto, where_all, where_none}

pub less : (k d : ℕ) → k < d → nat_cmp k d ≡ Less
less k d lt = sym (nat_cmp_is k d Less lt)

pub greater : (k d : ℕ) → d < k → nat_cmp k d ≡ Greater
greater k d lt = sym (nat_cmp_is k d Greater lt)

pub equal : (k d : ℕ) → k ≡ d → nat_cmp k d ≡ Equal
equal k d is = sym (nat_cmp_is k d Equal is)

pub not_below : (k d : ℕ) → d ≤ k → is_lt (nat_cmp k d) ≡ false
not_below k d le =
    elim (cases_lt d k) [
      | inl lt ↦ ap is_lt (sym (nat_cmp_is k d Greater lt))
      | inr ge ↦ ap is_lt (sym (nat_cmp_is k d Equal (omega arith)))
    ]

pub below_next : (d k : ℕ) → before nat_cmp (d + 1) k ≡ up_to nat_cmp d k
below_next d k =
    elim (cases_lt k d) [
      | inl lt ↦ ap is_lt (less k (d + 1) (omega arith)) ∙ sym (ap is_le (less k d lt))
      | inr le ↦ elim (cases_lt d k) [
        | inl gt ↦ not_below k (d + 1) (omega arith) ∙ sym (ap is_le (greater k d gt))
        | inr ge ↦ ap is_lt (less k (d + 1) (omega arith)) ∙ sym (ap is_le (equal k d (omega arith)))
      ]
    ]

-- the entries whose keys are below d
abbrev pub below : {X : Type 0} → ℕ → FinMap nat_cmp X → List (ℕ × X)
below d m = where_key nat_cmp (before nat_cmp d) (maps.entries m)

pub below_more : {X : Type 0} (m : FinMap nat_cmp X) (d : ℕ) → below (d + 1) m ≡ below d m ++ at d (maps.get m d)
below_more m d =
    where_same nat_cmp nat_cmp_total (before nat_cmp (d + 1)) (up_to nat_cmp d) (maps.entries m) (λ k there. below_next d k)
    ∙ where_upto nat_cmp nat_cmp_total nat_cmp-IsAntisymmetric d (maps.entries m) (entries_sorted m)
    ∙ ap (λ o. below d m ++ at d o) (sym (get-entries m d))

-- a key that is there has a value
value_there : {X : Type 0} (o : Option X) → is_some o ≡ true → (x : X) × (o ≡ Some x)
value_there None there = absurd (apart there)
  where
    apart : false ≡ true → ⊥
    apart h = cc
value_there (Some x) there = (x, refl)

pub below_none : {X : Type 0} (m : FinMap nat_cmp X) → below 0 m ≡ []
below_none m = where_none nat_cmp nat_cmp_total (before nat_cmp 0) (maps.entries m) (λ k there. not_below k 0 (omega arith))

-- where each key is below n, these are all
pub below_all : {X : Type 0} (m : FinMap nat_cmp X) (n : ℕ) → ((k : ℕ) (x : X) → maps.get m k ≡ Some x → k < n) → below n m ≡ maps.entries m
below_all m n within =
    where_all nat_cmp nat_cmp_total (before nat_cmp n) (maps.entries m) (λ k there.
    let found = value_there (maps.get m k) (ap is_some (get-entries m k) ∙ there) in
    ap is_lt (less k n (within k found.0 found.1)))
