-- The entries of a map whose keys pass a test, as they are met one after another by rising key.
use Rattle.std.proofs.Common.{◌≡◌, Bool, true, false, cond, T, List, [], ◌∷◌, ◌++◌, Option, Some, None, refl, sym, ap, ◌∙◌}
use Rattle.std.specs.Prelude.{is_some}
use Rattle.std.specs.declared.cmp.Ordering.{Ordering}
use Rattle.std.specs.declared.cmp.Ordering.TheVariants.{Less, Equal, Greater}
use Rattle.std.specs.Ordering.{is_lt, is_le, is_eq, eq_by_cmp, ordering_reverse}
use Rattle.std.specs.Cmp.{IsTotalOrder, tied_itself}
use Rattle.std.specs.FinMap.Entries.{find, is_sorted, where_key, below_all}
use Rattle.mesh_base.proofs.Lemmas.Bools.{left_of_both, right_of_both}
use Rattle.mesh_base.proofs.Lemmas.Maps.{is_less}

still_there : {X : Type 0} (b : Bool) (x : X) (o : Option X) → is_some o ≡ true → is_some (cond b (Some x) o) ≡ true
still_there true x o there = refl
still_there false x o there = there

-- tests that agree on the keys that are there pass the same entries
pub where_same : {K X : Type 0} (R : K → K → Ordering) (o : IsTotalOrder R) (p q : K → Bool) (es : List (K × X)) → ((k : K) → is_some (find R k es) ≡ true → p k ≡ q k) → where_key R p es ≡ where_key R q es
where_same R o p q [] same = refl
where_same {K} {X} R o p q (e ∷ es) same =
    let tied : eq_by_cmp R e.0 e.0 ≡ true = ap is_eq (tied_itself o e.0) in
    let here : p e.0 ≡ q e.0 = same e.0 (rw tied refl) in
    let later : where_key R p es ≡ where_key R q es = where_same R o p q es (λ k there. same k (still_there (eq_by_cmp R k e.0) e.1 (find R k es) there)) in
    rw (here, later) refl

all_pass : {K X : Type 0} (R : K → K → Ordering) (es : List (K × X)) → where_key R (λ k. true) es ≡ es
all_pass R [] = refl
all_pass R (e ∷ es) = ap (λ xs. e ∷ xs) (all_pass R es)

none_passes : {K X : Type 0} (R : K → K → Ordering) (es : List (K × X)) → where_key R (λ k. false) es ≡ []
none_passes R [] = refl
none_passes R (e ∷ es) = none_passes R es

pub where_all : {K X : Type 0} (R : K → K → Ordering) (o : IsTotalOrder R) (p : K → Bool) (es : List (K × X)) → ((k : K) → is_some (find R k es) ≡ true → p k ≡ true) → where_key R p es ≡ es
where_all R o p es all = where_same R o p (λ k. true) es all ∙ all_pass R es

pub where_none : {K X : Type 0} (R : K → K → Ordering) (o : IsTotalOrder R) (p : K → Bool) (es : List (K × X)) → ((k : K) → is_some (find R k es) ≡ true → p k ≡ false) → where_key R p es ≡ []
where_none R o p es none = where_same R o p (λ k. false) es none ∙ none_passes R es

-- the entry of k, if there is one
abbrev pub at : {K X : Type 0} → K → Option X → List (K × X)
at k None = []
at k (Some x) = (k, x) ∷ []

abbrev pub before : {K : Type 0} → (K → K → Ordering) → K → K → Bool
before R b k = is_lt (R k b)

abbrev pub up_to : {K : Type 0} → (K → K → Ordering) → K → K → Bool
up_to R b k = is_le (R k b)

-- none of those above a key is up to it
none_above : {K X : Type 0} (R : K → K → Ordering) (o : IsTotalOrder R) (b x : K) (es : List (K × X)) → R b x ≡ Equal → T (below_all R x es) → (where_key R (before R b) es ≡ []) × (where_key R (up_to R b) es ≡ [])
none_above R o b x [] tie above = (refl, refl)
none_above {K} {X} R o b x (e ∷ es) tie above =
    let less : R x e.0 ≡ Less = is_less (R x e.0) (left_of_both (is_lt (R x e.0)) (below_all R x es) above) in
    let rest = none_above R o b x es tie (right_of_both (is_lt (R x e.0)) (below_all R x es) above) in
    let up : R b e.0 ≡ Less = o.congr b x e.0 tie ∙ less in
    let down : R e.0 b ≡ Greater = o.antisymm e.0 b ∙ ap ordering_reverse up in
    (rw (down, rest.0) refl, rw (down, rest.1) refl)

-- one more key passes: its entry comes behind
pub where_upto : {K X : Type 0} (R : K → K → Ordering) (o : IsTotalOrder R) (anti : (x y : K) → R x y ≡ Equal → x ≡ y) (b : K) (es : List (K × X)) → T (is_sorted R es) → where_key R (up_to R b) es ≡ where_key R (before R b) es ++ at b (find R b es)
where_upto R o anti b [] sorted = refl
where_upto {K} {X} R o anti b (e ∷ es) sorted =
    let later = where_upto R o anti b es (right_of_both (below_all R e.0 es) (is_sorted R es) sorted) in
    elim (R b e.0) as (λ r. R b e.0 ≡ r → where_key R (up_to R b) (e ∷ es) ≡ where_key R (before R b) (e ∷ es) ++ at b (find R b (e ∷ es))) [
      | Less ↦ λ r.
          let down : R e.0 b ≡ Greater = o.antisymm e.0 b ∙ ap ordering_reverse r in
          rw (down, r, later) refl
      | Equal ↦ λ r.
          let down : R e.0 b ≡ Equal = o.antisymm e.0 b ∙ ap ordering_reverse r in
          let none = none_above R o b e.0 es r (left_of_both (below_all R e.0 es) (is_sorted R es) sorted) in
          rw (down, r, none.0, none.1) (sym (ap (λ k. (k, e.1) ∷ []) (anti b e.0 r)))
      | Greater ↦ λ r.
          let down : R e.0 b ≡ Less = o.antisymm e.0 b ∙ ap ordering_reverse r in
          rw (down, r, later) refl
    ] refl
