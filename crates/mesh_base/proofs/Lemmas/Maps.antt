-- What holds of each value of a map holds of each entry that is listed.
use Rattle.std.proofs.Common.{◌≡◌, true, cond, T, List, [], ◌∷◌, Some, None, refl, sym, ap, ◌∙◌}
use Rattle.std.specs.declared.cmp.Ordering.{Ordering}
use Rattle.std.specs.declared.cmp.Ordering.TheVariants.{Less, Equal, Greater}
use Rattle.std.specs.Ordering.{is_lt, is_eq, eq_by_cmp}
use Rattle.std.specs.Cmp.{IsTotalOrder, tied_itself}
use Rattle.std.specs.List.{AllByRecursion}
use Rattle.std.specs.FinMap as maps
use Rattle.std.specs.FinMap.{FinMap, find, is_sorted}
use Rattle.std.specs.FinMap.Entries.{below_all, find_tied}
use Rattle.std.proofs.lemmas.Option.{none-some}
use Rattle.mesh_base.proofs.Lemmas.Bools.{left_of_both, right_of_both}

pub is_less : (r : Ordering) → T (is_lt r) → r ≡ Less
is_less Less t = refl
is_less Equal t = absurd t
is_less Greater t = absurd t

none_below : {K X : Type 0} (R : K → K → Ordering) (k : K) (es : List (K × X)) → T (below_all R k es) → find R k es ≡ None
none_below R k [] below = refl
none_below R k (e ∷ es) below =
    let less : R k e.0 ≡ Less = is_less (R k e.0) (left_of_both (is_lt (R k e.0)) (below_all R k es) below) in
    rw less (none_below R k es (right_of_both (is_lt (R k e.0)) (below_all R k es) below))

module _ {K X : Type 0} (R : K → K → Ordering) (o : IsTotalOrder R) (P : K → X → Type 0) where
  still_found : (e : K × X) (es : List (K × X)) (k : K) (v : X) → T (below_all R e.0 es) → find R k es ≡ Some v → find R k (e ∷ es) ≡ Some v
  still_found e es k v below there = elim (R k e.0) as (λ r. R k e.0 ≡ r → cond (is_eq r) (Some e.1) (find R k es) ≡ Some v) [
    | Less ↦ λ is. there
    | Equal ↦ λ is. absurd (none-some v (sym (none_below R e.0 es below) ∙ find_tied R o k e.0 is es ∙ there))
    | Greater ↦ λ is. there
  ] refl

  each_found : (es : List (K × X)) → T (is_sorted R es) → ((k : K) (v : X) → find R k es ≡ Some v → P k v) → AllByRecursion (λ e. P e.0 e.1) es
  each_found [] sorted each = tt
  each_found (e ∷ es) sorted each =
      let tied : eq_by_cmp R e.0 e.0 ≡ true = ap is_eq (tied_itself o e.0) in
      let below = left_of_both (below_all R e.0 es) (is_sorted R es) sorted in
      let here : find R e.0 (e ∷ es) ≡ Some e.1 = rw tied refl in
      (each e.0 e.1 here, each_found es (right_of_both (below_all R e.0 es) (is_sorted R es) sorted) (λ k v there. each k v (still_found e es k v below there)))

  pub each_entry : (m : FinMap R X) → ((k : K) (v : X) → maps.get m k ≡ Some v → P k v) → AllByRecursion (λ e. P e.0 e.1) (maps.entries m)
  each_entry m each = each_found (maps.entries m) (maps.entries_sorted m) (λ k v there. each k v (maps.get-entries m k ∙ there))
