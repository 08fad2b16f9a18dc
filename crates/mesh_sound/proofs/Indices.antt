-- All elements of a list, one after another.
use Rattle.std.proofs.Common.{◌≡◌, ℕ, suc, ◌+◌, ◌≤◌, List, [], ◌∷◌, ◌++◌, length, drop, take, Some, sym, ap, subst, ◌∙◌, arith}
use Rattle.std.specs.Prelude.{slice_get}
use Rattle.std.specs.List.{AllByRecursion}
use Rattle.std.proofs.lemmas.Option.{slice_get_within, get_or_from_slice_get}
use Rattle.std.proofs.lemmas.List.{drop_all, take_more}
use Rattle.mesh_base.proofs.Lemmas.Lists.{drop_from}

-- what is left from an index on begins with what stands there
pub from : {A : Type 0} (xs : List A) (k : ℕ) (x : A) → slice_get xs k ≡ Some x → drop k xs ≡ x ∷ drop (k + 1) xs
from xs k x is = let up : suc k ≡ k + 1 = omega arith in drop_from xs k x is ∙ ap (λ n. x ∷ drop n xs) up

-- where P holds of what is left, it holds of all
abbrev pub IsEnough : {A : Type 0} → (A → Type 0) → List A → List A → Type 0
IsEnough P xs rest = AllByRecursion P rest → AllByRecursion P xs

pub goes_on : {A : Type 0} (P : A → Type 0) (xs : List A) (k : ℕ) (x : A) → slice_get xs k ≡ Some x → P x → IsEnough P xs (drop k xs) → IsEnough P xs (drop (k + 1) xs)
goes_on P xs k x is holds enough rest = enough (subst (AllByRecursion P) (sym (from xs k x is)) (holds, rest))

pub ends : {A : Type 0} (P : A → Type 0) (xs : List A) (k : ℕ) → length xs ≤ k → IsEnough P xs (drop k xs) → AllByRecursion P xs
ends P xs k le enough = enough (subst (AllByRecursion P) (sym (drop_all k xs le)) tt)

-- what stands before an index, and there
pub taken : {A : Type 0} (xs : List A) (k : ℕ) (x : A) → slice_get xs k ≡ Some x → take k xs ++ x ∷ [] ≡ take (k + 1) xs
taken xs k x is = ap (λ y. take k xs ++ y ∷ []) (sym (get_or_from_slice_get xs k x x is)) ∙ sym (take_more xs k x (slice_get_within xs k x is))
