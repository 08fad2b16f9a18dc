-- What stands at an index of a list, and what holds of each element.
use Rattle.std.proofs.Common.{◌≡◌, ℕ, zero, suc, ◌<◌, ◌≤◌, List, [], ◌∷◌, ◌++◌, length, map, take, drop, eqb, Some, refl, ap, subst, arith}
use Rattle.std.specs.Prelude.{slice_get, slice_set}
use Rattle.std.specs.List.{AllByRecursion}
use Rattle.std.proofs.lemmas.Option.{none-some, same_Some}
use Rattle.std.proofs.lemmas.List.Splits.{length-slice_split}
use Rattle.mesh_base.specs.Parts.{parts}

-- ---- an index

-- something stands at each index
pub some_at : {A : Type 0} (xs : List A) (i : ℕ) → i < length xs → (x : A) × (slice_get xs i ≡ Some x)
some_at [] i lt = absurd (omega (arith, lt))
some_at (x ∷ xs) zero lt = (x, refl)
some_at (x ∷ xs) (suc i) lt = some_at xs i (omega (arith, lt))

-- it stands there when more comes behind it
pub still_at : {A : Type 0} (xs ys : List A) (i : ℕ) (x : A) → slice_get xs i ≡ Some x → slice_get (xs ++ ys) i ≡ Some x
still_at [] ys i x is = absurd (none-some x is)
still_at (y ∷ xs) ys zero x is = is
still_at (y ∷ xs) ys (suc i) x is = still_at xs ys i x is

-- the last one
pub last_at : {A : Type 0} (xs : List A) (x : A) → slice_get (xs ++ x ∷ []) (length xs) ≡ Some x
last_at [] x = refl
last_at (y ∷ xs) x = last_at xs x

-- what is left from an index on begins with what stands there
pub drop_from : {A : Type 0} (xs : List A) (i : ℕ) (x : A) → slice_get xs i ≡ Some x → drop i xs ≡ x ∷ drop (suc i) xs
drop_from [] i x is = absurd (none-some x is)
drop_from (y ∷ xs) zero x is = ap (λ z. z ∷ xs) (same_Some y x is)
drop_from (y ∷ xs) (suc i) x is = drop_from xs i x is

-- of two changes at one index the second stays
pub set_again : {A : Type 0} (xs : List A) (i : ℕ) (u v : A) → slice_set (slice_set xs i u) i v ≡ slice_set xs i v
set_again [] i u v = refl
set_again (x ∷ xs) zero u v = refl
set_again (x ∷ xs) (suc i) u v = ap (λ ys. x ∷ ys) (set_again xs i u v)

-- ---- what holds of each

-- it holds of the one at an index
pub each_at : {A : Type 0} (P : A → Type 0) (xs : List A) (i : ℕ) (x : A) → AllByRecursion P xs → slice_get xs i ≡ Some x → P x
each_at P [] i x all is = absurd (none-some x is)
each_at P (y ∷ xs) zero x all is = subst P (same_Some y x is) all.0
each_at P (y ∷ xs) (suc i) x all is = each_at P xs i x all.1 is

-- of the first ones
pub each_take : {A : Type 0} (P : A → Type 0) (k : ℕ) (xs : List A) → AllByRecursion P xs → AllByRecursion P (take k xs)
each_take P zero xs all = tt
each_take P (suc k) [] all = tt
each_take P (suc k) (x ∷ xs) all = (all.0, each_take P k xs all.1)

-- of the images
pub each_mapped : {A B : Type 0} (f : A → B) (P : B → Type 0) (xs : List A) → AllByRecursion (λ x. P (f x)) xs → AllByRecursion P (map f xs)
each_mapped f P [] all = tt
each_mapped f P (x ∷ xs) all = (all.0, each_mapped f P xs all.1)

-- ---- the parts of a text

pub some_parts : (mark : ℕ) (text : List ℕ) → 1 ≤ length (parts mark text)
some_parts mark text = omega (arith, length-slice_split (λ b. eqb b mark) text)
