-- The copy of a rank, by those that are left where the ones before it are dropped.
use Rattle.std.proofs.Common.{◌≡◌, ℕ, zero, suc, ◌<◌, List, [], ◌∷◌, length, drop, Some, ap, arith}
use Rattle.std.specs.Prelude.{slice_get}

pub some-left : {X : Type 0} (xs : List X) (k : ℕ) → k < length xs → drop k xs ≡ [] → ⊥
some-left [] k lt e = omega arith
some-left (x ∷ xs) zero lt e = absurd cc
some-left (x ∷ xs) (suc k) lt e = some-left xs k (omega arith) e

pub first-left : {X : Type 0} (xs ys : List X) (k : ℕ) (y : X) → drop k xs ≡ y ∷ ys → slice_get xs k ≡ Some y
first-left [] ys zero y e = absurd cc
first-left [] ys (suc k) y e = absurd cc
first-left (x ∷ xs) ys zero y e = ap (λ l. slice_get l 0) e
first-left (x ∷ xs) ys (suc k) y e = first-left xs ys k y e

pub left-after : {X : Type 0} (xs ys : List X) (k : ℕ) (y : X) → drop k xs ≡ y ∷ ys → drop (suc k) xs ≡ ys
left-after [] ys zero y e = absurd cc
left-after [] ys (suc k) y e = absurd cc
left-after (x ∷ xs) ys zero y e = ap (λ l. drop 1 l) e
left-after (x ∷ xs) ys (suc k) y e = left-after xs ys k y e
