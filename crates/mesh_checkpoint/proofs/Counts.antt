-- Counting data.
use Rattle.std.proofs.Common.{◌≡◌, List, [], ◌∷◌, length, refl, arith}
use Rattle.std.specs.List.{sum_by}
use Rattle.std.proofs.lemmas.List.Sums.{sum_by-cons}

-- as many as there are
pub ones : {A : Type 0} (xs : List A) → length xs ≡ sum_by (λ x. 1) xs
ones [] = refl
ones {A} (x ∷ xs) = omega (arith, ones xs, sum_by-cons (λ (x : A). 1) x xs)
