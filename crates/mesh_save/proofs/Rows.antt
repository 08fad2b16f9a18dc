-- The pairs of a set, row by row: a row has the pairs with the same first number.
use Rattle.std.proofs.Common.{◌≡◌, ℕ, zero, suc, ◌+◌, ◌<◌, ◌≤◌, true, false, cond, List, [], ◌∷◌, ◌++◌, length, ap, ◌∙◌, arith, length-append}
use Rattle.std.specs.FinSet as sets
use Rattle.std.proofs.lemmas.List.{length-map}
use Rattle.aodv_model.specs.Pairs.{Pairs}
use Rattle.aodv_model.proofs.PairKeys.{pairs_before}
use Rattle.aodv_asked.specs.Requests.{ids_below}
use Rattle.aodv_asked.proofs.PairRows.{rows_next}
use Rattle.mesh_save.specs.Links.{pairs_from}

-- the pairs whose first number is below o
abbrev pub rows_before : Pairs → ℕ → List (ℕ × ℕ)
rows_before s o = pairs_before s (o, 0)

-- one row more of them
pub rows_count : (s : Pairs) (o n count more : ℕ) → ((q : ℕ) → sets.contains s (o, q) ≡ true → q < n) → count ≡ length (rows_before s o) → more ≡ length (ids_below n s o) → count + more ≡ length (rows_before s (o + 1))
rows_count s o n count more each so_far row =
    let all : length (rows_before s (o + 1)) ≡ length (rows_before s o) + length (pairs_from s o n) = ap length (rows_next s o n each) ∙ length-append (rows_before s o) (pairs_from s o n) in
    let one : length (pairs_from s o n) ≡ length (ids_below n s o) = length-map (ids_below n s o) (λ id. (o, id)) in
    omega (arith, all, one, so_far, row)

pub ids_few : (s : Pairs) (o n : ℕ) → length (ids_below n s o) ≤ n
unfolding ids_below
ids_few s o zero = omega arith
ids_few s o (suc n) = elim (sets.contains s (o, n)) as (λ b. length (cond b (ids_below n s o ++ n ∷ []) (ids_below n s o)) ≤ suc n) [
  | true ↦ omega (arith, length-append (ids_below n s o) (n ∷ []), ids_few s o n)
  | false ↦ omega (arith, ids_few s o n)
]
