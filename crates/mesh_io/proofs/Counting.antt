-- Calls that are counted.
use Rattle.std.proofs.Common.{◌≡◌, ℕ, suc, ◌≤◌, List, [], ◌∷◌, refl, false, nat_eq, get_or, Fits, w64, arith}
use Rattle.std.proofs.lemmas.Bool.Decides.{nat_tests}
use Rattle.std.specs.List.{list_any}

-- no number of 64 bits is one past them
pub none_past : (xs : List ℕ) (n : ℕ) → ((i : ℕ) → Fits w64 (get_or xs i 0)) → 18446744073709551616 ≤ n → false ≡ list_any (λ k. nat_eq k n) xs
none_past [] n fits past = refl
none_past (x ∷ xs) n fits past =
    let e : nat_eq x n ≡ false = differs x n (fits 0) past in
    rw e (none_past xs n (λ i. fits (suc i)) past)
  where
    differs : (x n : ℕ) → Fits w64 x → 18446744073709551616 ≤ n → nat_eq x n ≡ false
    differs x n h past = grind (arith, nat_tests)
