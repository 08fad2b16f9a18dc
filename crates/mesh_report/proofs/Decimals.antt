-- A number of more than four digits.
use Rattle.std.proofs.Common.{◌≡◌, ◌<◌, ◌≤◌, ◌+◌, ◌/◌, ◌%◌, ◌^◌, ℕ, List, [], ◌∷◌, ◌++◌, refl, sym, append_assoc}
use Rattle.std.specs.Fmt.{decimal}
use Rattle.mesh_base.proofs.NumberLaws.{appended_four}

-- the last four digits, after the others
pub last_four : (n : ℕ) (digits : List ℕ) → 10000 ≤ n → n < 2 ^ 64
    → digits ≡ (48 + n % 10000 / 100 / 10) ∷ (48 + n % 10000 / 100 % 10) ∷ (48 + n % 10000 % 100 / 10) ∷ (48 + n % 10000 % 100 % 10) ∷ []
    → decimal n ≡ decimal (n / 10000) ++ digits
last_four n digits ge lt e =
    let high : List ℕ = (48 + n % 10000 / 100 / 10) ∷ (48 + n % 10000 / 100 % 10) ∷ [] in
    let low : List ℕ = (48 + n % 10000 % 100 / 10) ∷ (48 + n % 10000 % 100 % 10) ∷ [] in
    let pieces : decimal (n / 10000) ++ digits ≡ (decimal (n / 10000) ++ high) ++ low = rw e (sym (append_assoc (decimal (n / 10000)) high low)) in
    sym (appended_four [] (decimal (n / 10000)) (decimal (n / 10000) ++ digits) n ge lt refl pieces)
