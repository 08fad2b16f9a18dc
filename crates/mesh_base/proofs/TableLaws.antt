-- What the tables of written numbers hold.
use Rattle.std.proofs.Common.{◌≡◌, ℕ, zero, suc, ◌+◌, ◌/◌, ◌%◌, ◌<◌, ◌++◌, Bool, true, false, eqb, ◌&&◌, List, [], ◌∷◌, take, length, get_or, refl, ap, ◌∙◌, sym, subst, inl, inr, arith}
use Rattle.std.specs.Fmt.{decimal, digits}
use Rattle.std.proofs.lemmas.Bool.{cases_eq, and_parts}
use Rattle.std.proofs.lemmas.Bool.Decides.{nat_tests}
use Rattle.mesh_base.specs.declared.text.TheConstants.{PAIRS}
use Rattle.mesh_base.specs.declared.octets.TheConstants.{OCTETS, WIDTHS}

-- two texts are the same
abbrev are_same : List ℕ → List ℕ → Bool
are_same [] [] = true
are_same [] (y ∷ ys) = false
are_same (x ∷ xs) [] = false
are_same (x ∷ xs) (y ∷ ys) = eqb x y && are_same xs ys

both : (a b : ℕ) (others : Bool) → (eqb a b && others) ≡ true → (a ≡ b) × (others ≡ true)
both a b others h = grind (arith, nat_tests)

not_true : false ≡ true → ⊥
not_true h = cc

same_texts : (xs ys : List ℕ) → are_same xs ys ≡ true → xs ≡ ys
same_texts [] [] h = refl
same_texts [] (y ∷ ys) h = absurd (not_true h)
same_texts (x ∷ xs) [] h = absurd (not_true h)
same_texts (x ∷ xs) (y ∷ ys) h =
    let here = both x y (are_same xs ys) h in
    ap (λ z. z ∷ xs) here.0 ∙ ap (λ zs. y ∷ zs) (same_texts xs ys here.1)

-- two tables have the same text at each index below k
abbrev are_alike : (ℕ → List ℕ) → (ℕ → List ℕ) → ℕ → Bool
are_alike f g zero = true
are_alike f g (suc n) = are_same (f n) (g n) && are_alike f g n

among : (f g : ℕ → List ℕ) (k n : ℕ) → are_alike f g k ≡ true → n < k → f n ≡ g n
among f g zero n h lt = absurd (omega arith)
among f g (suc k) n h lt =
    let here = and_parts (are_same (f k) (g k)) (are_alike f g k) h in
    elim (cases_eq n k) [
      | inl same ↦ subst (λ m. f m ≡ g m) (sym same) (same_texts (f k) (g k) here.0)
      | inr other ↦ among f g k n here.1 (omega arith)
    ]

-- the two digits of a number below 100
pub pair_is : (n : ℕ) → n < 100 → get_or PAIRS n [] ≡ (48 + n / 10) ∷ (48 + n % 10) ∷ []
pair_is n lt = among (λ n. get_or PAIRS n []) (λ n. (48 + n / 10) ∷ (48 + n % 10) ∷ []) 100 n refl lt

-- how many bytes the digits of a number below 256 and a dot take
pub width_is : (n : ℕ) → n < 256 → get_or WIDTHS n 0 ≡ length (decimal n) + 1
unfolding digits
width_is n lt = one (among (λ n. get_or WIDTHS n 0 ∷ []) (λ n. (length (decimal n) + 1) ∷ []) 256 n refl lt)
  where
    one : {x y : ℕ} → x ∷ [] ≡ y ∷ [] → x ≡ y
    one e = cc

-- they are the first bytes of its chunk
pub chunk_is : (n : ℕ) → n < 256 → take (length (decimal n) + 1) (get_or OCTETS n []) ≡ decimal n ++ 46 ∷ []
unfolding digits
chunk_is n lt = among (λ n. take (length (decimal n) + 1) (get_or OCTETS n [])) (λ n. decimal n ++ 46 ∷ []) 256 n refl lt
