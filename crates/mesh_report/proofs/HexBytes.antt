-- What the table of the two digits of each byte holds.
use Rattle.std.proofs.Common.{◌≡◌, ℕ, zero, suc, ◌+◌, ◌-◌, ◌<◌, ◌≤◌, List, [], ◌∷◌, ◌++◌, get_or, take, drop, length, refl, ap, ◌∙◌, arith}
use Rattle.std.proofs.lemmas.List.{take_rest}
use Rattle.mesh_text.specs.Lines.{hex, hex_byte}
use Rattle.mesh_report.specs.declared.text.TheConstants.{HEX}

-- the digits of so many bytes, from this one on
abbrev digits_from : ℕ → ℕ → List (List ℕ)
digits_from b zero = []
digits_from b (suc k) = hex_byte b ∷ digits_from (suc b) k

digits_at : (k b i : ℕ) → i < k → get_or (digits_from b k) i [] ≡ hex_byte (b + i)
digits_at zero b i lt = absurd (omega arith)
digits_at (suc k) b zero lt =
    let same : b ≡ b + 0 = omega arith in
    ap hex_byte same
digits_at (suc k) b (suc i) lt =
    let same : suc b + i ≡ b + suc i = omega arith in
    digits_at k (suc b) i (omega arith) ∙ ap hex_byte same

table : HEX ≡ digits_from 0 256
table = refl

-- the two digits of a byte
pub hex_is : (b : ℕ) → b < 256 → get_or HEX b [] ≡ hex_byte b
hex_is b lt =
    let same : 0 + b ≡ b = omega arith in
    ap (λ (rows : List (List ℕ)). get_or rows b []) table ∙ digits_at 256 0 b lt ∙ ap hex_byte same

front : (xs : List ℕ) → 4 ≤ length xs → hex xs ≡ hex (get_or xs 0 0 ∷ get_or xs 1 0 ∷ get_or xs 2 0 ∷ get_or xs 3 0 ∷ []) ++ hex (drop 4 xs)
front [] le = absurd (omega arith)
front (a ∷ []) le = absurd (omega arith)
front (a ∷ b ∷ []) le = absurd (omega arith)
front (a ∷ b ∷ c ∷ []) le = absurd (omega arith)
front (a ∷ b ∷ c ∷ d ∷ rest) le = refl

-- the digits of the first four bytes, and those of the others
pub hex_front : (xs : List ℕ) → 4 ≤ length xs → hex xs ≡ hex (get_or xs 0 0 ∷ get_or xs 1 0 ∷ get_or xs 2 0 ∷ get_or xs 3 0 ∷ []) ++ hex (take (length xs - 4) (drop 4 xs))
hex_front xs le = rw take_rest (front xs le)

front_eight : (xs : List ℕ) → 8 ≤ length xs → hex xs ≡ (hex (get_or xs 0 0 ∷ get_or xs 1 0 ∷ get_or xs 2 0 ∷ get_or xs 3 0 ∷ []) ++ hex (get_or xs 4 0 ∷ get_or xs 5 0 ∷ get_or xs 6 0 ∷ get_or xs 7 0 ∷ [])) ++ hex (drop 8 xs)
front_eight [] le = absurd (omega arith)
front_eight (a ∷ []) le = absurd (omega arith)
front_eight (a ∷ b ∷ []) le = absurd (omega arith)
front_eight (a ∷ b ∷ c ∷ []) le = absurd (omega arith)
front_eight (a ∷ b ∷ c ∷ d ∷ []) le = absurd (omega arith)
front_eight (a ∷ b ∷ c ∷ d ∷ e ∷ []) le = absurd (omega arith)
front_eight (a ∷ b ∷ c ∷ d ∷ e ∷ f ∷ []) le = absurd (omega arith)
front_eight (a ∷ b ∷ c ∷ d ∷ e ∷ f ∷ g ∷ []) le = absurd (omega arith)
front_eight (a ∷ b ∷ c ∷ d ∷ e ∷ f ∷ g ∷ h ∷ rest) le = refl

-- the digits of the first eight bytes, in two halves, and those of the others
pub hex_front_eight : (xs front back : List ℕ) → 8 ≤ length xs
    → front ≡ hex (get_or xs 0 0 ∷ get_or xs 1 0 ∷ get_or xs 2 0 ∷ get_or xs 3 0 ∷ []) → back ≡ hex (get_or xs 4 0 ∷ get_or xs 5 0 ∷ get_or xs 6 0 ∷ get_or xs 7 0 ∷ [])
    → hex xs ≡ (front ++ back) ++ hex (take (length xs - 8) (drop 8 xs))
hex_front_eight xs front back le p q = rw (p, q) (rw take_rest (front_eight xs le))
