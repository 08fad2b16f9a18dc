-- Part of what the headline says.
-- Numbers as decimal digits denote them: no sign, no leading zero, no space.
use Rattle.std.specs.Prelude.{ℕ, zero, suc, ◌+◌, ◌-◌, ◌*◌, ◌==◌, Bool, true, false, ◌&&◌, not, List, [], ◌∷◌, Option, Some, None, nat_le, if◌then◌else◌}
use Rattle.std.specs.Str.{all_ascii_digits}

-- the number that digits stand for, read on from n (the digit 0 is byte 48)
abbrev pub read_on : ℕ → List ℕ → ℕ
read_on n [] = n
read_on n (d ∷ ds) = read_on (10 * n + (d - 48)) ds

-- not empty, and no 0 before other digits
abbrev pub is_canonical : List ℕ → Bool
is_canonical [] = false
is_canonical (d ∷ []) = true
is_canonical (d ∷ e ∷ ds) = not (d == 48)

-- the number that digits stand for, if it is at most this
unfoldable pub digits_up_to : ℕ → List ℕ → Option ℕ
digits_up_to most ds =
    if all_ascii_digits ds && nat_le (read_on 0 ds) most then Some (read_on 0 ds) else None

-- the number that a text denotes, if it is at most this
unfoldable pub number_up_to : ℕ → List ℕ → Option ℕ
number_up_to most bytes = if is_canonical bytes then digits_up_to most bytes else None

-- a number other than 0
abbrev pub positive : Option ℕ → Option ℕ
positive None = None
positive (Some zero) = None
positive (Some (suc n)) = Some (suc n)
