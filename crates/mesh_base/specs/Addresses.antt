-- Part of what the headline says.
-- An address, a number below 2 ^ 32, as four numbers from 0 to 255 without leading zeros, joined by
-- dots.
use Rattle.std.specs.Prelude.{ℕ, ◌+◌, ◌*◌, ◌/◌, ◌%◌, List, [], ◌∷◌, ◌++◌, Option, Some, None, option_and_then}
use Rattle.std.specs.Fmt.{decimal}
use Rattle.mesh_base.specs.Numbers.{number_up_to}
use Rattle.mesh_base.specs.Parts.{parts}

unfoldable pub address_from : List (List ℕ) → Option ℕ
address_from (a ∷ b ∷ c ∷ d ∷ []) =
    option_and_then (λ w. option_and_then (λ x. option_and_then (λ y. option_and_then (λ z.
    Some (16777216 * w + 65536 * x + 256 * y + z))
    (number_up_to 255 d)) (number_up_to 255 c)) (number_up_to 255 b)) (number_up_to 255 a)
address_from others = None

-- the address that a text denotes (a dot is byte 46)
unfoldable pub address_of : List ℕ → Option ℕ
address_of bytes = address_from (parts 46 bytes)

-- the written form of an address
abbrev pub dotted_decimal : ℕ → List ℕ
dotted_decimal a =
    decimal (a / 16777216) ++ 46 ∷ decimal (a / 65536 % 256) ++ 46 ∷ decimal (a / 256 % 256)
    ++ 46 ∷ decimal (a % 256)
