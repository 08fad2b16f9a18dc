-- The numbers of an address, one after another.
use Rattle.std.specs.Prelude.{◌≡◌, ℕ, ◌<◌, List, [], ◌∷◌, Option, None, length, slice_index}
use Rattle.std.specs.Option.{option_map}
use Rattle.mesh_base.specs.Numbers.{number_up_to}

-- a number and the parts after it
abbrev pub number_and : List (List ℕ) → ℕ → ℕ × List (List ℕ)
number_and ps n = (n, ps)

-- the number that the first of several parts denotes, and the parts after it
unfoldable pub first_octet : List (List ℕ) → Option (ℕ × List (List ℕ))
first_octet [] = None
first_octet (last ∷ []) = None
first_octet (first ∷ next ∷ others) =
    option_map (number_and (next ∷ others)) (number_up_to 255 first)

-- there is a dot at this index
abbrev pub IsDotAt : List ℕ → ℕ → Type 0
IsDotAt text at = (at < length text) × (slice_index text at ≡ 46)
