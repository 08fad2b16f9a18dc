-- Part of what the headline says.
-- A text cut at each byte of one value: lines at LF, words at a space, an address's numbers at a
-- dot.
use Rattle.std.specs.Prelude.{ℕ, ◌==◌, List, [], Option, Some, None}
use Rattle.std.specs.Borrow.{Bor}
use Rattle.std.specs.List.{slice_split}

-- the parts between the bytes that equal sep: one more than there are such bytes
abbrev pub parts : ℕ → List ℕ → List (List ℕ)
parts sep bytes = slice_split (λ b. b == sep) bytes

-- the parts of what comes after a separator, if there is one
abbrev pub rest_parts : ℕ → Option (Bor (List ℕ)) → List (List ℕ)
rest_parts sep None = []
rest_parts sep (Some rest) = parts sep rest.now
