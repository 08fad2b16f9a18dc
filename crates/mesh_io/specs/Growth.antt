-- Known bytes that only grow.
use Rattle.std.specs.Prelude.{ℕ, List, Option, Some, None, length, take}

-- the first of the bytes known now, as many as were known before
abbrev pub known_front : Option (List ℕ) → Option (List ℕ) → Option (List ℕ)
known_front None now = None
known_front (Some xs) None = None
known_front (Some xs) (Some ys) = Some (take (length xs) ys)
