-- The words of a command line.
use Rattle.std.specs.Prelude.{ℕ, List, [], ◌∷◌, Option, None}
use Rattle.mesh_base.specs.Numbers.{number_up_to, positive}
use Rattle.mesh_grid.specs.declared.place.TheConstants.{GREATEST_PLACE}

-- a reach: a number from 1 to 1000000
abbrev pub reach_in : List ℕ → Option ℕ
reach_in word = positive (number_up_to GREATEST_PLACE word)

-- the reach that is asked for
abbrev pub reach_of : List (List ℕ) → Option ℕ
reach_of (word ∷ []) = reach_in word
reach_of others = None
