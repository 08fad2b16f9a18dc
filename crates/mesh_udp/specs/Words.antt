-- The words of a command line.
use Rattle.std.specs.Prelude.{ℕ, List, [], ◌∷◌, Option, None}
use Rattle.mesh_base.specs.Numbers.{number_up_to, positive}
use Rattle.mesh_script.specs.declared.limits.TheConstants.{GREATEST_PORT}

-- a port: a number from 1 to 65535
abbrev pub port_in : List ℕ → Option ℕ
port_in word = positive (number_up_to GREATEST_PORT word)

-- the port that the words ask for
abbrev pub port_of : List (List ℕ) → Option ℕ
port_of (word ∷ []) = port_in word
port_of others = None
