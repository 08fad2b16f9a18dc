-- The complete lines of some bytes: those that an LF ends.
use Rattle.std.specs.Prelude.{ℕ, List, [], ◌∷◌, ◌++◌}
use Rattle.mesh_base.specs.Parts.{parts}

-- all parts but the last, each with the LF that ends it
unfoldable pub complete_parts : List (List ℕ) → List ℕ
complete_parts [] = []
complete_parts (last ∷ []) = []
complete_parts (line ∷ next ∷ others) = line ++ 10 ∷ complete_parts (next ∷ others)

-- the complete lines of some bytes, each with its LF
abbrev pub complete : List ℕ → List ℕ
complete bytes = complete_parts (parts 10 bytes)
