-- What the words of the command line ask for.
use Rattle.std.specs.Prelude.{ℕ, List, [], ◌∷◌, Option, Some, None, codes, if◌then◌else◌}
use Rattle.std.specs.Str.{bytes_eq}
use Rattle.mesh_state.specs.declared.words.Asked.{Asked}
use Rattle.mesh_state.specs.declared.words.Asked.TheVariants.{Save, Go}

abbrev pub asked_by : List ℕ → Option Asked
asked_by word =
    if bytes_eq word (codes "save") then Some Save else
    if bytes_eq word (codes "go") then Some Go else None

-- one word, `save` or `go`
unfoldable pub asked_of : List (List ℕ) → Option Asked
asked_of (word ∷ []) = asked_by word
asked_of others = None
