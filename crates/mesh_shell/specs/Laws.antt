-- What holds of the lines of an input.
use Rattle.std.specs.Prelude.{◌≡◌, ◌⊎◌, List, [], ◌∷◌, ◌++◌, ℕ, ⊤}
use Rattle.mesh_io.specs.declared.limits.Limits.{Limits}
use Rattle.mesh_shell.specs.Pieces.{Piece, Whole, Long, Beyond, pieces_within}

-- no line goes past a limit
abbrev pub AreWhole : List Piece → Type 0
AreWhole [] = ⊤
AreWhole (Whole line ∷ pieces) = AreWhole pieces
AreWhole (Long ∷ pieces) = ⊥
AreWhole (Beyond ∷ pieces) = ⊥

-- the lines, each with an LF after it
abbrev pub text_of : List Piece → List ℕ
text_of [] = []
text_of (Whole line ∷ pieces) = line ++ 10 ∷ text_of pieces
text_of (Long ∷ pieces) = text_of pieces
text_of (Beyond ∷ pieces) = text_of pieces

-- if no limit is passed, the lines are the whole text, except that its last line may lack the LF
abbrev pub LinesAreTheText : Type 0
LinesAreTheText =
    (most : Limits) (text : List ℕ) → AreWhole (pieces_within most text)
    → (text_of (pieces_within most text) ≡ text)
    ⊎ (text_of (pieces_within most text) ≡ text ++ 10 ∷ [])
