-- Part of what the headline says.
-- The lines of an input: its parts between LFs, within the limits of a line and of the input.
use Rattle.std.specs.Prelude.{ℕ, Bool, List, [], ◌∷◌, length, nat_lt, nat_le, ◌&&◌, if◌then◌else◌, take}
use Rattle.mesh_base.specs.Parts.{parts}
use Rattle.mesh_io.specs.declared.limits.Limits.{Limits}

-- a line as it is cut from the input, one that is too long, or one that goes past the input's limit
pub data Piece : Type 0 where
  Whole : List ℕ → Piece
  Long : Piece
  Beyond : Piece

abbrev pub piece_of : Limits → List ℕ → Piece
piece_of most line = if nat_le (length line) most.line then Whole line else Long

-- the last part is a line unless it is empty; if the input has more bytes than its limit, the last
-- part goes past it, unless it is too long before that
abbrev pub last_piece : Limits → Bool → List ℕ → List Piece
last_piece most more [] = if more then Beyond ∷ [] else []
last_piece most more (b ∷ bs) =
    (if more && nat_le (length (b ∷ bs)) most.line then Beyond else piece_of most (b ∷ bs)) ∷ []

unfoldable pub pieces_of : Limits → Bool → List (List ℕ) → List Piece
pieces_of most more [] = []
pieces_of most more (line ∷ []) = last_piece most more line
pieces_of most more (line ∷ next ∷ others) =
    piece_of most line ∷ pieces_of most more (next ∷ others)

-- the lines of an input
abbrev pub pieces_within : Limits → List ℕ → List Piece
pieces_within most input =
    pieces_of most (nat_lt most.input (length input)) (parts 10 (take most.input input))
