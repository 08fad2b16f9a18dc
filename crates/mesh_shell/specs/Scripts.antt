-- The sizes of lines, and what a script's calls answer.
use Rattle.std.specs.Prelude.{ℕ, ◌+◌, List, [], ◌∷◌, length, max, Option, Result, IfOk, IfNone, IfSome}
use Rattle.mesh_shell.specs.Pieces.{Piece, Whole, Long, Beyond}
use Rattle.mesh_shell.specs.declared.fault.Fault.{Fault}
use Rattle.mesh_shell.specs.declared.limit.Limit.{Limit}
use Rattle.mesh_shell.specs.declared.limit.Limit.TheVariants.{Line, Input}

-- the least number of bytes that a line takes in an input: the last may have no LF, and isn't empty
-- then
abbrev pub size_of_line : List ℕ → ℕ
size_of_line line = max 1 (length line)

-- the least number of bytes that a piece takes: one if it is a line that goes past a limit
abbrev pub size_of_piece : Piece → ℕ
size_of_piece (Whole line) = size_of_line line
size_of_piece Long = 1
size_of_piece Beyond = 1

abbrev pub size_of_pieces : List Piece → ℕ
size_of_pieces [] = 0
size_of_pieces (piece ∷ pieces) = size_of_piece piece + size_of_pieces pieces

abbrev pub piece_past : Limit → Piece
piece_past Line = Long
piece_past Input = Beyond

-- P holds if a line was done and hasn't ended the run
abbrev pub GoesOn : {V : Type 0} → Result (Option V) Fault → Type 0 → Type 0
GoesOn result P = IfOk result (λ ended. IfNone ended P)

-- the verdict of a run that a line has ended isn't one of the end
abbrev pub EndsEarly : {V : Type 0} → (V → Type 0) → Result (Option V) Fault → Type 0
EndsEarly is_final result = IfOk result (λ ended. IfSome ended (λ v. ¬ (is_final v)))
