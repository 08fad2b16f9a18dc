-- Part of what the headline says.
-- What a script makes of an input: a text and a verdict.
use Rattle.std.specs.Prelude.{ℕ, Bool, true, false, List, [], ◌∷◌, ◌++◌}
use Rattle.mesh_io.specs.declared.limits.Limits.{Limits}
use Rattle.mesh_shell.specs.Pieces.{Piece, pieces_within}

-- the outcome of a line: its text, and the run goes on from the next state; or its text as far as
-- the line was done, and then the last text, with the verdict of the run
pub data Outcome (M V : Type 0) : Type 0 where
  On : (text : List ℕ) → M → Outcome M V
  Ended : (text last : List ℕ) → V → Outcome M V

-- the outcome of the end of the input: the last text, the verdict, and the state after it
pub record Ending (M V : Type 0) : Type 0 where
  pub text : List ℕ
  pub verdict : V
  pub after : M

-- what a script writes before the first line, and the outcome of each line, and of the end, in a
-- state
pub record Fold (M V : Type 0) : Type 0 where
  pub head : M → List ℕ
  pub outcome : M → Piece → Outcome M V
  pub ending : M → Ending M V

-- the text of a run: the head and the text of its lines as far as they were done, and what the end,
-- or the line that has ended it, wrote last; its verdict; the state after it, or, if a line has
-- ended it, the state before that line; and whether the input was done to its end
pub record RunText (M V : Type 0) : Type 0 where
  pub lines : List ℕ
  pub last : List ℕ
  pub verdict : V
  pub after : M
  pub complete : Bool

abbrev pub whole : {M V : Type 0} → RunText M V → List ℕ
whole w = w.lines ++ w.last

-- the input has ended
abbrev pub finished_run : {M V : Type 0} → Ending M V → RunText M V
finished_run e = record {
  lines = [];
  last = e.text;
  verdict = e.verdict;
  after = e.after;
  complete = true;
}

-- a line has ended the run
abbrev pub ended_run : {M V : Type 0} → M → (text last : List ℕ) → V → RunText M V
ended_run m text last v = record {
  lines = text;
  last = last;
  verdict = v;
  after = m;
  complete = false;
}

-- a run with this text before that of its lines
abbrev pub lines_before : {M V : Type 0} → List ℕ → RunText M V → RunText M V
lines_before text w = record w { lines = text ++ w.lines }

-- the outcome of a line, and then the rest of the run from the next state on
abbrev pub goes_on : {M V : Type 0} → M → Outcome M V → (M → RunText M V) → RunText M V
goes_on m (On text n) others = lines_before text (others n)
goes_on m (Ended text last v) others = ended_run m text last v

-- the run of these lines from a state on
unfoldable pub text_from : {M V : Type 0} → Fold M V → M → List Piece → RunText M V
text_from fold m [] = finished_run (fold.ending m)
text_from fold m (piece ∷ pieces) =
    goes_on m (fold.outcome m piece) (λ n. text_from fold n pieces)

-- the run of an input within these limits
unfoldable pub text_on : {M V : Type 0} → Fold M V → Limits → M → List ℕ → RunText M V
text_on fold most m input =
    lines_before (fold.head m) (text_from fold m (pieces_within most input))
