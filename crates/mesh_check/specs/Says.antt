-- What a printed text says.
use Rattle.std.specs.Prelude.{ℕ, ◌+◌, ◌^◌, List, [], Option, Some, None}
use Rattle.mesh_io.specs.NextLines.{text_limits}
use Rattle.mesh_shell.specs.Pieces.{Piece, Whole, Long, Beyond}
use Rattle.mesh_shell.specs.Fold.{Outcome, On, Ended, Fold, RunText, text_on}
use Rattle.mesh_tables.specs.Printed.{ShownTables, Reading, nothing_read, closed_up, after_line}
use Rattle.mesh_check.specs.declared.reading.ReadVerdict.{ReadVerdict}
use Rattle.mesh_check.specs.declared.reading.ReadVerdict.TheVariants.{Read, BadLine}

-- the most lines that are read
abbrev pub most_lines : ℕ
most_lines = 2 ^ 61

-- what a line comes to: it is refused, or these tables are shown after it
abbrev pub line_outcome : Reading → Option Reading → Outcome Reading ReadVerdict
line_outcome r None = Ended [] [] (BadLine (r.lines + 1))
line_outcome r (Some next) = On [] next

abbrev pub outcome_of_piece : Reading → Piece → Outcome Reading ReadVerdict
outcome_of_piece r (Whole line) = line_outcome r (after_line r line)
outcome_of_piece r Long = Ended [] [] (BadLine (r.lines + 1))
outcome_of_piece r Beyond = Ended [] [] (BadLine (r.lines + 1))

-- the lines are read, and nothing is written about them; at the end the block that is open closes
abbrev pub reading : Fold Reading ReadVerdict
reading = record {
  head = λ r. [];
  outcome = outcome_of_piece;
  ending = λ r. record { text = []; verdict = Read; after = closed_up r };
}

-- what is read of a text
abbrev pub reading_of : List ℕ → RunText Reading ReadVerdict
reading_of text = text_on reading text_limits nothing_read text

-- the line of this number is refused, or all lines are read and these tables are shown
pub data Says : Type 0 where
  Refuses : ℕ → Says
  Shows : ShownTables → Says

abbrev pub said_by : ReadVerdict → Reading → Says
said_by Read r = Shows r.closed
said_by (BadLine n) r = Refuses n

abbrev pub says : List ℕ → Says
says text = said_by (reading_of text).verdict (reading_of text).after
