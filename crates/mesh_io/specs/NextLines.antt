-- Part of what the headline says.
-- The next line of an input.
use Rattle.std.specs.Prelude.{ℕ, ◌+◌, ◌==◌, Bool, true, false, nat_lt, nat_le, if◌then◌else◌, List, [], ◌∷◌, length, Option, Some, None}
use Rattle.mesh_base.specs.declared.limits.TheConstants.{LONGEST_LINE, LONGEST_INPUT}
use Rattle.mesh_io.specs.declared.limits.Limits.{Limits}
use Rattle.mesh_io.specs.declared.limits.TheConstants.{LONGEST_TEXT_LINE, LONGEST_TEXT}

-- the limits of a line and of an input, each in bytes
abbrev pub limits_of : ℕ → ℕ → Limits
limits_of line input = record { line = line; input = input }

-- the limits of a schedule
abbrev pub schedule_limits : Limits
schedule_limits = limits_of LONGEST_LINE LONGEST_INPUT

-- the limits of a printed text
abbrev pub text_limits : Limits
text_limits = limits_of LONGEST_TEXT_LINE LONGEST_TEXT

-- the bytes before the first LF, whether there is one, and the bytes after it
pub record FirstLine : Type 0 where
  pub line : List ℕ
  pub ends : Bool
  pub rest : List ℕ

abbrev pub with_byte : ℕ → FirstLine → FirstLine
with_byte b first = record first { line = b ∷ first.line }

abbrev pub first_line : List ℕ → FirstLine
first_line [] = record { line = []; ends = false; rest = [] }
first_line (b ∷ bs) =
    if b == 10 then record { line = []; ends = true; rest = bs }
    else with_byte b (first_line bs)

-- how many bytes a line takes, its LF included
abbrev pub line_size : FirstLine → ℕ
line_size first = length first.line + (if first.ends then 1 else 0)

-- what comes next: the end; a line; a line with a byte too many; or the byte after the last that an
-- input may have
pub data NextLine : Type 0 where
  End : NextLine
  Line : FirstLine → NextLine
  TooLong : NextLine
  TooMuch : NextLine

-- the first byte that goes past a limit decides: the input's limit if it goes past both; a line's
-- LF counts for the input's limit alone
abbrev pub next_by : Limits → ℕ → FirstLine → NextLine
next_by most given first =
    if nat_lt most.line (length first.line)
    then (if nat_le (given + most.line + 1) most.input then TooLong else TooMuch)
    else (if nat_le (given + line_size first) most.input then Line first else TooMuch)

-- what comes next of these bytes, after this many that were given
unfoldable pub next_of : Limits → ℕ → List ℕ → NextLine
next_of most given [] = End
next_of most given (b ∷ bs) = next_by most given (first_line (b ∷ bs))

-- the known bytes, once a source has ended
abbrev pub known_after : Bool → Option (List ℕ) → List ℕ
known_after false known = []
known_after true None = []
known_after true (Some bytes) = bytes
