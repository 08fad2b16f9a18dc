-- The lines of the input: those of a schedule, and `pass NUM`.
use Rattle.std.specs.Prelude.{ℕ, ◌==◌, Bool, if◌then◌else◌, List, [], ◌∷◌, Option, Some, None, Result, Ok, Err, length, codes, is_some}
use Rattle.std.specs.Str.{bytes_eq}
use Rattle.mesh_base.specs.Parts.{parts}
use Rattle.mesh_base.specs.Meshes.{Nodes}
use Rattle.mesh_base.specs.Numbers.{number_up_to, positive}
use Rattle.mesh_grammar.specs.declared.fault.LineFault.{LineFault}
use Rattle.mesh_grammar.specs.declared.fault.LineFault.TheVariants.{Count, BadNumber, Early}
use Rattle.mesh_grammar.specs.Words.{with_argument, span_at, next_at}
use Rattle.mesh_text.specs.Schedule.{AcceptedLine, line_of}
use Rattle.mesh_channel.specs.declared.until.TheConstants.{MOST_TICKS}

-- a line that is allowed
pub data Line : Type 0 where
  -- this many ticks pass
  Passes : (ticks : ℕ) → Line
  -- a line of a schedule
  Plain : AcceptedLine → Line

-- ---- `pass NUM`

-- this many ticks pass; before the first node the line is refused
abbrev pub passing : Nodes → ℕ → Result (Option ℕ) LineFault
passing mesh ticks = if length mesh == 0 then Err Early else Ok (Some ticks)

-- one word, a number, which begins at this byte
abbrev pub passing_at : Nodes → ℕ → List (List ℕ) → Result (Option ℕ) LineFault
passing_at mesh at (word ∷ []) =
    with_argument (positive (number_up_to MOST_TICKS word)) (BadNumber (span_at at word))
    (passing mesh)
passing_at mesh at others = Err Count

abbrev pub passing_by : Nodes → List (List ℕ) → Result (Option ℕ) LineFault
passing_by mesh [] = Ok None
passing_by mesh (w ∷ ws) =
    if bytes_eq w (codes "pass") then passing_at mesh (next_at 0 w) ws else Ok None

-- how many ticks a line lets pass, or its first fault; None if the line is as in a schedule
unfoldable pub passing_of : Nodes → List ℕ → Result (Option ℕ) LineFault
passing_of mesh line = passing_by mesh (parts 32 line)

-- ---- any line

abbrev pub plain_by : Result AcceptedLine LineFault → Result Line LineFault
plain_by (Ok a) = Ok (Plain a)
plain_by (Err fault) = Err fault

abbrev pub line_by : Result (Option ℕ) LineFault → Result AcceptedLine LineFault
    → Result Line LineFault
line_by (Ok (Some ticks)) others = Ok (Passes ticks)
line_by (Ok None) others = plain_by others
line_by (Err fault) others = Err fault

unfoldable pub channel_line : Nodes → Bool → List ℕ → Result Line LineFault
channel_line mesh started line = line_by (passing_of mesh line) (line_of mesh started line)
