-- The text of a run with places, and its verdict, from the bytes of its input.
use Rattle.std.specs.Prelude.{ℕ, ◌||◌, Bool, is_some, List, [], ◌++◌, length, if◌then◌else◌, Option, Some, None, Result, Ok, Err, codes}
use Rattle.std.specs.List.{flat_map}
use Rattle.mesh_base.specs.Meshes.{Nodes}
use Rattle.mesh_base.specs.declared.events.Variant.{Variant}
use Rattle.mesh_model.specs.Worlds.{Event, range}
use Rattle.mesh_grammar.specs.declared.fault.LineFault.{LineFault}
use Rattle.mesh_grammar.specs.declared.fault.BadWhy.TheVariants.{Fault}
use Rattle.mesh_io.specs.NextLines.{schedule_limits}
use Rattle.mesh_shell.specs.Pieces.{Piece, Whole}
use Rattle.mesh_shell.specs.Fold as shell
use Rattle.mesh_grammar.specs.Written.{line}
use Rattle.mesh_text.specs.declared.verdict.Verdict.{Verdict}
use Rattle.mesh_text.specs.declared.verdict.Verdict.TheVariants.{Finished}
use Rattle.mesh_text.specs.Schedule as schedule
use Rattle.mesh_text.specs.Lines.{event_words, done_line}
use Rattle.mesh_text.specs.Runs.{run_state_after}
use Rattle.mesh_text.specs.Text as text
use Rattle.mesh_grid.specs.declared.place.Places.{Places}
use Rattle.mesh_grid.specs.declared.line.Placing.{Placing}
use Rattle.mesh_grid.specs.Places.{no_places}
use Rattle.mesh_grid.specs.Lines.{placing_of}
use Rattle.mesh_grid.specs.Links.{changes_below, may_come, with_placing}

-- a state of a run with places: that of the run, and where the nodes are
pub record RunState : Type 0 where
  pub run : schedule.RunState
  pub places : Places

-- the state before the first line
abbrev pub opening : Variant → RunState
opening variant = record { run = schedule.opening variant; places = no_places }

-- whether some line was neither blank nor a `node` line. A line about places starts a run without
-- making its world
abbrev pub has_begun : RunState → Bool
has_begun m = m.places.begun || is_some m.run.world

-- ---- a node comes to a place

-- the changes of links that follow: with each other node that has a place, by ascending node
abbrev pub changes : ℕ → RunState → Placing → List Event
changes reach m new =
    changes_below reach m.places (range (schedule.world_of m.run) new.node) new (length m.run.mesh)

-- a change, on a line of its own below that of the node
abbrev pub change_line : Nodes → Event → List ℕ
change_line mesh e = line (codes "  " ++ event_words mesh e)

-- the line as it was read, and its changes; `idle` if the node may not come there
abbrev pub outcome_of_placing : ℕ → RunState → List ℕ → Placing → text.LineOutcome
outcome_of_placing reach m bytes new =
    if may_come m.places new
    then text.On (line bytes ++ flat_map (change_line m.run.mesh) (changes reach m new))
    (schedule.with_line_read (run_state_after m.run (changes reach m new)))
    else text.On (line bytes ++ line (codes "  idle")) (schedule.with_line_read m.run)

-- ---- one line

-- a line as in a schedule, except that a line about places also makes a later `node` line late
abbrev pub other_line : RunState → List ℕ → Result schedule.AcceptedLine LineFault
other_line m bytes = schedule.line_of m.run.mesh (has_begun m) bytes

abbrev pub outcome_by : ℕ → RunState → List ℕ → Result (Option Placing) LineFault → text.LineOutcome
outcome_by reach m bytes (Ok (Some new)) = outcome_of_placing reach m bytes new
outcome_by reach m bytes (Ok None) = text.outcome_of_read m.run (other_line m bytes)
outcome_by reach m bytes (Err fault) = text.Refused (Fault fault)

-- what a line of the input comes to in a state
unfoldable pub outcome_of_piece : ℕ → RunState → Piece → text.LineOutcome
outcome_of_piece reach m (Whole bytes) = outcome_by reach m bytes (placing_of m.run.mesh bytes)
outcome_of_piece reach m others = text.outcome_of_piece m.run others

-- where the nodes are after a line
abbrev pub places_by : Places → Result (Option Placing) LineFault → Places
places_by places (Ok (Some new)) = with_placing places new
places_by places (Ok None) = places
places_by places (Err fault) = places

unfoldable pub places_after : RunState → Piece → Places
places_after m (Whole bytes) = places_by m.places (placing_of m.run.mesh bytes)
places_after m others = m.places

-- the state after a line that has led the run to state n
abbrev pub next : RunState → Piece → schedule.RunState → RunState
next m piece n = record { run = n; places = places_after m piece }

-- ---- all lines

-- what a run with places writes: its lines and its last line; what it came to; and the state after
-- its last allowed line
abbrev pub RunText : Type 0
RunText = shell.RunText RunState Verdict

-- at the end of the input
abbrev pub ending : RunState → shell.Ending RunState Verdict
ending m = record { text = done_line m.run; verdict = Finished; after = m }

-- the same text or end, with the next state made from that of the run
abbrev pub outcome_with : (schedule.RunState → RunState) → shell.Outcome schedule.RunState Verdict
    → shell.Outcome RunState Verdict
outcome_with next_of (shell.On text n) = shell.On text (next_of n)
outcome_with next_of (shell.Ended text last v) = shell.Ended text last v

-- how the run goes on after a line that comes to this, or ends: as in a schedule
abbrev pub outcome_in_run : RunState → Piece → text.LineOutcome → shell.Outcome RunState Verdict
outcome_in_run m piece k = outcome_with (next m piece) (text.outcome_in_run m.run k)

-- what a line came to, and then the rest of the run from the next state on
abbrev pub goes_on : RunState → Piece → text.LineOutcome → (RunState → RunText) → RunText
goes_on m piece k others = shell.goes_on m (outcome_in_run m piece k) others

-- a run with places: nothing is written before the text of its first line
abbrev pub placed_run : ℕ → shell.Fold RunState Verdict
placed_run reach = record {
  head = λ m. [];
  outcome = λ m piece. outcome_in_run m piece (outcome_of_piece reach m piece);
  ending = ending;
}

-- the run of these lines from a state on
abbrev pub text_from : ℕ → RunState → List Piece → RunText
text_from reach m pieces = shell.text_from (placed_run reach) m pieces

-- what a run with places writes for an input from a state on, and what it comes to
abbrev pub text_on : ℕ → RunState → List ℕ → RunText
text_on reach m input = shell.text_on (placed_run reach) schedule_limits m input

-- the same from the opening state on
unfoldable pub text_of_input : ℕ → Variant → List ℕ → RunText
text_of_input reach variant input = text_on reach (opening variant) input
