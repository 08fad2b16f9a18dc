-- The text of a watched run, and its verdict, from the bytes of its input: the text of the run and,
-- below each event that has changed a node, that node's block or the changes of that block.
use Rattle.std.specs.Prelude.{ℕ, List, [], ◌∷◌, Result, Ok, Err, length, is_some}
use Rattle.mesh_base.specs.declared.events.Variant.{Variant}
use Rattle.mesh_model.specs.Worlds.{Event}
use Rattle.mesh_grammar.specs.declared.fault.LineFault.{LineFault}
use Rattle.mesh_grammar.specs.declared.fault.BadWhy.TheVariants.{Fault}
use Rattle.mesh_io.specs.NextLines.{schedule_limits}
use Rattle.mesh_shell.specs.Pieces.{Piece, Whole}
use Rattle.mesh_shell.specs.Fold as shell
use Rattle.mesh_grammar.specs.Written.{line}
use Rattle.mesh_text.specs.Schedule.{RunState, AcceptedLine, Does, Chooses, line_of, with_world, outcome_at, opening}
use Rattle.mesh_text.specs.Lines.{words_of}
use Rattle.mesh_text.specs.Auto.{EventsOutcome, Ended, before, done_then, events_chosen}
use Rattle.mesh_text.specs.Text.{LineOutcome, Refused, outcome_by_events, outcome_of_auto, outcome_of_line, outcome_of_piece, RunText, ending, outcome_in_run}
use Rattle.mesh_text.specs.declared.verdict.Verdict.{Verdict}
use Rattle.mesh_blocks.specs.declared.below.Below.{Below}
use Rattle.mesh_blocks.specs.Forms.{below_text}

-- what these events come to from a state on, each with what is written below it
unfoldable pub watched_events : Below → RunState → List Event → EventsOutcome
watched_events below m [] = Ended [] m
watched_events below m (e ∷ events) =
    done_then m e (outcome_at m e)
    (λ n. before (below_text below m e) (watched_events below n events))

-- ---- one line

-- what an allowed line comes to in a state
unfoldable pub watched_line : Below → RunState → AcceptedLine → LineOutcome
watched_line below m (Does e) = outcome_by_events (watched_events below (with_world m) (e ∷ []))
watched_line below m (Chooses count) =
    let chosen = events_chosen count (with_world m) in
    outcome_of_auto (line (words_of m.mesh (Chooses count))) (length chosen)
    (watched_events below (with_world m) chosen)
watched_line below m others = outcome_of_line m others

abbrev pub watched_read : Below → RunState → Result AcceptedLine LineFault → LineOutcome
watched_read below m (Ok a) = watched_line below m a
watched_read below m (Err fault) = Refused (Fault fault)

-- what a line of the input comes to in a state
unfoldable pub watched_piece : Below → RunState → Piece → LineOutcome
watched_piece below m (Whole line) =
    watched_read below m (line_of m.mesh (is_some m.world) line)
watched_piece below m others = outcome_of_piece m others

-- ---- all lines

-- a watched run of a schedule: nothing is written before the text of its first line, and it ends as
-- the run does
abbrev pub watched_run : Below → shell.Fold RunState Verdict
watched_run below = record {
  head = λ m. [];
  outcome = λ m piece. outcome_in_run m (watched_piece below m piece);
  ending = ending;
}

-- the watched run of these lines from a state on
abbrev pub watched_from : Below → RunState → List Piece → RunText
watched_from below m pieces = shell.text_from (watched_run below) m pieces

-- what a watched run writes for an input from a state on, and what it comes to
abbrev pub watched_on : Below → RunState → List ℕ → RunText
watched_on below m input = shell.text_on (watched_run below) schedule_limits m input

-- the same from the opening state on
unfoldable pub watched_of_input : Below → Variant → List ℕ → RunText
watched_of_input below variant input = watched_on below (opening variant) input
