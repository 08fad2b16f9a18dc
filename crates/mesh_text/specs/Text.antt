-- Part of what the headline says.
-- The text of a run and its verdict, from the bytes of its input.
use Rattle.std.specs.Prelude.{ℕ, ◌+◌, List, [], ◌∷◌, ◌++◌, Result, Ok, Err, length, is_some, slice_get}
use Rattle.mesh_base.specs.Meshes.{with_node}
use Rattle.mesh_base.specs.declared.events.Full.{Full as Counter}
use Rattle.mesh_base.specs.declared.events.Variant.{Variant}
use Rattle.mesh_model.specs.Worlds.{Event}
use Rattle.mesh_model.specs.Routes.{route_end}
use Rattle.mesh_grammar.specs.declared.fault.LineFault.{LineFault}
use Rattle.mesh_grammar.specs.declared.fault.BadWhy.{BadWhy}
use Rattle.mesh_grammar.specs.declared.fault.BadWhy.TheVariants.{Fault, TooLong, TooMuch}
use Rattle.mesh_text.specs.Schedule.{RunState, AcceptedLine, Nothing, NewNode, Does, Chooses, ShowsNode, ShowsRoute, ShowsFlight, line_of, with_line_read, with_world, world_of, opening}
use Rattle.mesh_grammar.specs.Faults.{bad_line}
use Rattle.mesh_io.specs.NextLines.{schedule_limits}
use Rattle.mesh_shell.specs.Pieces.{Piece, Whole, Long, Beyond, pieces_within}
use Rattle.mesh_shell.specs.Fold as shell
pub use Rattle.mesh_shell.specs.Fold.{whole, lines_before}
use Rattle.mesh_text.specs.declared.verdict.Verdict.{Verdict}
use Rattle.mesh_text.specs.declared.verdict.Verdict.TheVariants.{Finished, RefusedAt, FullAt}
use Rattle.mesh_grammar.specs.Written.{line}
use Rattle.mesh_text.specs.Lines.{words_of, done_line, full_line}
use Rattle.mesh_text.specs.Tables.{node_text_in, end_text, flight_text}
use Rattle.mesh_text.specs.Auto as auto

-- ---- one line

-- the outcome of a line in a state: its text and the next state; why it is refused; or its text
-- before an event that is refused for a full counter, the state at that event, and the event
pub data LineOutcome : Type 0 where
  On : List ℕ → RunState → LineOutcome
  Refused : BadWhy → LineOutcome
  Full : List ℕ → RunState → Event → Counter → LineOutcome

-- the outcome of a line whose events had this outcome
abbrev pub outcome_by_events : auto.EventsOutcome → LineOutcome
outcome_by_events (auto.Ended text after) = On text (with_line_read after)
outcome_by_events (auto.Full text n e field) = Full text n e field

-- the outcome of a line that chose `did` events: its own text, theirs, and the line after them
abbrev pub outcome_of_auto : List ℕ → ℕ → auto.EventsOutcome → LineOutcome
outcome_of_auto text did (auto.Ended others after) =
    On (text ++ others ++ auto.auto_end did) (with_line_read after)
outcome_of_auto text did (auto.Full others n e field) = Full (text ++ others) n e field

-- the outcome of a line that changes nothing, except that the run has started
abbrev pub outcome_of_show : RunState → List ℕ → LineOutcome
outcome_of_show m text = On text (with_line_read (with_world m))

-- the outcome of an allowed line in a state
unfoldable pub outcome_of_line : RunState → AcceptedLine → LineOutcome
outcome_of_line m Nothing = On [] (with_line_read m)
outcome_of_line m (NewNode address first) =
    On (line (words_of m.mesh (NewNode address first)))
    (with_line_read (record m { mesh = with_node m.mesh address first }))
outcome_of_line m (Does e) = outcome_by_events (auto.outcome_of_events (with_world m) (e ∷ []))
outcome_of_line m (Chooses count) =
    let chosen = auto.events_chosen count (with_world m) in
    outcome_of_auto (line (words_of m.mesh (Chooses count))) (length chosen)
    (auto.outcome_of_events (with_world m) chosen)
outcome_of_line m (ShowsNode x) =
    outcome_of_show m (line (words_of m.mesh (ShowsNode x))
    ++ node_text_in m.mesh (slice_get (world_of m).nodes x))
outcome_of_line m (ShowsRoute x d) =
    outcome_of_show m (line (words_of m.mesh (ShowsRoute x d))
    ++ end_text m.mesh (route_end (world_of m) x d))
outcome_of_line m ShowsFlight =
    outcome_of_show m (line (words_of m.mesh ShowsFlight) ++ flight_text m.mesh (world_of m).flying)

abbrev pub outcome_of_read : RunState → Result AcceptedLine LineFault → LineOutcome
outcome_of_read m (Ok a) = outcome_of_line m a
outcome_of_read m (Err fault) = Refused (Fault fault)

-- the outcome of a line of the input in a state
unfoldable pub outcome_of_piece : RunState → Piece → LineOutcome
outcome_of_piece m (Whole line) = outcome_of_read m (line_of m.mesh (is_some m.world) line)
outcome_of_piece m Long = Refused TooLong
outcome_of_piece m Beyond = Refused TooMuch

-- the text of a line, as far as it was done
abbrev pub text_in : LineOutcome → List ℕ
text_in (On text n) = text
text_in (Refused why) = []
text_in (Full text n e field) = text

-- ---- all lines

-- the lines of an input
abbrev pub pieces_of_input : List ℕ → List Piece
pieces_of_input input = pieces_within schedule_limits input

-- what a run writes: the text of its lines, and its last line; its verdict; and the state after its
-- last allowed line
abbrev pub RunText : Type 0
RunText = shell.RunText RunState Verdict

-- how a run ends at the end of its input
abbrev pub ending : RunState → shell.Ending RunState Verdict
ending m = record { text = done_line m; verdict = Finished; after = m }

abbrev pub finished_run : RunState → RunText
finished_run m = shell.finished_run (ending m)

-- a run that ends at a line that is refused
abbrev pub refused_run : RunState → BadWhy → RunText
refused_run m why = shell.ended_run m [] (bad_line (m.lines + 1) why) (RefusedAt (m.lines + 1))

-- a run that ends at a line with an event that is refused for a full counter, after a text
abbrev pub overfull_run : RunState → List ℕ → Event → Counter → RunText
overfull_run m text e field =
    shell.ended_run m text (full_line m.mesh (m.lines + 1) e field) (FullAt (m.lines + 1))

-- how a run goes on, or ends, at a line with this outcome
abbrev pub outcome_in_run : RunState → LineOutcome → shell.Outcome RunState Verdict
outcome_in_run m (On text n) = shell.On text n
outcome_in_run m (Refused why) =
    shell.Ended [] (bad_line (m.lines + 1) why) (RefusedAt (m.lines + 1))
outcome_in_run m (Full text n e field) =
    shell.Ended text (full_line m.mesh (m.lines + 1) e field) (FullAt (m.lines + 1))

-- the outcome of a line, and then the rest of the run from the next state on
abbrev pub goes_on : RunState → LineOutcome → (RunState → RunText) → RunText
goes_on m k others = shell.goes_on m (outcome_in_run m k) others

-- the run of a schedule: nothing comes before the text of its first line
abbrev pub schedule_run : shell.Fold RunState Verdict
schedule_run = record {
  head = λ m. [];
  outcome = λ m piece. outcome_in_run m (outcome_of_piece m piece);
  ending = ending;
}

-- the run of these lines from a state on
abbrev pub text_from : RunState → List Piece → RunText
text_from m pieces = shell.text_from schedule_run m pieces

-- what a run writes for an input from a state on, and its verdict
abbrev pub text_on : RunState → List ℕ → RunText
text_on m input = shell.text_on schedule_run schedule_limits m input

-- the run of an input from the opening on
unfoldable pub text_of_input : Variant → List ℕ → RunText
text_of_input variant input = text_on (opening variant) input
