-- What is written and answered for one line, for one event, and for events that were chosen. A text
-- is written only if `say` is true.
use Rattle.std.specs.Prelude.{ℕ, ◌≡◌, ◌≤◌, ◌⊎◌, List, [], ◌∷◌, take, Bool, if◌then◌else◌, Option, Some, Result, Ok, Err, MatchResult, length}
use Rattle.std.specs.Io.KnownBytes.{Appends, Keeps}
use Rattle.mesh_base.specs.declared.events.Full as full
use Rattle.mesh_io.specs.Puts.{AppendsPrefix}
use Rattle.mesh_model.specs.Worlds as worlds
use Rattle.mesh_model.specs.Worlds.{Event, Outcome, Idle, Next}
use Rattle.mesh_model.specs.Choices.{pick}
use Rattle.mesh_model.specs.InMesh.{IsEvent}
use Rattle.mesh_meaning.specs.Events.{event_of}
use Rattle.mesh_grammar.specs.declared.fault.BadWhy.TheVariants.{Fault}
use Rattle.mesh_base.specs.Meshes.{Nodes}
use Rattle.mesh_base.specs.declared.limits.TheConstants.{LONGEST_LINE}
use Rattle.mesh_text.specs.Lines.{words_of}
use Rattle.mesh_text.specs.Schedule.{RunState, AcceptedLine, ShowsNode, ShowsRoute, ShowsFlight, with_world, with_line_read, outcome_at, next_state, world_of}
use Rattle.mesh_text.specs.Effects.{outcome_lines}
use Rattle.mesh_text.specs.Auto.{EventsOutcome, Ended, Full as EventsFull}
use Rattle.mesh_text.specs.Runs.{run_state_after}
use Rattle.mesh_run.specs.RunStates.{IsAnswered}
use Rattle.mesh_text.specs.Text.{LineOutcome, On, Refused, Full, text_in}
use Rattle.mesh_run.specs.declared.show.Shown.{Shown}
use Rattle.mesh_run.specs.declared.show.Shown.TheVariants as shown
use Rattle.mesh_run.specs.declared.stop.Stop.{Stop}
use Rattle.mesh_run.specs.declared.stop.Stop.TheVariants as stop

-- what is written of a text: all of it if `say`, and otherwise nothing
abbrev pub output_if : Bool → List ℕ → List ℕ
output_if say text = if say then text else []

-- the line that shows this
abbrev pub line_of_shown : Shown → AcceptedLine
line_of_shown (shown.Node node) = ShowsNode node
line_of_shown (shown.Route node dest) = ShowsRoute node dest
line_of_shown shown.Flight = ShowsFlight

-- the bytes of a line are those that it is written back as, and are not too long
abbrev pub IsLineOf : Nodes → AcceptedLine → List ℕ → Type 0
IsLineOf mesh l bytes = (length bytes ≤ LONGEST_LINE) × (bytes ≡ words_of mesh l)

-- ---- what came of a line, or of one event

-- it was done and its text written, and the run goes on from state n
pub record IsLineDone (say : Bool) (k : LineOutcome) (n : RunState) (before now : Option (List ℕ))
    : Type 0 where
  pub text : List ℕ
  pub is : k ≡ On text n
  pub grown : Appends before now (output_if say text)

-- what is known after a refusal for a full counter: the event is of the mesh, and mesh and line are
-- still the same
pub record IsStill (m n : RunState) (e : Event) : Type 0 where
  pub event : IsEvent (length m.mesh) e
  pub mesh : n.mesh ≡ m.mesh
  pub lines : n.lines ≡ m.lines

-- after a text, an event was refused in state n because this counter of this node is full
pub record IsLineFull
    (say : Bool) (m : RunState) (k : LineOutcome) (n : RunState) (before now : Option (List ℕ))
    (e : Event) (node : ℕ) (field : full.Full) : Type 0 where
  pub text : List ℕ
  pub is : k ≡ Full text n e field
  pub refused : outcome_at n e ≡ worlds.Full node field
  pub grown : Appends before now (output_if say text)
  pub still : IsStill m n e

-- the line was refused, or was not done, or not written whole
abbrev pub IsLineStopped : Bool → RunState → LineOutcome → RunState → Option (List ℕ)
    → Option (List ℕ) → Stop → Type 0
IsLineStopped say m k n before now (stop.BadLine f) =
    (k ≡ Refused (Fault f)) × (n ≡ m) × Keeps before now
IsLineStopped say m k n before now (stop.Full e node field) =
    IsLineFull say m k n before now (event_of e) node field
IsLineStopped say m k n before now stop.WriteFault =
    AppendsPrefix before now (output_if say (text_in k))
IsLineStopped say m k n before now stop.NoMemory =
    AppendsPrefix before now (output_if say (text_in k))

-- the line was done and written, or was stopped
abbrev pub IsLineRun : Bool → RunState → LineOutcome → RunState → Option (List ℕ) → Option (List ℕ)
    → Result (Unit {0}) Stop → Type 0
IsLineRun say m k n before now result =
    MatchResult result (λ _. IsLineDone say k n before now) (IsLineStopped say m k n before now)

-- the same for a line that is not counted yet
abbrev pub IsUncountedRun : Bool → RunState → LineOutcome → RunState → Option (List ℕ)
    → Option (List ℕ) → Result (Unit {0}) Stop → Type 0
IsUncountedRun say m k n before now result =
    MatchResult result (λ _. IsLineDone say k (with_line_read n) before now)
    (IsLineStopped say m k n before now)

-- ---- the states that a line goes through

-- some prefix of these events leads from run state m to run state n
abbrev pub IsReached : RunState → List Event → RunState → Type 0
IsReached m events n = (k : ℕ) × (n ≡ run_state_after m (take k events))

-- a line with these events goes through state n before it is counted: n is the state before the
-- line; or, once the run has started, the state after some prefix of the events
abbrev pub IsOnTheWay : RunState → List Event → RunState → Type 0
IsOnTheWay m events n = (n ≡ m) ⊎ IsReached (with_world m) events n

-- ---- one event

-- what an event comes to, by its outcome, with no line counted
abbrev pub outcome_by : RunState → Event → Outcome → LineOutcome
outcome_by m e Idle = On (outcome_lines m.mesh e Idle) (next_state m e)
outcome_by m e (worlds.Full x field) = Full [] m e field
outcome_by m e (Next w effect) = On (outcome_lines m.mesh e (Next w effect)) (next_state m e)

abbrev pub line_outcome_at : RunState → Event → LineOutcome
line_outcome_at m e = outcome_by m e (outcome_at m e)

-- ---- events one after another

-- all were done and written
pub record IsEventsDone
    (say : Bool) (ran : EventsOutcome) (n : RunState) (before now : Option (List ℕ)) : Type 0 where
  pub text : List ℕ
  pub is : ran ≡ Ended text n
  pub grown : Appends before now (output_if say text)

-- after the text of the events before it, an event was refused in state n because this counter of
-- this node is full
pub record IsEventsFull
    (say : Bool) (m : RunState) (ran : EventsOutcome) (n : RunState) (before now : Option (List ℕ))
    (e : Event) (node : ℕ) (field : full.Full) : Type 0 where
  pub text : List ℕ
  pub is : ran ≡ EventsFull text n e field
  pub refused : outcome_at n e ≡ worlds.Full node field
  pub grown : Appends before now (output_if say text)
  pub still : IsStill m n e

abbrev pub text_of : EventsOutcome → List ℕ
text_of (Ended text n) = text
text_of (EventsFull text n e field) = text

-- what was written and answered for these events, from state m to state n. None of them is refused
-- as a bad line
abbrev pub IsEventsRun : Bool → RunState → EventsOutcome → RunState → Option (List ℕ)
    → Option (List ℕ) → Result ℕ Stop → Type 0
IsEventsRun say m ran n before now (Ok did) = IsEventsDone say ran n before now
IsEventsRun say m ran n before now (Err (stop.BadLine f)) = ⊥
IsEventsRun say m ran n before now (Err (stop.Full e node field)) =
    IsEventsFull say m ran n before now (event_of e) node field
IsEventsRun say m ran n before now (Err stop.WriteFault) =
    AppendsPrefix before now (output_if say (text_of ran))
IsEventsRun say m ran n before now (Err stop.NoMemory) =
    AppendsPrefix before now (output_if say (text_of ran))

-- ---- events that a run chooses

-- two events were done, one after the other, each as the run chooses it
pub record AreTwoDone (m n : RunState) : Type 0 where
  pub first : Event
  pub chosen : pick (world_of m) ≡ Some first
  pub between : RunState
  pub done : IsAnswered m first between
  pub second : Event
  pub next : pick (world_of between) ≡ Some second
  pub ends : IsAnswered between second n
