-- The events of a run with places, one after another, and the states and worlds that they lead
-- through. The events of a line that puts a node at a place are the changes of links that follow.
use Rattle.std.specs.Prelude.{ℕ, ◌≡◌, List, [], ◌∷◌, ◌++◌, if◌then◌else◌, Option, Some, None, Result, Ok, Err, take, slice_get}
use Rattle.mesh_base.specs.Meshes.{Nodes}
use Rattle.mesh_base.specs.declared.events.Variant.{Variant}
use Rattle.mesh_model.specs.Worlds.{World, Event, run, start, first_numbers}
use Rattle.mesh_grammar.specs.declared.fault.LineFault.{LineFault}
use Rattle.mesh_shell.specs.Pieces.{Piece, Whole}
use Rattle.mesh_text.specs.Schedule as schedule
use Rattle.mesh_text.specs.Text.{pieces_of_input}
use Rattle.mesh_text.specs.Runs as runs
use Rattle.mesh_text.specs.Runs.{run_state_after}
use Rattle.mesh_text.specs.declared.verdict.Verdict.TheVariants.{Finished}
use Rattle.mesh_grid.specs.declared.line.Placing.{Placing}
use Rattle.mesh_grid.specs.Lines.{placing_of}
use Rattle.mesh_grid.specs.Links.{may_come}
use Rattle.mesh_grid.specs.Text.{RunState, opening, changes, other_line, outcome_of_piece, next, RunText, text_from, text_of_input}

-- ---- the events of an input

abbrev pub events_of_placing : ℕ → RunState → Placing → List Event
events_of_placing reach m new = if may_come m.places new then changes reach m new else []

abbrev pub events_by : ℕ → RunState → List ℕ → Result (Option Placing) LineFault → List Event
events_by reach m bytes (Ok (Some new)) = events_of_placing reach m new
events_by reach m bytes (Ok None) = runs.events_read m.run (other_line m bytes)
events_by reach m bytes (Err fault) = []

-- the events of a line
unfoldable pub events_of_piece : ℕ → RunState → Piece → List Event
events_of_piece reach m (Whole bytes) = events_by reach m bytes (placing_of m.run.mesh bytes)
events_of_piece reach m others = []

-- the events of these lines, up to the first that isn't allowed
unfoldable pub events_from : ℕ → RunState → List Piece → List Event
events_from reach m [] = []
events_from reach m (piece ∷ pieces) =
    events_of_piece reach m piece
    ++ runs.events_after (outcome_of_piece reach m piece)
    (λ n. events_from reach (next m piece n) pieces)

unfoldable pub events_of_input : ℕ → Variant → List ℕ → List Event
events_of_input reach variant input = events_from reach (opening variant) (pieces_of_input input)

-- ---- the states

-- the run of the first i lines of an input
abbrev pub prefix_of_input : ℕ → Variant → List ℕ → ℕ → RunText
prefix_of_input reach variant input i =
    text_from reach (opening variant) (take i (pieces_of_input input))

-- each of these lines is allowed, and none is refused for a full counter
abbrev pub AreDone : ℕ → Variant → List ℕ → ℕ → Type 0
AreDone reach variant input i = (prefix_of_input reach variant input i).verdict ≡ Finished

-- the state after these lines, up to the first that isn't allowed or is refused for a full counter
unfoldable pub run_state_at : ℕ → Variant → List ℕ → ℕ → RunState
run_state_at reach variant input i = (prefix_of_input reach variant input i).after

-- the run after the first k events of the next line, if there is one, from this state on
abbrev pub run_within : ℕ → RunState → Option Piece → ℕ → schedule.RunState
run_within reach m None k = m.run
run_within reach m (Some piece) k = run_state_after m.run (take k (events_of_piece reach m piece))

-- the run after the first i lines of an input, and k events of the next. The events of a line about
-- a place are the changes of links that follow
abbrev pub state_within : ℕ → Variant → List ℕ → (i k : ℕ) → schedule.RunState
state_within reach variant input i k =
    run_within reach (run_state_at reach variant input i) (slice_get (pieces_of_input input) i) k

-- ---- the worlds

-- the nodes of an input
abbrev pub mesh_of_input : ℕ → Variant → List ℕ → Nodes
mesh_of_input reach variant input = (text_of_input reach variant input).after.run.mesh

-- the world after the first k events of an input
abbrev pub world_after : ℕ → Variant → List ℕ → ℕ → World
world_after reach variant input k =
    run (start variant (first_numbers (mesh_of_input reach variant input)))
    (take k (events_of_input reach variant input))

-- the world of a state is the one to which the input's first events, as many as the state has
-- counted, lead from the opening world of its nodes
abbrev pub IsOfEvents : ℕ → Variant → List ℕ → schedule.RunState → Type 0
IsOfEvents reach variant input m =
    schedule.world_of m
    ≡ run (start variant (first_numbers m.mesh))
    (take m.sums.events (events_of_input reach variant input))
