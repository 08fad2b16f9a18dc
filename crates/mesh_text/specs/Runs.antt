-- Part of what the headline says.
-- The events that the lines of an input do, one after another, and the states and worlds after any
-- of them.
use Rattle.std.specs.Prelude.{ℕ, List, [], ◌∷◌, ◌++◌, Option, Some, None, Result, Ok, Err, take, is_some, slice_get}
use Rattle.mesh_base.specs.Meshes.{Nodes}
use Rattle.mesh_base.specs.declared.events.Variant.{Variant}
use Rattle.mesh_model.specs.Worlds.{World, Event, run, start, first_numbers}
use Rattle.mesh_grammar.specs.declared.fault.LineFault.{LineFault}
use Rattle.mesh_text.specs.Schedule.{RunState, AcceptedLine, Does, Chooses, line_of, with_world, next_state, opening}
use Rattle.mesh_shell.specs.Pieces.{Piece, Whole, Long, Beyond}
use Rattle.mesh_text.specs.Auto.{events_chosen}
use Rattle.mesh_text.specs.Text.{pieces_of_input, LineOutcome, On, Refused, Full, outcome_of_piece, RunText, text_from, text_of_input}

-- ---- the events of a line

-- the events of an allowed line
abbrev pub events_of_line : RunState → AcceptedLine → List Event
events_of_line m (Does e) = e ∷ []
events_of_line m (Chooses count) = events_chosen count (with_world m)
events_of_line m others = []

abbrev pub events_read : RunState → Result AcceptedLine LineFault → List Event
events_read m (Ok a) = events_of_line m a
events_read m (Err fault) = []

abbrev pub events_of_piece : RunState → Piece → List Event
events_of_piece m (Whole line) = events_read m (line_of m.mesh (is_some m.world) line)
events_of_piece m Long = []
events_of_piece m Beyond = []

-- ---- the events of an input

-- the events of the lines that follow, unless the run has ended
abbrev pub events_after : LineOutcome → (RunState → List Event) → List Event
events_after (On text n) others = others n
events_after (Refused why) others = []
events_after (Full text n e field) others = []

unfoldable pub events_from : RunState → List Piece → List Event
events_from m [] = []
events_from m (piece ∷ pieces) =
    events_of_piece m piece ++ events_after (outcome_of_piece m piece) (λ n. events_from n pieces)

unfoldable pub events_of_input : Variant → List ℕ → List Event
events_of_input variant input = events_from (opening variant) (pieces_of_input input)

-- ---- the states

-- the state after these events
unfoldable pub run_state_after : RunState → List Event → RunState
run_state_after m [] = m
run_state_after m (e ∷ es) = run_state_after (next_state m e) es

-- the state after the first k events of a line
abbrev pub run_state_in : RunState → Piece → ℕ → RunState
run_state_in m piece k = run_state_after m (take k (events_of_piece m piece))

abbrev pub state_in_next : RunState → Option Piece → ℕ → RunState
state_in_next m None k = m
state_in_next m (Some piece) k = run_state_in m piece k

-- the run of the first i lines of an input
abbrev pub prefix_of_input : Variant → List ℕ → ℕ → RunText
prefix_of_input variant input i = text_from (opening variant) (take i (pieces_of_input input))

-- the state after the first i lines, and k events of the next
abbrev pub run_state_at : Variant → List ℕ → ℕ → ℕ → RunState
run_state_at variant input i k =
    state_in_next (prefix_of_input variant input i).after (slice_get (pieces_of_input input) i) k

-- ---- the worlds

-- the nodes of an input
abbrev pub mesh_of_input : Variant → List ℕ → Nodes
mesh_of_input variant input = (text_of_input variant input).after.mesh

-- the world after the first k events of an input
abbrev pub world_after : Variant → List ℕ → ℕ → World
world_after variant input k =
    run (start variant (first_numbers (mesh_of_input variant input)))
    (take k (events_of_input variant input))
