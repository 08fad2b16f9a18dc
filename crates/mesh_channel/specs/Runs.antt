-- The events of a run over a channel, one after another, and the states and worlds that they lead
-- through.
use Rattle.std.specs.Prelude.{ℕ, ◌≡◌, List, [], ◌∷◌, ◌++◌, Option, Some, None, Result, Ok, Err, take, slice_get}
use Rattle.mesh_base.specs.Meshes.{Nodes}
use Rattle.mesh_base.specs.declared.events.Variant.{Variant}
use Rattle.mesh_model.specs.Worlds.{World, Event, run, start, first_numbers}
use Rattle.mesh_grammar.specs.declared.fault.LineFault.{LineFault}
use Rattle.mesh_shell.specs.Pieces.{Piece, Whole}
use Rattle.mesh_text.specs.Schedule as schedule
use Rattle.mesh_text.specs.Text.{pieces_of_input}
use Rattle.mesh_text.specs.Runs.{events_after, run_state_after}
use Rattle.mesh_text.specs.declared.verdict.Verdict.TheVariants.{Finished}
use Rattle.mesh_fates.specs.declared.rates.Rates.{Rates}
use Rattle.mesh_channel.specs.Lines.{Line}
use Rattle.mesh_channel.specs.Text.{RunState, opening, drawn_by, line_at, outcome_of_piece, next, RunText, text_from, text_of_input}

-- ---- the events of an input

abbrev pub events_by : Rates → RunState → Result Line LineFault → List Event
events_by rates m (Ok l) = (drawn_by rates m l).events
events_by rates m (Err fault) = []

-- the events of a line
unfoldable pub events_of_piece : Rates → RunState → Piece → List Event
events_of_piece rates m (Whole bytes) = events_by rates m (line_at m bytes)
events_of_piece rates m others = []

-- the events of these lines, up to the line that ends the run, if one does
unfoldable pub events_from : Rates → RunState → List Piece → List Event
events_from rates m [] = []
events_from rates m (piece ∷ pieces) =
    events_of_piece rates m piece
    ++ events_after (outcome_of_piece rates m piece)
    (λ n. events_from rates (next rates m piece n) pieces)

unfoldable pub events_of_input : Rates → Variant → ℕ → List ℕ → List Event
events_of_input rates variant seed input =
    events_from rates (opening variant seed) (pieces_of_input input)

-- ---- the worlds

-- the nodes of an input
abbrev pub mesh_of_input : Rates → Variant → ℕ → List ℕ → Nodes
mesh_of_input rates variant seed input = (text_of_input rates variant seed input).after.run.mesh

-- the opening world of these nodes
abbrev pub opening_world : Rates → Variant → ℕ → List ℕ → World
opening_world rates variant seed input =
    start variant (first_numbers (mesh_of_input rates variant seed input))

-- the world after the first k events of an input
abbrev pub world_after : Rates → Variant → ℕ → List ℕ → ℕ → World
world_after rates variant seed input k =
    run (opening_world rates variant seed input)
    (take k (events_of_input rates variant seed input))
