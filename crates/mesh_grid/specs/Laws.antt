-- The statements that this crate proves of its definitions.
use Rattle.std.specs.Prelude.{◌≡◌, ◌≢◌, ℕ, List, length, Some, None, Ok}
use Rattle.std.specs.List.{AllByRecursion}
use Rattle.mesh_base.specs.Meshes.{Nodes}
use Rattle.mesh_base.specs.declared.events.Variant.{Variant}
use Rattle.mesh_model.specs.InMesh.{IsEvent}
use Rattle.mesh_model.specs.Walks.{Cycle}
use Rattle.mesh_model.specs.Worlds.{are_linked}
use Rattle.mesh_shell.specs.Pieces.{Whole}
use Rattle.mesh_text.specs.declared.verdict.Verdict.TheVariants.{FullAt}
use Rattle.mesh_text.specs.Schedule.{AcceptedLine, world_of}
use Rattle.mesh_text.specs.Text as text
use Rattle.mesh_text.specs.Accounts.{IsBalanced}
use Rattle.mesh_grid.specs.declared.line.Placing.{Placing}
use Rattle.mesh_grid.specs.Lines.{placing_of, place_words}
use Rattle.mesh_grid.specs.Links.{is_in_reach}
use Rattle.mesh_grid.specs.Text.{RunState, other_line, outcome_of_piece, text_of_input}
use Rattle.mesh_grid.specs.Runs.{AreDone, run_state_at, state_within, mesh_of_input, world_after, IsOfEvents, events_of_input}

-- after each allowed line of an input, the links that stand are those between nodes with places
-- that are within reach of each other. Before there is a world none stands
abbrev pub LinksFollowPlaces : Type 0
LinksFollowPlaces = (reach : ℕ) (variant : Variant) (input : List ℕ) (i a b : ℕ)
    → let m = run_state_at reach variant input i in
    are_linked (world_of m.run).links a b ≡ is_in_reach reach m.places a b

-- the world after the last allowed line is the one to which the input's first events, as many as
-- were counted, lead; and unless a full counter has ended the run, all of them were counted
abbrev pub WorldsAreOfEvents : Type 0
WorldsAreOfEvents = (reach : ℕ) (variant : Variant) (input : List ℕ) →
    let w = text_of_input reach variant input in
    (world_of w.after.run ≡ world_after reach variant input w.after.run.sums.events)
    × (((number : ℕ) → w.verdict ≢ FullAt number)
    → w.after.run.sums.events ≡ length (events_of_input reach variant input))

-- the same for each state before that: after the first i lines, which were all done, and k events
-- of the next
abbrev pub StateIsOfEvents : Type 0
StateIsOfEvents = (reach : ℕ) (variant : Variant) (input : List ℕ) (i k : ℕ)
    → AreDone reach variant input i
    → IsOfEvents reach variant input (state_within reach variant input i k)

-- after any number of an input's events no destination's valid routes have a loop
abbrev pub RunsWithPlacesAreLoopFree : Type 0
RunsWithPlacesAreLoopFree = (reach : ℕ) (variant : Variant) (input : List ℕ) (k d : ℕ)
    → ¬ (Cycle (world_after reach variant input k) d)

-- nor do they have one after any line
abbrev pub LinesAreLoopFree : Type 0
LinesAreLoopFree = (reach : ℕ) (variant : Variant) (input : List ℕ) (i d : ℕ)
    → ¬ (Cycle (world_of (run_state_at reach variant input i).run) d)

-- or after any event of the next line
abbrev pub RunStateIsLoopFree : Type 0
RunStateIsLoopFree = (reach : ℕ) (variant : Variant) (input : List ℕ) (i k d : ℕ)
    → ¬ (Cycle (world_of (state_within reach variant input i k)) d)

-- after the last allowed line as many data were given or doubled as were delivered, wait in a store
-- or a queue, are in flight, or were dropped
abbrev pub DataAreAccountedFor : Type 0
DataAreAccountedFor = (reach : ℕ) (variant : Variant) (input : List ℕ)
    → IsBalanced (text_of_input reach variant input).after.run

-- each event of an input is one of the input's mesh
abbrev pub EventsAreOfMesh : Type 0
EventsAreOfMesh = (reach : ℕ) (variant : Variant) (input : List ℕ)
    → AllByRecursion (IsEvent (length (mesh_of_input reach variant input)))
    (events_of_input reach variant input)

-- a line that is not about a place, if it is allowed, comes to what it comes to in a schedule
abbrev pub OtherLineIsAsInSchedule : Type 0
OtherLineIsAsInSchedule = (reach : ℕ) (m : RunState) (line : List ℕ) (a : AcceptedLine)
    → placing_of m.run.mesh line ≡ Ok None → other_line m line ≡ Ok a
    → outcome_of_piece reach m (Whole line) ≡ text.outcome_of_piece m.run (Whole line)

-- the bytes of a line about a place are those that it is written back as
abbrev pub PlaceLineIsWrittenAsItStands : Type 0
PlaceLineIsWrittenAsItStands = (mesh : Nodes) (line : List ℕ) (new : Placing)
    → placing_of mesh line ≡ Ok (Some new) → line ≡ place_words mesh new
