-- Part of what the headline says.
-- What holds in every world of an input's run, after any number of its events: no destination has a
-- loop, and each datum is accounted for.
use Rattle.std.specs.Prelude.{◌≡◌, ◌+◌, ℕ, List, take}
use Rattle.mesh_base.specs.declared.events.Variant.{Variant}
use Rattle.mesh_model.specs.Walks.{Cycle}
use Rattle.mesh_model.specs.Worlds.{World, Event, run, start, first_numbers}
use Rattle.mesh_model.specs.Accounts.{Test, waiting, queued_data, in_flight, given_data, doubled_data, delivered_data, dropped_data, over_run, over_worlds}
use Rattle.mesh_text.specs.Runs.{events_of_input, mesh_of_input, world_after}

-- in none of these worlds does a destination have a loop
abbrev pub IsLoopFreeRun : Variant → List ℕ → Type 0
IsLoopFreeRun variant input = (k d : ℕ) → ¬ (Cycle (world_after variant input k) d)

-- the opening world of an input's nodes
abbrev pub opening_world : Variant → List ℕ → World
opening_world variant input = start variant (first_numbers (mesh_of_input variant input))

-- of the data of a choice, these events gave and doubled as many as were delivered, wait in a store
-- or a queue, are in flight, or were dropped
abbrev pub IsAccountedAfter : Test → World → List Event → Type 0
IsAccountedAfter t w events =
    over_run (given_data t) w events + over_worlds (doubled_data t) w events
    ≡ over_run (delivered_data t) w events
    + (waiting t (run w events) + queued_data t (run w events) + in_flight t (run w events))
    + over_run (dropped_data t) w events

-- it is so in each of these worlds, for every choice of data by their originator, destination and
-- body, and thus for each datum by itself
abbrev pub IsAccountedRun : Variant → List ℕ → Type 0
IsAccountedRun variant input = (t : Test) (k : ℕ)
    → IsAccountedAfter t (opening_world variant input) (take k (events_of_input variant input))
