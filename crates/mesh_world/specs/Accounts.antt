-- The account of the data over one event. Each statement holds for every choice of data by their
-- originator, destination and body, so for each datum by itself.
use Rattle.std.specs.Prelude.{◌≡◌, ℕ, ◌+◌, Result, Ok, Err}
use Rattle.mesh_model.specs.Worlds.{World, Event, step}
use Rattle.mesh_model.specs.Accounts.{Test, waiting, queued_data, in_flight, given_data, doubled_data, delivered_data, dropped_data}
use Rattle.mesh_world.specs.Seen.{WorldSeen}
use Rattle.mesh_world.specs.declared.steps.StepError.{StepError}

-- the data that a world has, in stores, in queues and in flight
abbrev pub held_data : Test → World → ℕ
held_data t w = waiting t w + queued_data t w + in_flight t w

-- the data that are there after an event, or that it delivered or dropped, are as many as were
-- there before it, or were given or doubled by it
abbrev pub IsAccounted : Event → World → World → Type 0
IsAccounted e old new = (t : Test)
    → held_data t new + delivered_data t e (step old e) + dropped_data t e (step old e)
    ≡ held_data t old + given_data t e (step old e) + doubled_data t old e

-- an event that was done, or was idle, is accounted for; after one that was refused the world holds
-- as many data as before
abbrev pub KeepsAccount : {A : Type 0} → Event → WorldSeen → Result A StepError → WorldSeen → Type 0
KeepsAccount e old (Ok done) new = IsAccounted e old.world new.world
KeepsAccount e old (Err error) new = (t : Test) → held_data t new.world ≡ held_data t old.world
