-- What is left to do, and that each copy has a number from 1 on.
use Rattle.std.specs.Prelude.{◌≤◌, List, map}
use Rattle.std.specs.List.{AllByRecursion}
use Rattle.mesh_model.specs.Worlds.{Event, Lose, Double}
use Rattle.mesh_fates.specs.declared.decided.Decided.{Decided}
use Rattle.mesh_fates.specs.declared.decided.Decided.TheVariants as decided
use Rattle.mesh_fates.specs.Plans.{Plan}

-- the event that does what is decided
abbrev pub event_left : Decided → Event
event_left (decided.Lose id) = Lose id
event_left (decided.Double id) = Double id

abbrev pub events_left : List Decided → List Event
events_left left = map event_left left

-- the event is the loss or the doubling of a copy with a number from 1 on
abbrev pub IsNumbered : Event → Type 0
IsNumbered (Lose id) = 1 ≤ id
IsNumbered (Double id) = 1 ≤ id
IsNumbered others = ⊥

abbrev pub AreNumberedLeft : List Decided → Type 0
AreNumberedLeft left = AllByRecursion (λ d. IsNumbered (event_left d)) left

abbrev pub AreNumbered : Plan → Type 0
AreNumbered plan = AllByRecursion (λ d. 1 ≤ d.id) plan
