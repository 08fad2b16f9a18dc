-- The definitions' events for the code's event.
use Rattle.std.specs.Prelude.{List, [], ◌∷◌, Option, Some, None}
use Rattle.mesh_base.specs.declared.events.Event.{Event as EventGiven}
use Rattle.mesh_model.specs.Worlds.{Event}
use Rattle.mesh_meaning.specs.Events.{event_of}

-- the definitions' events for an event of the code, if there is one
abbrev pub events_in : Option EventGiven → List Event
events_in None = []
events_in (Some e) = event_of e ∷ []
