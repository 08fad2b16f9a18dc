-- Part of what the headline says.
-- An event of the program, as the definitions have it.
use Rattle.std.specs.Prelude.{ℕ}
use Rattle.mesh_base.specs.declared.events.Event.{Event}
use Rattle.mesh_base.specs.declared.events.Event.TheVariants as events
use Rattle.mesh_model.specs.Worlds as model

abbrev pub event_of : Event → model.Event
event_of (events.Give node dest body) = model.Give node dest body.now
event_of (events.Turn node) = model.Turn node
event_of (events.Send node dest) = model.Send node dest
event_of (events.Ask node dest) = model.Ask node dest
event_of (events.Link a b) = model.Link a b
event_of (events.Cut a b) = model.Cut a b
event_of (events.Deliver id) = model.Deliver id
event_of (events.Lose id) = model.Lose id
event_of (events.Double id) = model.Double id

-- the node at which an event happens, or 0 for an event of a link or a copy, which is at no node
abbrev pub node_of : model.Event → ℕ
node_of (model.Give node dest body) = node
node_of (model.Turn node) = node
node_of (model.Send node dest) = node
node_of (model.Ask node dest) = node
node_of others = 0
