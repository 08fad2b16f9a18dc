-- Why an event isn't done, or not written whole, and why its line then isn't.
use Rattle.std.specs.Prelude.{Result, Ok, Err}
use Rattle.mesh_base.specs.declared.events.Event.{Event as EventGiven}
use Rattle.mesh_meaning.specs.Events.{event_of, node_of}
use Rattle.mesh_world.specs.declared.steps.StepError.{StepError}
use Rattle.mesh_world.specs.declared.steps.StepError.TheVariants.{Full, NoMemory}
use Rattle.mesh_run.specs.declared.stop.EventStop.{EventStop}
use Rattle.mesh_run.specs.declared.stop.EventStop.TheVariants as event
use Rattle.mesh_run.specs.declared.stop.Stop.{Stop}
use Rattle.mesh_run.specs.declared.stop.Stop.TheVariants as stop

-- what a refused event answers
abbrev pub event_stop_of : StepError → EventStop
event_stop_of (Full node field) = event.Full field
event_stop_of NoMemory = event.NoMemory

-- what stops the run if this event wasn't done, or not written whole
abbrev pub stop_of : EventGiven → EventStop → Stop
stop_of e (event.Full field) = stop.Full e (node_of (event_of e)) field
stop_of e event.WriteFault = stop.WriteFault
stop_of e event.NoMemory = stop.NoMemory

-- what the line of this event answers, by what the event answers
abbrev pub answer_of : EventGiven → Result (Unit {0}) EventStop → Result (Unit {0}) Stop
answer_of e (Ok done) = Ok done
answer_of e (Err s) = Err (stop_of e s)
