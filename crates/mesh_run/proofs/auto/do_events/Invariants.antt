-- Whatever is told of the events that are left, the same then is of all of them, and the states that they lead through are some
-- that all lead through.
use Rattle.std.proofs.Common.{◌≡◌, ◌≤◌, ◌<◌, ◌+◌, ◌-◌, ◌^◌, ℕ, List, Option, Result, true, is_some, length}
use Rattle.mesh_text.specs.Schedule.{RunState}
use Rattle.mesh_text.specs.Auto.{outcome_of_events, events_chosen}
use Rattle.mesh_run.specs.declared.stop.Stop.{Stop}
use Rattle.mesh_run.specs.Runs.{IsEventsRun, IsReached}
use Rattle.mesh_run.proofs.auto.do_events.Given as goal

abbrev pub invariant-events : goal.invariant-events
invariant-events g l = record {
  ran : (now : Option (List ℕ)) (n : RunState) (r : Result ℕ Stop)
      → IsEventsRun l.say l.at (outcome_of_events l.at (events_chosen (l.count - l.did) l.at)) n (g.O.Sink.held l.out) now r
      → IsEventsRun l.say l.initial.at (outcome_of_events l.initial.at (events_chosen l.initial.count l.initial.at)) n (g.O.Sink.held l.initial.out) now r;
  way : (n : RunState) → IsReached l.at (events_chosen (l.count - l.did) l.at) n → IsReached l.initial.at (events_chosen l.initial.count l.initial.at) n;
  left : l.did + length (events_chosen (l.count - l.did) l.at) ≡ length (events_chosen l.initial.count l.initial.at);
  started : is_some l.at.world ≡ true;
  lines : l.at.lines ≡ l.initial.at.lines;
  faults : g.O.Sink.faults l.out ≡ g.O.Sink.faults l.initial.out;
  fits : l.count < 2 ^ 32;
  within : l.did ≤ l.count;
  few : l.at.steps + (l.count - l.did) < 2 ^ 48;
}

abbrev pub decreases-events : goal.decreases-events
decreases-events g l = l.count - l.did
