-- Whatever is told of the events that are left, the same then is of all of them.
use Rattle.std.proofs.Common.{◌≡◌, ◌≤◌, ◌+◌, ◌-◌, ℕ, List, Option, Result, true, is_some, length}
use Rattle.mesh_text.specs.Schedule.{RunState}
use Rattle.mesh_text.specs.Auto.{events_chosen}
use Rattle.mesh_run.specs.declared.stop.Stop.{Stop}
use Rattle.mesh_run.specs.Runs.{IsEventsRun}
use Rattle.mesh_blocks.specs.Text.{watched_events}
use Rattle.mesh_blocks.proofs.auto.do_events.Given as goal

abbrev pub invariant-events : goal.invariant-events
invariant-events g l = record {
  ran : (now : Option (List ℕ)) (n : RunState) (r : Result ℕ Stop)
      → IsEventsRun true l.at (watched_events l.below l.at (events_chosen (l.count - l.did) l.at)) n (g.O.Sink.held l.out) now r
      → IsEventsRun true l.initial.at (watched_events l.below l.initial.at (events_chosen l.count l.initial.at)) n (g.O.Sink.held l.initial.out) now r;
  left : l.did + length (events_chosen (l.count - l.did) l.at) ≡ length (events_chosen l.count l.initial.at);
  started : is_some l.at.world ≡ true;
  lines : l.at.lines ≡ l.initial.at.lines;
  faults : g.O.Sink.faults l.out ≡ g.O.Sink.faults l.initial.out;
  within : l.did ≤ l.count;
  steps : l.at.steps ≤ l.initial.at.steps + l.did;
}

abbrev pub decreases-events : goal.decreases-events
decreases-events g l = l.count - l.did
