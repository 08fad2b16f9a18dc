-- Whatever is told of the events that are left, the same then is of all of them.
use Rattle.std.proofs.Common.{◌-◌}
use Rattle.mesh_channel.proofs.Doing.{ChosenSoFar}
use Rattle.mesh_channel.proofs.chosen.do_events.Given as goal

abbrev pub invariant-events : goal.invariant-events
invariant-events g l = ChosenSoFar l.until l.most l.initial.at l.at l.did (g.O.Sink.held l.initial.out) (g.O.Sink.held l.out) (g.O.Sink.faults l.initial.out) (g.O.Sink.faults l.out)

abbrev pub decreases-events : goal.decreases-events
decreases-events g l = l.most - l.did
