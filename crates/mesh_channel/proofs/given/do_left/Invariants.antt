-- Whatever is told of the events that are left, the same then is of all of them.
use Rattle.std.proofs.Common.{length}
use Rattle.mesh_channel.proofs.Doing.{LeftSoFar}
use Rattle.mesh_channel.proofs.given.do_left.Given as goal

abbrev pub invariant-left : goal.invariant-left
invariant-left g l = LeftSoFar l.initial.at l.at (g.O.Sink.held l.initial.out) (g.O.Sink.held l.out) (g.O.Sink.faults l.initial.out) (g.O.Sink.faults l.out)

abbrev pub decreases-left : goal.decreases-left
decreases-left g l = length l.at.channel.left
