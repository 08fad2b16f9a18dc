use Rattle.std.proofs.Common.{◌≡◌, length}
use Rattle.mesh_io.specs.Buffering.{HandsOn}
use Rattle.mesh_make.specs.Made.{made_schedule}
use Rattle.mesh_make.specs.Making.{still_to_come, IsMaking}
use Rattle.mesh_make.proofs.writing.make.Given as goal

abbrev pub invariant-loop-maker : goal.invariant-loop-maker
invariant-loop-maker g l = record {
  making : IsMaking l.maker;
  text : HandsOn (g.O.Sink.held l.fn.out) (g.O.Sink.held l.out) (made_schedule l.seed l.nodes l.steps) (still_to_come l.maker);
  none : g.O.Sink.faults l.out ≡ g.O.Sink.faults l.fn.out;
}

abbrev pub decreases-loop-maker : goal.decreases-loop-maker
decreases-loop-maker g l = length (still_to_come l.maker)
