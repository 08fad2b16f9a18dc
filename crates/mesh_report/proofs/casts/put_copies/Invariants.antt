-- The lines for the receivers before the next one were put.
use Rattle.std.proofs.Common.{◌≡◌, ◌≤◌, ◌+◌, ◌-◌, length}
use Rattle.std.specs.Io.KnownBytes.{Appends}
use Rattle.mesh_model.specs.Worlds.{members_below}
use Rattle.mesh_report.specs.Packets.{copy_lines}
use Rattle.mesh_report.proofs.casts.put_copies.Given as goal

abbrev pub invariant-loop-to : goal.invariant-loop-to
invariant-loop-to g l = record {
  text : Appends (g.O.Sink.held l.fn.out) (g.O.Sink.held l.out) (copy_lines l.mesh l.air.first (members_below l.start l.air.to));
  none : g.O.Sink.faults l.out ≡ g.O.Sink.faults l.fn.out;
  id : l.id ≡ l.air.first + length (members_below l.start l.air.to);
  within : l.start ≤ length l.mesh;
}

abbrev pub decreases-loop-to : goal.decreases-loop-to
decreases-loop-to g l = length l.mesh - l.start
