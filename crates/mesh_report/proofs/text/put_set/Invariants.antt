-- The names of the members before the next one were put.
use Rattle.std.proofs.Common.{◌≡◌, ◌≤◌, ◌<◌, ◌-◌, length}
use Rattle.std.specs.Io.KnownBytes.{Appends}
use Rattle.mesh_model.specs.Worlds.{members_below}
use Rattle.mesh_text.specs.Effects.{names}
use Rattle.mesh_report.proofs.text.put_set.Given as goal

abbrev pub invariant-loop-node : goal.invariant-loop-node
invariant-loop-node g l = record {
  text : Appends (g.O.Sink.held l.fn.out) (g.O.Sink.held l.out) (names l.mesh (members_below l.start l.set));
  none : g.O.Sink.faults l.out ≡ g.O.Sink.faults l.fn.out;
  some : 0 < length (members_below l.start l.set);
  within : l.start ≤ length l.mesh;
}

abbrev pub decreases-loop-node : goal.decreases-loop-node
decreases-loop-node g l = length l.mesh - l.start
