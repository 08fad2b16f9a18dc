-- A prefix of the text was taken, and no fault came.
use Rattle.std.proofs.Common.{length, ◌-◌, ◌≡◌, ◌≤◌, take}
use Rattle.std.specs.Io.KnownBytes.{Appends}
use Rattle.mesh_io.proofs.sink.Sink.put_short.Given as goal

abbrev pub invariant-loop-taken : goal.invariant-loop-taken
invariant-loop-taken g l = record {
  within : l.taken ≤ length l.bytes;
  text : Appends (g.Self.Sink.held l.initial.self) (g.Self.Sink.held l.self) (take l.taken l.bytes);
  none : g.Self.Sink.faults l.self ≡ g.Self.Sink.faults l.initial.self;
}

abbrev pub decreases-loop-taken : goal.decreases-loop-taken
decreases-loop-taken g l = length l.bytes - l.taken
