-- A prefix of the piece is written, and no fault came.
use Rattle.std.proofs.Common.{length, ◌-◌, ◌≡◌, ◌≤◌, take}
use Rattle.std.specs.Io.KnownBytes.{Appends}
use Rattle.mesh_io.proofs.put.put_prefix.Given as goal

abbrev pub invariant-loop-written : goal.invariant-loop-written
invariant-loop-written g l = record {
  within : l.written ≤ length l.piece;
  text : Appends (g.O.Sink.held l.initial.out) (g.O.Sink.held l.out) (take l.written l.piece);
  none : g.O.Sink.faults l.out ≡ g.O.Sink.faults l.initial.out;
  empty : length l.piece ≡ 0 → l.out ≡ l.initial.out;
}

abbrev pub decreases-loop-written : goal.decreases-loop-written
decreases-loop-written g l = length l.piece - l.written
