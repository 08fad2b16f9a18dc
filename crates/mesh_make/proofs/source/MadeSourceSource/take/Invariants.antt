use Rattle.std.proofs.Common.{length, ◌-◌, ◌≡◌, ◌≤◌, ◌++◌, take, drop}
use Rattle.mesh_make.proofs.source.MadeSourceSource.take.Given as goal

abbrev pub invariant-loop-given : goal.invariant-loop-given
invariant-loop-given l = record {
  within : l.given ≤ length l.fn.self;
  room : l.given ≤ length l.fn.buf;
  left : l.self ≡ drop l.given l.fn.self;
  buffer : l.buf ≡ take l.given l.fn.self ++ drop l.given l.fn.buf;
}

abbrev pub decreases-loop-given : goal.decreases-loop-given
decreases-loop-given l = length l.initial.buf - l.given
