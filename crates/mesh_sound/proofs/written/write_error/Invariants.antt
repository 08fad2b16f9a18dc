use Rattle.std.proofs.Common.{◌≡◌, take}
use Rattle.mesh_sound.proofs.written.write_error.Given as goal

abbrev pub invariant-loop-k : goal.invariant-loop-k
invariant-loop-k l = l.pairs.items ≡ take l.k l.m
