use Rattle.mesh_sound.proofs.Rising.{IsLeft}
use Rattle.mesh_sound.proofs.written.is_rising.Given as goal

abbrev pub invariant-loop-k : goal.invariant-loop-k
invariant-loop-k l = IsLeft l.m l.k l.above
