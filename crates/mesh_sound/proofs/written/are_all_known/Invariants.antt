use Rattle.std.proofs.Common.{◌≡◌, drop}
use Rattle.aodv_meaning.specs.Meaning.{strange_pair}
use Rattle.mesh_sound.proofs.written.are_all_known.Given as goal

abbrev pub invariant-loop-k : goal.invariant-loop-k
invariant-loop-k l = strange_pair l.mesh (drop l.k l.m) ≡ strange_pair l.mesh l.m
