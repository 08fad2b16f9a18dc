use Rattle.std.proofs.Common.{◌≡◌, drop}
use Rattle.aodv_meaning.specs.Meaning.{strange_pair}
use Rattle.aodv_node.proofs.meaning.find_strange_pair.Given as goal

abbrev pub invariant-loop-k : goal.invariant-loop-k
invariant-loop-k l = strange_pair l.mesh (drop l.k l.m) ≡ strange_pair l.mesh l.m
