use Rattle.std.proofs.Common.{◌≡◌, ◌+◌, ◌*◌}
use Rattle.mesh_base.specs.Members.{members, rank}
use Rattle.mesh_base.proofs.set.NodeSet.nth.Given as goal

abbrev pub invariant-loop-at : goal.invariant-loop-at
invariant-loop-at l = rank (members l.words) (64 * l.at) + l.rest ≡ l.k
