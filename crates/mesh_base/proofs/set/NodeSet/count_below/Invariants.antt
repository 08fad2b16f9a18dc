use Rattle.std.proofs.Common.{◌≡◌, ◌≤◌, ◌*◌}
use Rattle.mesh_base.specs.Members.{members, rank}
use Rattle.mesh_base.proofs.set.NodeSet.count_below.Given as goal

abbrev pub invariant-loop-k : goal.invariant-loop-k
invariant-loop-k l = (l.count ≡ rank (members l.words) (64 * l.k)) × (l.count ≤ 64 * l.k)
