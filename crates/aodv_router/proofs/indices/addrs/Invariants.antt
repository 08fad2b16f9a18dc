use Rattle.std.proofs.Common.{◌≡◌, ◌≤◌, length}
use Rattle.std.specs.FinSet as sets
use Rattle.aodv_router.specs.Stations.{addrs_below}
use Rattle.aodv_router.proofs.indices.addrs.Given as goal

-- the addresses of the members so far, no more than nodes so far
abbrev pub invariant-loop-i : goal.invariant-loop-i
invariant-loop-i l = (l.addrs.items ≡ addrs_below l.mesh (λ k. sets.contains l.set k) l.i) × (length l.addrs.items ≤ l.i)
