use Rattle.std.proofs.Common.{◌≡◌, drop}
use Rattle.std.specs.FinSet as sets
use Rattle.aodv_router.specs.Stations.{indices_in}
use Rattle.aodv_router.proofs.indices.indices_of.Given as goal

-- the nodes of the addresses that are left join the set
abbrev pub invariant-loop-a : goal.invariant-loop-a
invariant-loop-a l = indices_in l.mesh l.set (drop l.a-index l.addrs) ≡ indices_in l.mesh sets.empty l.addrs
