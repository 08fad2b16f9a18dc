use Rattle.std.proofs.Common.{◌≡◌, [], drop}
use Rattle.aodv_router.specs.Meshes.{all_joined, AreNumbered}
use Rattle.aodv_router.proofs.mesh.mesh_of.Given as goal

-- what comes of the addresses that are left comes of all, and each node has its number
abbrev pub invariant-loop-a : goal.invariant-loop-a
invariant-loop-a l =
    (all_joined l.me l.first l.mesh (drop l.a-index l.addrs) ≡ all_joined l.me l.first [] l.addrs)
    × AreNumbered l.me l.first l.mesh
