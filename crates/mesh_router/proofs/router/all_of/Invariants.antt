use Rattle.std.proofs.Common.{◌≡◌}
use Rattle.mesh_router.specs.Routers.{all_below}
use Rattle.mesh_router.proofs.router.all_of.Given as goal

abbrev pub invariant-loop-x : goal.invariant-loop-x
invariant-loop-x l = l.all ≡ all_below l.x
