use Rattle.std.proofs.Common.{◌≡◌, take}
use Rattle.mesh_world.specs.Counted.{queued_in}
use Rattle.mesh_world.proofs.totals.count_queued.Given as goal

abbrev pub invariant-loop-k : goal.invariant-loop-k
invariant-loop-k l = l.count ≡ queued_in (take l.k l.inbox.items)
