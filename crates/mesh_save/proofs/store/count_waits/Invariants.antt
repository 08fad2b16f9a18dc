use Rattle.std.proofs.Common.{◌≡◌, ◌≤◌, length}
use Rattle.aodv_model.proofs.Keys.{below}
use Rattle.mesh_save.proofs.store.count_waits.Given as goal

abbrev pub invariant-loop-dest : goal.invariant-loop-dest
invariant-loop-dest l = (l.count ≡ length (below l.dest l.waiting.store)) × (l.count ≤ l.dest)
