use Rattle.mesh_world.proofs.Counts.{IsTallied}
use Rattle.mesh_world.proofs.totals.count_data.Given as goal

abbrev pub invariant-loop-node : goal.invariant-loop-node
invariant-loop-node l = IsTallied l.nodes l.node-index l.waiting l.queued
