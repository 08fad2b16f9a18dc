use Rattle.std.proofs.Common.{◌≡◌, length}
use Rattle.mesh_world.specs.Parts.{AreOpened}
use Rattle.mesh_world.proofs.world.opening_nodes.Given as goal

abbrev pub invariant-loop-i : goal.invariant-loop-i
invariant-loop-i l = record { count : length l.nodes.items ≡ l.i; opened : AreOpened l.variant l.mesh 0 l.nodes.items }
