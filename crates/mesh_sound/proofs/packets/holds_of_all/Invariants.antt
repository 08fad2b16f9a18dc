use Rattle.std.proofs.Common.{drop}
use Rattle.std.specs.List.{AllByRecursion}
use Rattle.mesh_sound.specs.Packets.{InItem}
use Rattle.mesh_sound.specs.Claims.{Holds}
use Rattle.mesh_sound.proofs.Indices.{IsEnough}
use Rattle.mesh_sound.proofs.packets.holds_of_all.Given as goal

abbrev pub invariant-loop-node : goal.invariant-loop-node
invariant-loop-node l = IsEnough (λ n. AllByRecursion (InItem (Holds l.claim l.mesh l.nodes)) n.items) l.nodes (drop l.node-index l.nodes)
