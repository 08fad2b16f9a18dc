use Rattle.std.proofs.Common.{drop}
use Rattle.mesh_sound.specs.Packets.{InItem}
use Rattle.mesh_sound.specs.Claims.{Holds}
use Rattle.mesh_sound.proofs.Indices.{IsEnough}
use Rattle.mesh_sound.proofs.packets.holds_of_inbox.Given as goal

abbrev pub invariant-loop-k : goal.invariant-loop-k
invariant-loop-k l = IsEnough (InItem (Holds l.claim l.mesh l.nodes)) l.node.items (drop l.k l.node.items)
