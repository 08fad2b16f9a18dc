-- What is written of packets' meanings are the packets again.
use Rattle.std.proofs.Common.{◌≡◌, ℕ, List, [], ◌∷◌, map, refl, sym, ap}
use Rattle.std.specs.List.{AllByRecursion}
use Rattle.mesh_base.specs.declared.events.Item as items
use Rattle.mesh_base.specs.declared.events.Item.TheVariants as item
use Rattle.mesh_base.specs.declared.events.Flying.{Flying}
use Rattle.mesh_base.specs.Meshes.{Nodes}
use Rattle.aodv_meaning.specs.Meaning.{meaning}
use Rattle.aodv_meaning.specs.Effects.{item_in}
use Rattle.aodv_node.specs.Seen.{NodeSeen}
use Rattle.mesh_model.specs.Worlds.{Node}
use Rattle.mesh_meaning.specs.Packets.{packet_of, IsWritten, IsWrittenItem, IsWrittenCopy, copy_in}
use Rattle.mesh_checkpoint.specs.Points.{item_of, node_of, copy_of}
use Rattle.mesh_checkpoint.specs.Seen.{listed_node}

packet_again : (mesh : Nodes) (bytes : List ℕ) → IsWritten mesh bytes → packet_of mesh (meaning mesh bytes) ≡ bytes
unfolding packet_of
packet_again mesh bytes is = sym is.written

item_again : (mesh : Nodes) (i : items.Item) → IsWrittenItem mesh i → item_of mesh (item_in mesh i) ≡ i
item_again mesh (item.New dest body) is = refl
item_again mesh (item.Heard from bytes) is = ap (λ (b : List ℕ). item.Heard from b) (packet_again mesh bytes is)

items_again : (mesh : Nodes) (is : List items.Item) → AllByRecursion (IsWrittenItem mesh) is → map (item_of mesh) (map (item_in mesh) is) ≡ is
items_again mesh [] all = refl
items_again mesh (i ∷ is) all = rw (item_again mesh i all.0, items_again mesh is all.1) refl

-- a node with what its packets mean
abbrev pub node_meant : Nodes → NodeSeen → Node
node_meant mesh n = record { core = n.core; queue = map (item_in mesh) n.items }

pub node_again : (mesh : Nodes) (n : NodeSeen) → AllByRecursion (IsWrittenItem mesh) n.items → node_of mesh (node_meant mesh n) ≡ listed_node n
node_again mesh n all = ap (λ (is : List items.Item). record (listed_node n) { inbox = is }) (items_again mesh n.items all)

pub copies_again : (mesh : Nodes) (cs : List Flying) → AllByRecursion (IsWrittenCopy mesh) cs → map (copy_of mesh) (map (copy_in mesh) cs) ≡ cs
copies_again mesh [] all = refl
copies_again mesh (c ∷ cs) all = rw (packet_again mesh c.bytes all.0, copies_again mesh cs all.1) refl
