-- The world of given nodes and a radio, and how the code keeps one.
use Rattle.std.specs.Prelude.{◌≡◌, ◌≤◌, ◌+◌, ◌*◌, ℕ, List, length, map, slice_get, is_some}
use Rattle.std.specs.List.{AllByRecursion}
use Rattle.std.specs.FinSet as sets
use Rattle.mesh_base.specs.declared.limits.TheConstants.{MOST_NODES}
use Rattle.mesh_base.specs.Members.{NodeIds}
use Rattle.mesh_base.specs.Meshes.{Nodes}
use Rattle.aodv_node.specs.Seen.{NodeSeen, IsSoundNode}
use Rattle.mesh_radio.specs.Radios.{RadioState, most_copies_at_first}
use Rattle.mesh_model.specs.Worlds.{World}
use Rattle.mesh_model.specs.Choices.{may_turn_in, first_send_in, first_ask_in}
use Rattle.mesh_meaning.specs.Packets.{IsWrittenItem, IsWrittenCopy, copy_in}
use Rattle.mesh_world.specs.Seen.{WorldSeen, IsSoundWorld, node_in}

-- the world of these nodes and this radio
unfoldable pub world_in : Nodes → List NodeSeen → RadioState → World
world_in mesh nodes radio = record {
  nodes = map (node_in mesh) nodes;
  links = radio.links;
  ever = radio.ever;
  flying = map (copy_in mesh) radio.flying;
  next_copy = radio.next_copy;
}

abbrev pub seen_of : Nodes → List NodeSeen → RadioState → ℕ → WorldSeen
seen_of mesh nodes radio steps = record {
  mesh = mesh;
  world = world_in mesh nodes radio;
  steps = steps;
}

-- a sound node of the mesh, each of whose packets is written of its message
pub record IsKeptNode (mesh : Nodes) (n : NodeSeen) : Type 0 where
  pub items : AllByRecursion (IsWrittenItem mesh) n.items
  pub size : n.size ≡ length mesh
  pub sound : IsSoundNode n

-- the nodes that may take a turn, send, and ask: the sets that a world keeps, so that the next
-- event is chosen without a search
pub record Ready : Type 0 where
  pub turns : NodeIds
  pub sends : NodeIds
  pub asks : NodeIds

-- the sets say what these nodes may do
pub record IsReadyFor (mesh : Nodes) (nodes : List NodeSeen) (ready : Ready) : Type 0 where
  pub turns : (x : ℕ)
      → sets.contains ready.turns x ≡ may_turn_in (slice_get (map (node_in mesh) nodes) x)
  pub sends : (x : ℕ)
      → sets.contains ready.sends x
      ≡ is_some (first_send_in (length mesh) (slice_get (map (node_in mesh) nodes) x))
  pub asks : (x : ℕ)
      → sets.contains ready.asks x
      ≡ is_some (first_ask_in (length mesh) (slice_get (map (node_in mesh) nodes) x))

-- what the code of a world keeps
pub record IsKept (mesh : Nodes) (nodes : List NodeSeen) (radio : RadioState) (ready : Ready)
    (steps : ℕ) : Type 0 where
  pub sound : IsSoundWorld (seen_of mesh nodes radio steps)
  pub each : AllByRecursion (IsKeptNode mesh) nodes
  pub flying : AllByRecursion (IsWrittenCopy mesh) radio.flying
  pub size : radio.size ≡ length mesh
  -- so that the ids of copies don't run out
  pub numbers : radio.next_copy ≤ most_copies_at_first + MOST_NODES * steps
  pub sets : IsReadyFor mesh nodes ready
