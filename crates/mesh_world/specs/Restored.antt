-- A world of given parts: which parts are those of a world, and which is the first that isn't in
-- order.
use Rattle.std.specs.Prelude.{◌≡◌, ◌^◌, ℕ, List, Some, length, slice_get}
use Rattle.mesh_base.specs.Meshes.{Nodes}
use Rattle.mesh_base.specs.declared.events.Flying.{Flying}
use Rattle.mesh_base.specs.declared.events.Variant.{Variant}
use Rattle.aodv_node.specs.Seen.{NodeSeen}
use Rattle.mesh_sound.specs.declared.packets.Claim.TheVariants as claims
use Rattle.mesh_sound.specs.Packets.{InEachPacket}
use Rattle.mesh_sound.specs.Claims.{Holds}
use Rattle.mesh_sound.specs.Edges.{AreBacked, IsFirstEdge}
use Rattle.mesh_world.specs.declared.restored.Part.{Part}
use Rattle.mesh_world.specs.declared.restored.Part.TheVariants as parts

-- the most steps that a world may begin with
abbrev pub most_steps_at_first : ℕ
most_steps_at_first = 2 ^ 45

-- node x of the mesh, of this variant
pub record IsNodeOf (mesh : Nodes) (v : Variant) (x : ℕ) (n : NodeSeen) : Type 0 where
  pub named : (n.core).ip ≡ x
  pub variant : (n.core).variant ≡ v
  pub size : n.size ≡ length mesh

-- the nodes of the mesh, in order, all of this variant
pub record AreNodesOf (mesh : Nodes) (v : Variant) (nodes : List NodeSeen) : Type 0 where
  pub count : length nodes ≡ length mesh
  pub each : (x : ℕ) (n : NodeSeen) → slice_get nodes x ≡ Some n → IsNodeOf mesh v x n

-- each packet that waits or flies is written of a message of the mesh
abbrev pub AreWritten : Nodes → List NodeSeen → List Flying → Type 0
AreWritten mesh nodes flying = InEachPacket (Holds claims.Written mesh nodes) nodes flying

-- each request among them is honest
abbrev pub AreRequestsHonest : Nodes → List NodeSeen → List Flying → Type 0
AreRequestsHonest mesh nodes flying = InEachPacket (Holds claims.Request mesh nodes) nodes flying

-- each reply among them is honest
abbrev pub AreRepliesHonest : Nodes → List NodeSeen → List Flying → Type 0
AreRepliesHonest mesh nodes flying = InEachPacket (Holds claims.Reply mesh nodes) nodes flying

-- the nodes and the copies in flight are those of a world
pub record AreSoundParts (mesh : Nodes) (nodes : List NodeSeen) (flying : List Flying)
    : Type 0 where
  pub written : AreWritten mesh nodes flying
  pub requests : AreRequestsHonest mesh nodes flying
  pub replies : AreRepliesHonest mesh nodes flying
  pub backed : AreBacked nodes

-- the first part that isn't in order: an item or a copy, a request, a reply, or the entry of a
-- node. It is never a node by itself, since every node is in order
abbrev pub IsFirstPart : Nodes → List NodeSeen → List Flying → Part → Type 0
IsFirstPart mesh nodes flying (parts.Node x) = ⊥
IsFirstPart mesh nodes flying parts.Item = ¬ (AreWritten mesh nodes flying)
IsFirstPart mesh nodes flying parts.Request =
    AreWritten mesh nodes flying × ¬ (AreRequestsHonest mesh nodes flying)
IsFirstPart mesh nodes flying parts.Reply =
    AreWritten mesh nodes flying × AreRequestsHonest mesh nodes flying
    × ¬ (AreRepliesHonest mesh nodes flying)
IsFirstPart mesh nodes flying (parts.Edge x d) =
    AreWritten mesh nodes flying × AreRequestsHonest mesh nodes flying
    × AreRepliesHonest mesh nodes flying × IsFirstEdge nodes x d
