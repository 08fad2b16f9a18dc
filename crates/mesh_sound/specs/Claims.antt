-- What is claimed of packets: that they are written of messages of the mesh, and that requests and
-- replies are honest.
use Rattle.std.specs.Prelude.{◌≡◌, ℕ, List, Option, Some, None, length, slice_get, ⊤}
use Rattle.std.specs.List.{AllByRecursion}
use Rattle.std.specs.FinMap as maps
use Rattle.mesh_base.specs.Meshes.{Nodes}
use Rattle.aodv_model.specs.Tables.{Table}
use Rattle.aodv_model.specs.Cores.{Message, Rreq, Rrep}
use Rattle.aodv_meaning.specs.Meaning.{meaning}
use Rattle.aodv_node.specs.Seen.{NodeSeen}
use Rattle.mesh_model.specs.Invariants.{IsHonestRequest, IsHonestReply}
use Rattle.mesh_meaning.specs.Packets.{IsWritten}
use Rattle.mesh_sound.specs.declared.packets.Claim.{Claim}
use Rattle.mesh_sound.specs.declared.packets.Claim.TheVariants as claims

-- each node is one of a mesh of as many nodes as these
abbrev pub AreSized : List NodeSeen → Type 0
AreSized nodes = AllByRecursion (λ n. n.size ≡ length nodes) nodes

-- as many nodes as the mesh has, each one of a mesh of that size
pub record AreOf (mesh : Nodes) (nodes : List NodeSeen) : Type 0 where
  pub count : length nodes ≡ length mesh
  pub sizes : AreSized nodes

-- the table of a node, empty if there is none
abbrev pub table_in : Option NodeSeen → Table
table_in None = maps.empty
table_in (Some n) = (n.core).rt

-- the table of node x of these
abbrev pub table : List NodeSeen → ℕ → Table
table nodes x = table_in (slice_get nodes x)

-- ---- requests and replies

-- a message, if it is a request, is honest
abbrev pub IsHonestIfRequest : Table → ℕ → Message → Type 0
IsHonestIfRequest rt from (Rreq m) = IsHonestRequest rt from m
IsHonestIfRequest rt from others = ⊤

-- a message, if it is a reply, is honest
abbrev pub IsHonestIfReply : Table → ℕ → Message → Type 0
IsHonestIfReply rt from (Rrep m) = IsHonestReply rt from m
IsHonestIfReply rt from others = ⊤

-- ---- claims

-- the claim holds of a packet from this node
abbrev pub Holds : Claim → Nodes → List NodeSeen → ℕ → List ℕ → Type 0
Holds claims.Written mesh nodes from bytes = IsWritten mesh bytes
Holds claims.Request mesh nodes from bytes =
    IsHonestIfRequest (table nodes from) from (meaning mesh bytes)
Holds claims.Reply mesh nodes from bytes =
    IsHonestIfReply (table nodes from) from (meaning mesh bytes)

-- what has to be known of a packet before the claim is decided: requests and replies are read only
-- from written packets
abbrev pub IsReadable : Claim → Nodes → ℕ → List ℕ → Type 0
IsReadable claims.Written mesh from bytes = ⊤
IsReadable others mesh from bytes = IsWritten mesh bytes
