-- The nodes of a checkpoint, and which of them are in order.
use Rattle.std.specs.Prelude.{◌≡◌, ◌<◌, ◌+◌, ℕ, Bool, true, false, List, [], ◌∷◌, map, Option, Some, slice_get, ⊤}
use Rattle.std.specs.List.{AllByRecursion}
use Rattle.mesh_base.specs.declared.events.Variant.{Variant}
use Rattle.aodv_node.specs.Seen.{NodeSeen}
use Rattle.aodv_node.specs.Restored.{HasSoundCore, HasItemsAt}
use Rattle.mesh_checkpoint.specs.Checkpoint.{Node}
use Rattle.mesh_checkpoint.specs.Seen.{listed_node}
use Rattle.mesh_restore.specs.Nodes.{IsNodeAt, ArePrecursorsBelow}

-- P holds for each node with its index; the index of the first is x
abbrev pub AllFrom : (ℕ → NodeSeen → Type 0) → ℕ → List NodeSeen → Type 0
AllFrom P x [] = ⊤
AllFrom P x (n ∷ ns) = P x n × AllFrom P (x + 1) ns

-- node x is as it should be, except for its items
abbrev pub IsSoundNodeAt : Variant → ℕ → ℕ → NodeSeen → Type 0
IsSoundNodeAt variant size x n = IsNodeAt variant x size n × HasSoundCore n

-- these are the nodes that are listed, and the state of each is in order
pub record AreListed (variant : Variant) (size : ℕ) (lists : List Node) (nodes : List NodeSeen)
    : Type 0 where
  pub lists_are : lists ≡ map listed_node nodes
  pub each : AllFrom (IsSoundNodeAt variant size) 0 nodes

-- n is node x as it is listed. Its precursors are nodes of the mesh, as others couldn't be listed
pub record IsListedAt (variant : Variant) (size : ℕ) (lists : List Node) (x : ℕ) (n : NodeSeen)
    : Type 0 where
  pub mine : IsNodeAt variant x size n
  pub below : ArePrecursorsBelow size (n.core).rt
  pub listed_is : slice_get lists x ≡ Some (listed_node n)

-- node x is listed, and its state is in order
abbrev pub IsSoundAt : Variant → ℕ → List Node → ℕ → Type 0
IsSoundAt variant size lists x =
    (n : NodeSeen) × IsListedAt variant size lists x n × HasSoundCore n

-- node x is listed, and its state isn't in order
abbrev pub IsUnsoundAt : Variant → ℕ → List Node → ℕ → Type 0
IsUnsoundAt variant size lists x =
    (n : NodeSeen) × IsListedAt variant size lists x n × ¬ (HasSoundCore n)

-- node x is the least whose state isn't in order
abbrev pub IsLeastUnsound : Variant → ℕ → List Node → ℕ → Type 0
IsLeastUnsound variant size lists x =
    IsUnsoundAt variant size lists x
    × ((y : ℕ) → y < x → IsSoundAt variant size lists y)

-- the nodes were read, and these bytes are left. If each item is in place, all of them were kept
pub record AreNodesRead (variant : Variant) (size : ℕ) (read : Option (List Node × List ℕ))
    (nodes : List NodeSeen) (in_place : Bool) (rest : List ℕ) : Type 0 where
  pub lists : List Node
  pub parts : List NodeSeen
  pub read_is : read ≡ Some (lists, rest)
  pub listed_are : AreListed variant size lists parts
  pub kept : in_place ≡ true → (nodes ≡ parts) × AllByRecursion HasItemsAt parts
  pub misplaced : in_place ≡ false → ¬ (AllByRecursion HasItemsAt parts)
