-- The entries of nodes, and the next hops that back them.
use Rattle.std.specs.Prelude.{◌≡◌, ◌<◌, ◌⊎◌, ℕ, List, IfSome}
use Rattle.std.specs.FinMap as maps
use Rattle.aodv_node.specs.Seen.{NodeSeen}
use Rattle.mesh_model.specs.Invariants.{IsBacked}
use Rattle.mesh_sound.specs.Claims.{table}

-- the entry of node x for d, if there is one, is backed by its next hop
abbrev pub IsBackedAt : List NodeSeen → ℕ → ℕ → Type 0
IsBackedAt nodes x d = IfSome (maps.get (table nodes x) d) (IsBacked (table nodes) d)

-- every entry of these nodes is backed
abbrev pub AreBacked : List NodeSeen → Type 0
AreBacked nodes = (x d : ℕ) → IsBackedAt nodes x d

-- node y and destination q come before x and d: by node, and then by destination
abbrev pub IsBefore : ℕ → ℕ → ℕ → ℕ → Type 0
IsBefore y q x d = (y < x) ⊎ ((y ≡ x) × (q < d))

-- the entry of node x for d isn't backed, and each before it is
pub record IsFirstEdge (nodes : List NodeSeen) (x d : ℕ) : Type 0 where
  pub fails : ¬ (IsBackedAt nodes x d)
  pub first : (y q : ℕ) → IsBefore y q x d → IsBackedAt nodes y q
