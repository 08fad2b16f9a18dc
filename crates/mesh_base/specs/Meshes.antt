-- Part of what the headline says.
-- A mesh: distinct addresses in ascending order, each with its node's first sequence number. The
-- i-th is node i.
use Rattle.std.specs.Prelude.{◌<◌, ◌≤◌, ◌^◌, ◌==◌, ℕ, List, length, position, get_or, Option, unwrap_or, insert, nat_lt}
use Rattle.std.specs.List.{position_or_len}
use Rattle.mesh_base.specs.declared.limits.TheConstants.{MOST_NODES}

abbrev pub Nodes : Type 0
Nodes = List (ℕ × ℕ)

-- the address of node i
abbrev pub addr_at : Nodes → ℕ → ℕ
addr_at mesh i = (get_or mesh i (0, 0)).0

-- the first sequence number of node i
abbrev pub first_at : Nodes → ℕ → ℕ
first_at mesh i = (get_or mesh i (0, 0)).1

-- the node of an address
unfoldable pub index_of : Nodes → ℕ → Option ℕ
index_of mesh a = position (λ p. p.0 == a) mesh

-- the node of an address that is in the mesh
unfoldable pub index_in : Nodes → ℕ → ℕ
index_in mesh a = unwrap_or (index_of mesh a) 0

-- one more node, before the first of a greater address
unfoldable pub with_node : Nodes → ℕ → ℕ → Nodes
with_node mesh a first = insert mesh (position_or_len (λ p. nat_lt a p.0) mesh) (a, first)

-- addresses ascend; there are at most 200 nodes; first numbers are at least 1; and both are numbers
-- of 32 bits
pub record IsMesh (mesh : Nodes) : Type 0 where
  pub rising : (i j : ℕ) → i < j → j < length mesh → addr_at mesh i < addr_at mesh j
  pub few : length mesh ≤ MOST_NODES
  pub positive : (i : ℕ) → i < length mesh → 1 ≤ first_at mesh i
  pub addresses : (i : ℕ) → i < length mesh → addr_at mesh i < 2 ^ 32
  pub firsts : (i : ℕ) → i < length mesh → first_at mesh i < 2 ^ 32
