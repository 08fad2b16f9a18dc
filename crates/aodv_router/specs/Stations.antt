-- What is seen of a router with its mesh.
use Rattle.std.specs.Prelude.{◌≡◌, ℕ, zero, suc, Bool, if◌then◌else◌, Option, Some, None, List, [], ◌∷◌, ◌++◌, length, refl}
use Rattle.std.specs.Coded.{Coded, code_by, coded×, coded_ℕ, coded_list}
use Rattle.std.specs.FinSet as sets
use Rattle.mesh_base.specs.Meshes.{Nodes, addr_at, index_of}
use Rattle.mesh_base.specs.Members.{NodeIds}
use Rattle.aodv_node.specs.Seen.{NodeSeen, node_code}

-- the nodes of the mesh, each an address and a first number, and the router's own node
pub record Station : Type 0 where
  pub nodes : Nodes
  pub node : NodeSeen

-- the node is one of a mesh of this size
abbrev pub IsStation : Station → Type 0
IsStation s = (s.node).size ≡ length s.nodes

-- ---- addresses that are given, as nodes

-- the node of an address joins the set, if the mesh has it
abbrev pub with_index : Option ℕ → NodeIds → NodeIds
with_index (Some i) set = sets.insert set i
with_index None set = set

-- the nodes of those of these addresses that the mesh has join the set
unfoldable pub indices_in : Nodes → NodeIds → List ℕ → NodeIds
indices_in nodes set [] = set
indices_in nodes set (a ∷ rest) = indices_in nodes (with_index (index_of nodes a) set) rest

-- the nodes in range of a router when these addresses are near: addresses that the mesh doesn't
-- have are skipped
abbrev pub range_of : Station → List ℕ → NodeIds
range_of s near = indices_in s.nodes sets.empty near

-- ---- nodes, as addresses

-- the addresses of the nodes below n that pass the test, in rising order
unfoldable pub addrs_below : Nodes → (ℕ → Bool) → ℕ → List ℕ
addrs_below nodes passes zero = []
addrs_below nodes passes (suc n) =
    if passes n then addrs_below nodes passes n ++ addr_at nodes n ∷ []
    else addrs_below nodes passes n

-- the addresses of all nodes that pass the test
abbrev pub addrs_where : Nodes → (ℕ → Bool) → List ℕ
addrs_where nodes passes = addrs_below nodes passes (length nodes)

-- the addresses of the members of a set
abbrev pub addrs_of : Nodes → NodeIds → List ℕ
addrs_of nodes set = addrs_where nodes (λ i. sets.contains set i)

-- ---- a code, by which proofs tell such values apart

abbrev pub station_code : Coded Station
station_code =
    code_by (List (ℕ × ℕ) × NodeSeen) (coded× (coded_list (coded× coded_ℕ coded_ℕ)) node_code)
    (λ s. (s.nodes, s.node)) (λ p. record { nodes = p.0; node = p.1 }) (λ _. refl)
