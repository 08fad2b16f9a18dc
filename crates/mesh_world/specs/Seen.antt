-- What is seen of a world, and what every world keeps.
use Rattle.std.specs.Prelude.{◌≡◌, ◌≢◌, ◌≤◌, ◌+◌, ◌^◌, ℕ, true, Some, length, map, refl}
use Rattle.std.specs.FinMap as maps
use Rattle.std.specs.Coded.{Coded, code_by, coded×, coded_ℕ, coded_list}
use Rattle.mesh_base.specs.Meshes.{Nodes, IsMesh}
use Rattle.mesh_base.specs.Bounds.{most_steps}
use Rattle.mesh_base.specs.declared.events.Variant.{Variant}
use Rattle.aodv_meaning.specs.Effects.{item_in}
use Rattle.aodv_node.specs.Seen.{NodeSeen}
use Rattle.mesh_model.specs.Worlds.{World, Node, start, first_numbers}
use Rattle.aodv_model.specs.declared.entry.Entry.{Entry}
use Rattle.aodv_model.specs.declared.entry.Flag.TheVariants.{Val}
use Rattle.aodv_model.specs.Quality.{is_better}
use Rattle.mesh_model.specs.Walks.{table, Edge, Cycle}
use Rattle.mesh_model.specs.Invariants.{IsInvariant}
use Rattle.mesh_model.specs.Accounts.{any, waiting, queued_data, in_flight}
use Rattle.mesh_model.specs.Codes.{world_code}

-- the mesh, the world of its nodes, and how many steps were taken
pub record WorldSeen : Type 0 where
  pub mesh : Nodes
  pub world : World
  pub steps : ℕ

-- the world before the first step, in which all nodes run this variant
abbrev pub opening : Variant → Nodes → WorldSeen
opening v mesh = record { mesh = mesh; world = start v (first_numbers mesh); steps = 0 }

-- a node, with what its packets mean
abbrev pub node_in : Nodes → NodeSeen → Node
node_in mesh n = record { core = n.core; queue = map (item_in mesh) n.items }

-- along each edge to a node that isn't the destination and has a valid entry for it too, that
-- node's entry is the better one
abbrev pub IsBetterAlongEdges : World → Type 0
IsBetterAlongEdges w =
    (d x y : ℕ) (edge : Edge w d x y) (e : Entry) → y ≢ d → maps.get (table w y) d ≡ Some e
    → e.flag ≡ Val
    → is_better e edge.entry ≡ true

-- the most data that a world may begin with
abbrev pub most_data_at_first : ℕ
most_data_at_first = 2 ^ 60

-- the data of a world, wherever they are
abbrev pub data_of : World → ℕ
data_of w = waiting any w + queued_data any w + in_flight any w

-- what every world of the program keeps: there is a node for each address of the mesh; the
-- invariant holds; so no destination has a cycle, and along edges between valid entries the next
-- one is the better, unless it is the destination's own; a step brings at most one datum; and there
-- were at most 2^48 steps
pub record IsSoundWorld (w : WorldSeen) : Type 0 where
  pub mesh : IsMesh w.mesh
  pub some : 1 ≤ length w.mesh
  pub count : length (w.world).nodes ≡ length w.mesh
  pub invariant : IsInvariant w.world
  pub acyclic : (d : ℕ) → ¬ (Cycle w.world d)
  pub better : IsBetterAlongEdges w.world
  pub few : data_of w.world ≤ most_data_at_first + w.steps
  pub steps : w.steps ≤ most_steps

-- a code, by which proofs tell such values apart
abbrev pub seen_code : Coded WorldSeen
seen_code =
    code_by (Nodes × (World × ℕ))
    (coded× (coded_list (coded× coded_ℕ coded_ℕ)) (coded× world_code coded_ℕ))
    (λ w. (w.mesh, (w.world, w.steps))) (λ p. record {
      mesh = p.0;
      world = p.1.0;
      steps = p.1.1;
    }) (λ _. refl)
