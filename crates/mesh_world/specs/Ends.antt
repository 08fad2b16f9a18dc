-- The definitions' end of a route for the program's end.
use Rattle.std.specs.Prelude.{◌≡◌, ◌<◌, ℕ, List, length}
use Rattle.std.specs.List.{AllByRecursion}
use Rattle.mesh_base.specs.Meshes.{Nodes}
use Rattle.aodv_node.specs.Seen.{NodeSeen}
use Rattle.mesh_radio.specs.Radios.{RadioState}
use Rattle.mesh_model.specs.Worlds.{World}
use Rattle.mesh_model.specs.Routes as model
use Rattle.mesh_model.specs.Invariants.{IsInvariant}
use Rattle.mesh_world.specs.declared.route.End.{End}
use Rattle.mesh_world.specs.declared.route.End.TheVariants as ends
use Rattle.mesh_world.specs.Kept.{world_in}

abbrev pub end_in : End → model.End
end_in (ends.Arrived hops) = model.Arrived hops
end_in (ends.Stuck at hops) = model.Stuck at hops

-- an end in a mesh of this size: a route has fewer hops than there are nodes, and stops at one of
-- them
abbrev pub IsEndIn : ℕ → End → Type 0
IsEndIn size (ends.Arrived hops) = hops < size
IsEndIn size (ends.Stuck at hops) = (at < size) × (hops < size)

-- the nodes are those of a world that has the invariant
pub record AreOfWorld (nodes : List NodeSeen) : Type 0 where
  pub mesh : Nodes
  pub radio : RadioState
  pub invariant : IsInvariant (world_in mesh nodes radio)
  pub sizes : AllByRecursion (λ n. n.size ≡ length nodes) nodes

-- what holds of each world of these nodes that has the invariant
abbrev pub InEachWorld : List NodeSeen → (World → Type 0) → Type 0
InEachWorld nodes P =
    (mesh : Nodes) (radio : RadioState) → IsInvariant (world_in mesh nodes radio)
    → P (world_in mesh nodes radio)
