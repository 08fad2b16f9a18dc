-- From next hop to next hop along the nodes of a world.
use Rattle.std.proofs.Common.{◌≡◌, ◌≢◌, ℕ, ◌+◌, ◌<◌, ◌≤◌, List, [], length, Some, None, ap, sym, ◌∙◌, subst, arith}
use Rattle.std.specs.Prelude.{slice_get, option_map}
use Rattle.std.specs.FinMap as maps
use Rattle.std.proofs.lemmas.Option.{slice_get-map}
use Rattle.std.proofs.lemmas.List.{length-map}
use Rattle.mesh_base.specs.Meshes.{Nodes}
use Rattle.aodv_node.specs.Seen.{NodeSeen}
use Rattle.mesh_radio.specs.Radios.{RadioState}
use Rattle.mesh_model.specs.Worlds.{World}
use Rattle.mesh_model.specs.Walks.{rt_in}
use Rattle.mesh_model.specs.Routes.{Arrived, Stuck, next_in, next_hop}
use Rattle.mesh_model.specs.Invariants.{IsInvariant}
use Rattle.mesh_model.proofs.RouteEnds.{IsOn, on_start, on_short, on_below, Ends, on_arrived, on_stuck, on_next}
use Rattle.mesh_world.specs.Seen.{node_in}
use Rattle.mesh_world.specs.Kept.{world_in}
use Rattle.mesh_world.specs.Ends.{AreOfWorld}

-- where the nodes are gone along: `at` was come to, in so many hops, in any world of them
pub record IsAt (nodes : List NodeSeen) (from to at hops : ℕ) : Type 0 where
  pub on : (mesh : Nodes) (radio : RadioState) → IsInvariant (world_in mesh nodes radio) → IsOn (world_in mesh nodes radio) from to at hops
  pub within : at < length nodes
  pub short : hops < length nodes

module _ (nodes : List NodeSeen) (from to : ℕ) (l : from < length nodes) where
  inside : (mesh : Nodes) (radio : RadioState) → from < length (world_in mesh nodes radio).nodes
  unfolding world_in
  inside mesh radio = subst (λ k. from < k) (sym (length-map nodes (node_in mesh))) l

  count : (mesh : Nodes) (radio : RadioState) → length (world_in mesh nodes radio).nodes ≡ length nodes
  unfolding world_in
  count mesh radio = length-map nodes (node_in mesh)

  pub at_start : IsAt nodes from to from 0
  at_start = record { on = λ mesh radio inv. on_start (world_in mesh nodes radio) from to; within = l; short = omega arith }

  -- the next hop that the node's table has is the world's
  hop_in : (mesh : Nodes) (radio : RadioState) (at : ℕ) (n : NodeSeen) → slice_get nodes at ≡ Some n → next_hop (world_in mesh nodes radio) at to ≡ next_in (maps.get (n.core).rt to)
  unfolding world_in
  hop_in mesh radio at n there = ap (λ o. next_in (maps.get (rt_in o) to)) (slice_get-map (node_in mesh) nodes at ∙ ap (option_map (node_in mesh)) there)

  pub at_next : AreOfWorld nodes → (at hops next : ℕ) (n : NodeSeen) → at ≢ to → slice_get nodes at ≡ Some n → next_in (maps.get (n.core).rt to) ≡ Some next → IsAt nodes from to at hops → IsAt nodes from to next (hops + 1)
  at_next world at hops next n apart there is now =
      let on : (mesh : Nodes) (radio : RadioState) → IsInvariant (world_in mesh nodes radio) → IsOn (world_in mesh nodes radio) from to next (hops + 1) =
      λ mesh radio inv. on_next (world_in mesh nodes radio) from to at next hops inv (inside mesh radio) apart (hop_in mesh radio at n there ∙ is) (now.on mesh radio inv) in
      let w : World = world_in world.mesh nodes world.radio in
      let same : length w.nodes ≡ length nodes = count world.mesh world.radio in
      let short : (hops + 1) + 1 ≤ length w.nodes = on_short w from to next (hops + 1) world.invariant (inside world.mesh world.radio) (on world.mesh world.radio world.invariant) in
      let below : next < length w.nodes = on_below w from to next (hops + 1) world.invariant (inside world.mesh world.radio) (on world.mesh world.radio world.invariant) in
      record { on = on; within = omega arith; short = omega arith }

  pub ends_there : (at hops : ℕ) → at ≡ to → IsAt nodes from to at hops → (mesh : Nodes) (radio : RadioState) → IsInvariant (world_in mesh nodes radio) → Ends (world_in mesh nodes radio) from to (Arrived hops)
  ends_there at hops same now mesh radio inv =
      on_arrived (world_in mesh nodes radio) from to hops inv (inside mesh radio) (subst (λ k. IsOn (world_in mesh nodes radio) from to k hops) same (now.on mesh radio inv))

  pub ends_short : (at hops : ℕ) (n : NodeSeen) → at ≢ to → slice_get nodes at ≡ Some n → next_in (maps.get (n.core).rt to) ≡ None → IsAt nodes from to at hops → (mesh : Nodes) (radio : RadioState) → IsInvariant (world_in mesh nodes radio)
      → Ends (world_in mesh nodes radio) from to (Stuck at hops)
  ends_short at hops n apart there none now mesh radio inv =
      on_stuck (world_in mesh nodes radio) from to at hops inv (inside mesh radio) apart (hop_in mesh radio at n there ∙ none) (now.on mesh radio inv)
