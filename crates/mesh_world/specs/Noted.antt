-- How the kept sets follow what the nodes may do. No public contract cites this file.
use Rattle.std.specs.Prelude.{◌≡◌, ℕ, Bool, true, false, if◌then◌else◌, List, [], ◌∷◌, length, is_some, refl}
use Rattle.std.specs.Coded.{Coded, code_by, coded×, coded_ℕ}
use Rattle.std.specs.FinSet as sets
use Rattle.mesh_base.specs.Members.{NodeIds}
use Rattle.mesh_base.specs.Meshes.{Nodes}
use Rattle.mesh_base.specs.declared.events.Item.{Item}
use Rattle.aodv_model.specs.Handlers.{may_send, may_ask}
use Rattle.aodv_node.specs.Seen.{NodeSeen}
use Rattle.mesh_radio.specs.Radios.{RadioState}
use Rattle.mesh_model.specs.Worlds.{World}
use Rattle.mesh_model.specs.Choices.{least_from}
use Rattle.mesh_world.specs.Kept.{world_in, Ready, IsReadyFor}

-- a code, by which proofs tell such sets apart
abbrev pub ready_code : Coded Ready
ready_code =
    code_by (NodeIds × (NodeIds × NodeIds))
    (coded× (sets.code coded_ℕ) (coded× (sets.code coded_ℕ) (sets.code coded_ℕ)))
    (λ r. (r.turns, (r.sends, r.asks))) (λ p. record {
      turns = p.0;
      sends = p.1.0;
      asks = p.1.1;
    }) (λ _. refl)

-- no node may do anything
abbrev pub none_ready : Ready
none_ready = record { turns = sets.empty; sends = sets.empty; asks = sets.empty }

-- x joins the set, or leaves it
abbrev pub with_or_without : Bool → NodeIds → ℕ → NodeIds
with_or_without joins s x = if joins then sets.insert s x else sets.remove s x

-- an inbox isn't empty
abbrev pub has_items : List Item → Bool
has_items [] = false
has_items (item ∷ items) = true

-- a number below `size` passes the test
abbrev pub has_below : ℕ → (ℕ → Bool) → Bool
has_below size passes = is_some (least_from size 0 passes)

-- the sets once node x, of a mesh of this many nodes, has become n
unfoldable pub ready_with : Ready → ℕ → NodeSeen → ℕ → Ready
ready_with r x n nodes = record {
  turns = with_or_without (has_items n.items) r.turns x;
  sends = with_or_without (has_below nodes (may_send n.core)) r.sends x;
  asks = with_or_without (has_below nodes (may_ask n.core)) r.asks x;
}

-- the sets once an item has joined the inbox of node x, and nothing else of the node has changed
abbrev pub with_turn : Ready → ℕ → Ready
with_turn r x = record r { turns = sets.insert r.turns x }

-- these are all nodes of the mesh, and the sets say what they may do
pub record AreReadyIn (mesh : Nodes) (nodes : List NodeSeen) (ready : Ready) : Type 0 where
  pub count : length nodes ≡ length mesh
  pub sets : IsReadyFor mesh nodes ready

-- what holds of each world of these nodes and any radio
abbrev pub InEachWorld : List NodeSeen → Ready → (World → Type 0) → Type 0
InEachWorld nodes ready P =
    (mesh : Nodes) (radio : RadioState) → AreReadyIn mesh nodes ready
    → P (world_in mesh nodes radio)
