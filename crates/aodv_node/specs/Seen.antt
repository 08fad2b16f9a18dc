-- What is seen of a node, and what holds of every node.
use Rattle.std.specs.Prelude.{◌≡◌, ◌≢◌, ◌<◌, ◌⊎◌, ℕ, ◌-◌, List, [], ◌∷◌, ◌++◌, refl}
use Rattle.std.proofs.Common.{inl, inr}
use Rattle.std.specs.Coded.{Coded, code_by, coded×, coded⊎, coded_ℕ, coded_list}
use Rattle.std.specs.List.{AllByRecursion}
use Rattle.mesh_base.specs.declared.events.Item.{Item}
use Rattle.mesh_base.specs.declared.events.Item.TheVariants.{New, Heard}
use Rattle.aodv_model.specs.Tables.{Table}
use Rattle.aodv_model.specs.Cores.{Core}
use Rattle.aodv_model.specs.Codes.{core_code}
use Rattle.aodv_model.specs.Soundness.{IsDatum, IsSoundCore, IsStoreInMesh}
use Rattle.aodv_inbox.specs.Queues.{Queue}
use Rattle.aodv_handlers.specs.declared.cores.Core as code
use Rattle.aodv_handlers.specs.Shown.{core_of}

-- what is seen: the state of the model, the items that wait with their packets as bytes, how many
-- more items there is room for, and the number of nodes of the mesh
pub record NodeSeen : Type 0 where
  pub core : Core
  pub items : List Item
  pub room : ℕ
  pub size : ℕ

-- what is seen of a core of the code and an inbox
abbrev pub node_seen : {T : Type 0} → (T → ℕ) → (T → Table) → code.Core T → Queue → NodeSeen
node_seen nodes entries core inbox = record {
  core = core_of entries core;
  items = inbox.items;
  room = inbox.room;
  size = nodes core.table;
}

-- the item joins the inbox, and uses up the room for one
abbrev pub with_queued : NodeSeen → Item → NodeSeen
with_queued node item = record node { items = node.items ++ item ∷ []; room = node.room - 1 }

-- an item that may wait at node `me` of a mesh of this size: a datum of 1 to 512 bytes for a node
-- of the mesh, or a packet of any bytes from another node of the mesh
abbrev pub IsItemAt : ℕ → ℕ → Item → Type 0
IsItemAt size me (New dest body) = (dest < size) × IsDatum body
IsItemAt size me (Heard from bytes) = (from < size) × (from ≢ me)

-- what holds of every node: it is in its mesh, its state is in order, and so are the data that wait
-- and the items of its inbox
pub record IsSoundNode (node : NodeSeen) : Type 0 where
  pub mine : (node.core).ip < node.size
  pub sound : IsSoundCore node.size node.core
  pub store : IsStoreInMesh node.size (node.core).store
  pub each : AllByRecursion (IsItemAt node.size (node.core).ip) node.items

-- ---- codes, by which proofs tell such values apart

abbrev item_parts : Item → (ℕ × List ℕ) ⊎ (ℕ × List ℕ)
item_parts (New dest body) = inl (dest, body)
item_parts (Heard from bytes) = inr (from, bytes)

abbrev item_of : (ℕ × List ℕ) ⊎ (ℕ × List ℕ) → Item
item_of (inl p) = New p.0 p.1
item_of (inr p) = Heard p.0 p.1

pub item_back : (i : Item) → item_of (item_parts i) ≡ i
item_back (New dest body) = refl
item_back (Heard from bytes) = refl

-- a code for items
abbrev pub item_code : Coded Item
item_code =
    code_by ((ℕ × List ℕ) ⊎ (ℕ × List ℕ))
    (coded⊎ (coded× coded_ℕ (coded_list coded_ℕ)) (coded× coded_ℕ (coded_list coded_ℕ))) item_parts
    item_of item_back

-- a code for what is seen of a node
abbrev pub node_code : Coded NodeSeen
node_code =
    code_by (Core × (List Item × (ℕ × ℕ)))
    (coded× core_code (coded× (coded_list item_code) (coded× coded_ℕ coded_ℕ)))
    (λ n. (n.core, (n.items, (n.room, n.size))))
    (λ p. record { core = p.0; items = p.1.0; room = p.1.1.0; size = p.1.1.1 }) (λ _. refl)
