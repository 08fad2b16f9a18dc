-- The statements that this crate proves about its definitions.
use Rattle.std.specs.Prelude.{◌≡◌, ◌↔◌, ℕ, ◌≤◌, ◌<◌, ◌+◌, true, Some}
use Rattle.std.specs.FinMap as maps
use Rattle.mesh_base.specs.Members.{NodeIds}
use Rattle.mesh_base.specs.declared.events.Variant.{Variant}
use Rattle.aodv_model.specs.Tables.{Table, update, unreachable_by}
use Rattle.aodv_model.specs.Cores.{Core, Item, opening}
use Rattle.aodv_model.specs.Handlers.{route_entry, is_stale, turn, may_send, send, may_ask, ask}
use Rattle.aodv_model.specs.Fullness.{greatest, has_greatest_by}
use Rattle.aodv_model.specs.Soundness.{IsSoundCore, IsStoreInMesh, IsItemInMesh, IsEffectInMesh, IsSoundReaction}

-- a reply is stale exactly where its update leaves the table unchanged
abbrev pub StaleIsUnchanged : Type 0
StaleIsUnchanged =
    (rt : Table) (d n hops from : ℕ) →
    let r = route_entry n hops from in (is_stale rt d r ≡ true) ↔ (update rt d r ≡ rt)

-- breaking the link to y would give some destination a number past the greatest exactly where some
-- valid entry with next hop y has the greatest
abbrev pub FullNumber : Type 0
FullNumber =
    (rt : Table) (y : ℕ) → (has_greatest_by rt y ≡ true)
    ↔ ((d : ℕ) × (maps.get (unreachable_by rt y) d ≡ Some (greatest + 1)))

-- ---- every handler keeps a core in order, whatever message it hears from another node: any that a
-- packet of the mesh can encode, even one that no node of the mesh would send

-- a node that has done nothing yet is in order
abbrev pub OpeningIsSound : Type 0
OpeningIsSound =
    (size : ℕ) (variant : Variant) (ip first : ℕ) → 1 ≤ first
    → IsSoundCore size (opening variant ip first)
    × IsStoreInMesh size (opening variant ip first).store

-- a turn
abbrev pub TurnKeepsCore : Type 0
TurnKeepsCore =
    (size : ℕ) (core : Core) (range : NodeIds) (item : Item) → IsSoundCore size core
    → IsStoreInMesh size core.store → IsItemInMesh size core.ip item
    → IsSoundReaction size core.ip (turn core range item)

-- the send of a stored datum
abbrev pub SendKeepsCore : Type 0
SendKeepsCore =
    (size : ℕ) (core : Core) (range : NodeIds) (d : ℕ) → IsSoundCore size core
    → IsStoreInMesh size core.store → core.ip < size → may_send core d ≡ true
    → IsSoundReaction size core.ip (send core range d)

-- a request of the node's own
abbrev pub AskKeepsCore : Type 0
AskKeepsCore =
    (size : ℕ) (core : Core) (d : ℕ) → IsSoundCore size core → IsStoreInMesh size core.store
    → core.ip < size → may_ask core d ≡ true
    → IsSoundReaction size core.ip (ask core d)

-- ---- the effect of a reaction names nodes of the mesh only: the next hop that wasn't reached, and
-- those to which a cast goes

-- a turn
abbrev pub TurnNamesTheMesh : Type 0
TurnNamesTheMesh =
    (size : ℕ) (core : Core) (range : NodeIds) (item : Item) → core.ip < size
    → IsSoundCore size core → IsItemInMesh size core.ip item
    → IsEffectInMesh size (turn core range item).effect

-- the send of a stored datum
abbrev pub SendNamesTheMesh : Type 0
SendNamesTheMesh =
    (size : ℕ) (core : Core) (range : NodeIds) (d : ℕ) → core.ip < size → IsSoundCore size core
    → may_send core d ≡ true
    → IsEffectInMesh size (send core range d).effect

-- a request of the node's own
abbrev pub AskNamesTheMesh : Type 0
AskNamesTheMesh = (size : ℕ) (core : Core) (d : ℕ) → IsEffectInMesh size (ask core d).effect
