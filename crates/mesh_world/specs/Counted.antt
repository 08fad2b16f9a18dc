-- The data in stores, inboxes and packets, as they are counted. No public contract cites this file.
use Rattle.std.specs.Prelude.{◌≡◌, ℕ, ◌+◌, ◌<◌, ◌^◌, Bool, true, if◌then◌else◌, List, length}
use Rattle.std.specs.List.{AllByRecursion, sum_by}
use Rattle.std.specs.FinMap as maps
use Rattle.mesh_base.specs.Meshes.{Nodes}
use Rattle.mesh_base.specs.declared.events.Flying.{Flying}
use Rattle.mesh_base.specs.declared.events.Item.{Item}
use Rattle.mesh_base.specs.declared.events.Item.TheVariants.{New, Heard}
use Rattle.aodv_wire.specs.Encodes.{is_data}
use Rattle.aodv_model.specs.Cores.{bodies_in}
use Rattle.aodv_node.specs.Seen.{NodeSeen}
use Rattle.mesh_model.specs.Worlds.{World}
use Rattle.mesh_model.specs.Accounts.{total_below, waiting, queued_data, in_flight}
use Rattle.mesh_radio.specs.Radios.{RadioState}
use Rattle.mesh_meaning.specs.Packets.{IsWrittenItem, IsWrittenCopy}
use Rattle.mesh_model.specs.Accounts.{any}
use Rattle.mesh_world.specs.Kept.{world_in}

-- the item is a datum, or a data packet
abbrev pub has_datum : Item → Bool
has_datum (New dest body) = true
has_datum (Heard from bytes) = is_data bytes

abbrev pub one_if : Bool → ℕ
one_if b = if b then 1 else 0

-- the data for d in the store of a node
abbrev pub waiting_for : NodeSeen → ℕ → ℕ
waiting_for n d = length (bodies_in (maps.get (n.core).store d))

-- all data in the store of a node
unfoldable pub waiting_at : NodeSeen → ℕ
waiting_at n = total_below n.size (waiting_for n)

-- the data in these items
unfoldable pub queued_in : List Item → ℕ
queued_in items = sum_by (λ item. one_if (has_datum item)) items

-- the data in these copies
unfoldable pub flying_in : List Flying → ℕ
flying_in copies = sum_by (λ f. one_if (is_data f.bytes)) copies

-- the packets in these nodes' queues and in flight are all written of their messages, and the data
-- are fewer than 2^64, so that they can be counted
pub record AreCounted (mesh : Nodes) (nodes : List NodeSeen) (radio : RadioState) : Type 0 where
  pub items : AllByRecursion (λ n. AllByRecursion (IsWrittenItem mesh) n.items) nodes
  pub sizes : AllByRecursion (λ n. n.size ≡ length nodes) nodes
  pub flying : AllByRecursion (IsWrittenCopy mesh) radio.flying
  pub few : waiting any (world_in mesh nodes radio) + queued_data any (world_in mesh nodes radio)
      + in_flight any (world_in mesh nodes radio) < 2 ^ 64

-- n is this count of the world
abbrev pub IsCountOf : List NodeSeen → RadioState → (World → ℕ) → ℕ → Type 0
IsCountOf nodes radio count n =
    (mesh : Nodes) → AreCounted mesh nodes radio → n ≡ count (world_in mesh nodes radio)
