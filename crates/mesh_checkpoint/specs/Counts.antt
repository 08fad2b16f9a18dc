-- How many data a body has, and whether its sums fit them.
use Rattle.std.specs.Prelude.{◌≡◌, ℕ, ◌+◌, Bool, true, false, List, length, Option, Some, None}
use Rattle.std.specs.List.{sum_by}
use Rattle.mesh_base.specs.declared.events.Item.{Item}
use Rattle.mesh_base.specs.declared.events.Item.TheVariants.{New, Heard}
use Rattle.mesh_base.specs.declared.events.Flying.{Flying}
use Rattle.aodv_wire.specs.declared.error.WireError.{WireError}
use Rattle.aodv_wire.specs.declared.message.Message.{Message}
use Rattle.aodv_wire.specs.declared.message.Message.TheVariants.{Parcel}
use Rattle.aodv_wire.specs.Encodes.{refusal, message_in_fields}
use Rattle.mesh_checkpoint.specs.Formats.{one_if}
use Rattle.mesh_checkpoint.specs.Checkpoint.{Waits, Node, World, Body}

-- the message wasn't refused, and is that of a data packet
abbrev pub is_parcel : Option WireError → Message → Bool
is_parcel None (Parcel datum) = true
is_parcel refused others = false

-- the bytes encode a data packet. Other bytes may begin as one does
unfoldable pub encodes_datum : List ℕ → Bool
encodes_datum bytes = is_parcel (refusal bytes) (message_in_fields bytes)

-- how many data wait for a destination
abbrev pub data_waiting : Waits → ℕ
data_waiting w = length w.bodies

-- 1 if the item is a datum or a data packet, and else 0
abbrev pub data_in_item : Item → ℕ
data_in_item (New dest body) = 1
data_in_item (Heard from bytes) = one_if (encodes_datum bytes)

-- 1 if what was heard, a sender and a packet, is a data packet, and else 0
abbrev pub data_heard : ℕ × List ℕ → ℕ
data_heard p = one_if (encodes_datum p.1)

-- 1 if the copy is a data packet, and else 0
abbrev pub data_in_copy : Flying → ℕ
data_in_copy c = one_if (encodes_datum c.bytes)

-- how many data are in a node's store and inbox
abbrev pub data_at : Node → ℕ
data_at n = sum_by data_waiting n.store + sum_by data_in_item n.inbox

-- how many data are at all nodes and in flight
abbrev pub data_in_world : World → ℕ
data_in_world w = sum_by data_at w.nodes + sum_by data_in_copy w.copies

abbrev pub data_in : Option World → ℕ
data_in None = 0
data_in (Some w) = data_in_world w

-- each datum that was given or doubled was delivered or dropped, or is still there
abbrev pub IsBalanced : Body → Type 0
IsBalanced b =
    (b.head).given + (b.head).copied ≡ (b.head).delivered + (b.head).lost + data_in b.world
