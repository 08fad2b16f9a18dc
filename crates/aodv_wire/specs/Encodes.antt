-- Part of what the headline says.
-- Which bytes encode which message, why others encode none, and what is written for a message.
use Rattle.std.specs.Prelude.{◌≡◌, ℕ, ◌==◌, Bool, if◌then◌else◌, List, length, Option, Some, None}
use Rattle.aodv_wire.specs.declared.error.WireError.{WireError}
use Rattle.aodv_wire.specs.declared.error.WireError.TheVariants.{Short, UnknownType}
use Rattle.aodv_wire.specs.declared.message.Message.{Message}
use Rattle.aodv_wire.specs.declared.message.Message.TheVariants.{Rreq, Rrep, Rerr, Parcel}
use Rattle.aodv_wire.specs.Layout.{field_at, number_at}
use Rattle.aodv_wire.specs.RouteRequest as rreq
use Rattle.aodv_wire.specs.RouteReply as rrep
use Rattle.aodv_wire.specs.RouteError as rerr
use Rattle.aodv_wire.specs.DataPacket as data_packet

-- the type of a packet: each table's first row
abbrev pub kind : List ℕ → ℕ
kind b = number_at b (field_at 0 0 8)

-- the packet's type is that of a data packet
abbrev pub is_data : List ℕ → Bool
is_data b = kind b == data_packet.type_number

-- the first refusal that applies to the bytes
unfoldable pub refusal : List ℕ → Option WireError
refusal b =
    if length b == 0 then Some Short
    else if kind b == rreq.type_number then rreq.refusal b
    else if kind b == rrep.type_number then rrep.refusal b
    else if kind b == rerr.type_number then rerr.refusal b
    else if kind b == data_packet.type_number then data_packet.refusal b
    else Some (UnknownType (kind b))

-- the message in the fields of the packet's type, whether or not it is refused
unfoldable pub message_in_fields : List ℕ → Message
message_in_fields b =
    if kind b == rreq.type_number then Rreq (rreq.request b)
    else if kind b == rrep.type_number then Rrep (rrep.reply b)
    else if kind b == rerr.type_number then Rerr (rerr.destinations b)
    else Parcel (data_packet.datum b)

-- the bytes encode the message: no refusal applies, and the message is in their fields
pub record Encodes (b : List ℕ) (m : Message) : Type 0 where
  pub allowed : refusal b ≡ None
  pub stands : message_in_fields b ≡ m

-- the one encoding that is written for a message
unfoldable pub encoding : Message → List ℕ
encoding (Rreq m) = rreq.bytes_of m
encoding (Rrep m) = rrep.bytes_of m
encoding (Rerr ps) = rerr.bytes_of ps
encoding (Parcel m) = data_packet.bytes_of m
