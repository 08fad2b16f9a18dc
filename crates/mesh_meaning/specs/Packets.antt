-- Part of what the headline says.
-- Packets in place of messages: of items in queues, and of copies in flight.
use Rattle.std.specs.Prelude.{ℕ, List, ⊤}
use Rattle.mesh_base.specs.declared.events.Item as items
use Rattle.mesh_base.specs.declared.events.Item.TheVariants as item
use Rattle.mesh_base.specs.declared.events.Flying.{Flying}
use Rattle.mesh_base.specs.Meshes.{Nodes}
use Rattle.aodv_model.specs.Cores.{Message}
use Rattle.aodv_wire.specs.Encodes.{encoding}
use Rattle.aodv_meaning.specs.Meaning.{meaning}
use Rattle.aodv_meaning.specs.Sent.{IsSent, out_of}
use Rattle.mesh_model.specs.Worlds.{Copy}

-- the packet that is written of a message
unfoldable pub packet_of : Nodes → Message → List ℕ
packet_of mesh m = encoding (out_of mesh m)

-- the bytes are the packet that is written of what they mean
abbrev pub IsWritten : Nodes → List ℕ → Type 0
IsWritten mesh bytes = IsSent mesh bytes (meaning mesh bytes)

-- an item's packet, if it was heard, is written of what it means; a datum isn't a packet
abbrev pub IsWrittenItem : Nodes → items.Item → Type 0
IsWrittenItem mesh (item.New dest body) = ⊤
IsWrittenItem mesh (item.Heard from bytes) = IsWritten mesh bytes

-- the packet of a copy in flight is written of what it means
abbrev pub IsWrittenCopy : Nodes → Flying → Type 0
IsWrittenCopy mesh f = IsWritten mesh f.bytes

-- a copy in flight, as the definitions have it
abbrev pub copy_in : Nodes → Flying → Copy
copy_in mesh f = record { id = f.id; from = f.from; to = f.to; message = meaning mesh f.bytes }
