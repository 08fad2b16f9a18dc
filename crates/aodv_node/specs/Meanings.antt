-- The meaning of a message: that message over the nodes of a mesh.
use Rattle.std.specs.Prelude.{◌≡◌}
use Rattle.mesh_base.specs.Meshes.{Nodes}
use Rattle.aodv_model.specs.Cores.{Rreq, Rrep}
use Rattle.aodv_wire.specs.declared.message.Message as wire
use Rattle.aodv_wire.specs.declared.message.Message.TheVariants as messages
use Rattle.aodv_meaning.specs.Meaning.{in_mesh}
use Rattle.aodv_handlers.specs.Shown.{request_of, reply_of, parcel_of}
use Rattle.aodv_node.specs.declared.meaning.Meaning.{Meaning}
use Rattle.aodv_node.specs.declared.meaning.Meaning.TheVariants as meanings

-- the message means this in the mesh. A route error is kept as it is
abbrev pub Means : Nodes → wire.Message → Meaning → Type 0
Means mesh message (meanings.Request m) = in_mesh mesh message ≡ Rreq (request_of m)
Means mesh message (meanings.Reply m) = in_mesh mesh message ≡ Rrep (reply_of m)
Means mesh message (meanings.Error pairs) = message ≡ messages.Rerr pairs
Means mesh message (meanings.Datum m) = in_mesh mesh message ≡ parcel_of m
