-- Part of what the headline says.
-- A packet's message over the nodes of a mesh: each address becomes the index of its node.
use Rattle.std.specs.Prelude.{ℕ, Bool, true, false, if◌then◌else◌, Option, Some, None, is_some, List, [], ◌∷◌, map}
use Rattle.std.specs.FinMap as maps
use Rattle.mesh_base.specs.declared.addr.Addr.{Addr}
use Rattle.mesh_base.specs.Meshes.{Nodes, index_of, index_in}
use Rattle.aodv_model.specs.declared.entry.Known.{Known}
use Rattle.aodv_model.specs.declared.entry.Known.TheVariants.{Kno, Unk}
use Rattle.aodv_model.specs.Tables.{Dests}
use Rattle.aodv_model.specs.Cores.{RouteRequest, RouteReply, Message, Pkt, Rreq, Rrep, Rerr}
use Rattle.aodv_wire.specs.declared.route_request.Rreq as rreq
use Rattle.aodv_wire.specs.declared.route_reply.Rrep as rrep
use Rattle.aodv_wire.specs.declared.message.Message as wire
use Rattle.aodv_wire.specs.declared.message.Message.TheVariants as messages
use Rattle.aodv_wire.specs.Encodes.{message_in_fields}

-- ---- over indices

-- the node of an address that is in the mesh
abbrev pub index : Nodes → Addr → ℕ
index mesh a = index_in mesh a.0

abbrev pub status_of : Bool → Known
status_of true = Kno
status_of false = Unk

abbrev pub request_in : Nodes → rreq.Rreq → RouteRequest
request_in mesh m =
    record {
      hops = m.hops;
      id = m.id;
      dip = index mesh m.dip;
      dsn = m.dsn;
      dsk = status_of m.known;
      oip = index mesh m.oip;
      osn = m.osn;
    }

abbrev pub reply_in : Nodes → rrep.Rrep → RouteReply
reply_in mesh m = record {
  hops = m.hops;
  dip = index mesh m.dip;
  dsn = m.dsn;
  oip = index mesh m.oip;
}

abbrev pub pair_by_index : Nodes → Addr × ℕ → ℕ × ℕ
pair_by_index mesh p = (index mesh p.0, p.1)

abbrev pub dests_in : Nodes → List (Addr × ℕ) → Dests
dests_in mesh pairs = maps.from_entries (map (pair_by_index mesh) pairs)

-- the message, over indices
abbrev pub in_mesh : Nodes → wire.Message → Message
in_mesh mesh (messages.Rreq m) = Rreq (request_in mesh m)
in_mesh mesh (messages.Rrep m) = Rrep (reply_in mesh m)
in_mesh mesh (messages.Rerr pairs) = Rerr (dests_in mesh pairs)
in_mesh mesh (messages.Parcel p) = Pkt p.body (index mesh p.dip) (index mesh p.oip)

-- what the bytes mean in this mesh
unfoldable pub meaning : Nodes → List ℕ → Message
meaning mesh b = in_mesh mesh (message_in_fields b)

-- ---- strangers

-- this address if it is outside the mesh, otherwise the rest
abbrev pub unless_in : Nodes → Addr → Option Addr → Option Addr
unless_in mesh a rest = if is_some (index_of mesh a.0) then rest else Some a

abbrev pub strange_pair : Nodes → List (Addr × ℕ) → Option Addr
strange_pair mesh [] = None
strange_pair mesh (p ∷ ps) = unless_in mesh p.0 (strange_pair mesh ps)

-- the first address outside the mesh that a message names, in the packet's order
abbrev pub stranger : Nodes → wire.Message → Option Addr
stranger mesh (messages.Rreq m) = unless_in mesh m.dip (unless_in mesh m.oip None)
stranger mesh (messages.Rrep m) = unless_in mesh m.dip (unless_in mesh m.oip None)
stranger mesh (messages.Rerr pairs) = strange_pair mesh pairs
stranger mesh (messages.Parcel p) = unless_in mesh p.dip (unless_in mesh p.oip None)
