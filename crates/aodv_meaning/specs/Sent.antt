-- Part of what the headline says.
-- A message of the model as a packet: each index becomes the address of its node.
use Rattle.std.specs.Prelude.{◌≡◌, ℕ, None, List, [], map, ⊤}
use Rattle.std.specs.FinMap as maps
use Rattle.mesh_base.specs.declared.addr.Addr.{Addr}
use Rattle.mesh_base.specs.Meshes.{Nodes, addr_at}
use Rattle.aodv_model.specs.Quality.{is_kno}
use Rattle.aodv_model.specs.Tables.{Dests}
use Rattle.aodv_model.specs.Cores.{RouteRequest, RouteReply, Message, Pkt, Rreq, Rrep, Rerr}
use Rattle.aodv_model.specs.Handlers.{Cast, Nothing, One, Many, All}
use Rattle.aodv_wire.specs.declared.route_request.Rreq as rreq
use Rattle.aodv_wire.specs.declared.route_reply.Rrep as rrep
use Rattle.aodv_wire.specs.declared.message.Message as wire
use Rattle.aodv_wire.specs.declared.message.Message.TheVariants as messages
use Rattle.aodv_wire.specs.RouteError.{AreDestinations}
use Rattle.aodv_wire.specs.Encodes.{Encodes, refusal, message_in_fields, encoding}
use Rattle.aodv_meaning.specs.Meaning.{stranger}

abbrev pub addr : Nodes → ℕ → Addr
addr mesh i = record { 0 = addr_at mesh i }

abbrev pub rreq_of : Nodes → RouteRequest → rreq.Rreq
rreq_of mesh m =
    record {
      hops = m.hops;
      id = m.id;
      dip = addr mesh m.dip;
      dsn = m.dsn;
      known = is_kno m.dsk;
      oip = addr mesh m.oip;
      osn = m.osn;
    }

abbrev pub rrep_of : Nodes → RouteReply → rrep.Rrep
rrep_of mesh m = record { hops = m.hops; dip = addr mesh m.dip; dsn = m.dsn; oip = addr mesh m.oip }

abbrev pub pair_by_address : Nodes → ℕ × ℕ → Addr × ℕ
pair_by_address mesh e = (addr mesh e.0, e.1)

-- the pairs of a route error, in rising order of their addresses
abbrev pub pairs_of : Nodes → Dests → List (Addr × ℕ)
pairs_of mesh dests = map (pair_by_address mesh) (maps.entries dests)

-- the message, over addresses
abbrev pub out_of : Nodes → Message → wire.Message
out_of mesh (Rreq m) = messages.Rreq (rreq_of mesh m)
out_of mesh (Rrep m) = messages.Rrep (rrep_of mesh m)
out_of mesh (Rerr dests) = messages.Rerr (pairs_of mesh dests)
out_of mesh (Pkt b d o) =
    messages.Parcel (record { dip = addr mesh d; oip = addr mesh o; body = b })

-- the bytes are what is written for the message, and encode it
pub record IsSent (mesh : Nodes) (b : List ℕ) (m : Message) : Type 0 where
  pub written : b ≡ encoding (out_of mesh m)
  pub encodes : Encodes b (out_of mesh m)

-- a message that can be written: a route error only if it has 1 to 200 destinations, in rising
-- order of their addresses
abbrev pub IsWritable : wire.Message → Type 0
IsWritable (messages.Rreq m) = ⊤
IsWritable (messages.Rrep m) = ⊤
IsWritable (messages.Rerr pairs) = AreDestinations pairs
IsWritable (messages.Parcel p) = ⊤

-- bytes as a node of the mesh writes them: they encode a message that names nodes of the mesh only
-- and can be written, and they are what is written for it
pub record IsAsWritten (mesh : Nodes) (b : List ℕ) : Type 0 where
  pub allowed : refusal b ≡ None
  pub known : stranger mesh (message_in_fields b) ≡ None
  pub writable : IsWritable (message_in_fields b)
  pub same : b ≡ encoding (message_in_fields b)

-- the packet of a cast: none, or what is written for its message
abbrev pub IsPacket : Nodes → List ℕ → Cast → Type 0
IsPacket mesh b Nothing = b ≡ []
IsPacket mesh b (One y m) = IsSent mesh b m
IsPacket mesh b (Many s m) = IsSent mesh b m
IsPacket mesh b (All m) = IsSent mesh b m
