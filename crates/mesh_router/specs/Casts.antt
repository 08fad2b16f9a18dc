-- To which peers a packet that is cast goes, and what is written about a router's step.
use Rattle.std.specs.Prelude.{ℕ, ◌+◌, List, [], ◌∷◌, ◌++◌, length, codes, get_or}
use Rattle.std.specs.Fmt.{decimal}
use Rattle.mesh_base.specs.Meshes.{Nodes}
use Rattle.mesh_base.specs.declared.events.Item.{Item}
use Rattle.aodv_model.specs.Handlers.{Cast, Nothing, One, Many, All, Effect, Reaction}
use Rattle.mesh_model.specs.Worlds.{members_below, receivers}
use Rattle.mesh_meaning.specs.Packets.{packet_of}
use Rattle.mesh_grammar.specs.Written.{line}
use Rattle.mesh_text.specs.Lines.{name_of}
use Rattle.mesh_text.specs.Effects.{broken_text, cast_text}
use Rattle.mesh_link.specs.Datagrams.{datagram}
use Rattle.mesh_script.specs.Peers.{PeersSeen}
use Rattle.mesh_router.specs.Logs.{Log, Sent, nothing, text_log, followed_by}
use Rattle.mesh_router.specs.Routers.{Router}

-- the port of a node
abbrev pub port_at : PeersSeen → ℕ → ℕ
port_at p x = get_or p.ports x 0

-- the line that says that a packet goes to a node
abbrev pub to_line : PeersSeen → ℕ → List ℕ
to_line p x = line (codes "  to " ++ name_of p.mesh x ++ 32 ∷ decimal (port_at p x))

-- a packet goes to a node: that line, and then the datagram
abbrev pub sent_to : PeersSeen → List ℕ → ℕ → Log
sent_to p packet x =
    followed_by (text_log (to_line p x)) (Sent (datagram (port_at p x) packet) ∷ [])

-- a packet goes to each of some nodes, one after another
abbrev pub sent_to_each : PeersSeen → List ℕ → List ℕ → Log
sent_to_each p packet [] = nothing
sent_to_each p packet (x ∷ xs) = followed_by (sent_to p packet x) (sent_to_each p packet xs)

-- the nodes in range that a cast goes to, by rising address
abbrev pub reached_by : Router → Cast → List ℕ
reached_by r cast = members_below (length (r.peers).mesh) (receivers r.range cast)

-- the packet of a cast
abbrev pub cast_packet : Nodes → Cast → List ℕ
cast_packet mesh Nothing = []
cast_packet mesh (One y m) = packet_of mesh m
cast_packet mesh (Many s m) = packet_of mesh m
cast_packet mesh (All m) = packet_of mesh m

abbrev pub cast_log : Router → Cast → Log
cast_log r cast = sent_to_each r.peers (cast_packet (r.peers).mesh cast) (reached_by r cast)

-- the log of an effect: a failed unicast, what was cast, and each node to which that goes
abbrev pub effect_log : Router → Effect → Log
effect_log r e =
    followed_by (text_log (broken_text (r.peers).mesh e.broken ++ cast_text (r.peers).mesh e.cast))
    (cast_log r e.cast)

-- the router after its node's reaction, with this queue
abbrev pub after_reaction : Router → List Item → Reaction → Router
after_reaction r queue reaction = record r {
  core = reaction.core;
  queue = queue;
  sent = r.sent + length (reached_by r (reaction.effect).cast);
}
