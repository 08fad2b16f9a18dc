-- What a router does with the datagrams that it receives.
use Rattle.std.specs.Prelude.{ℕ, zero, suc, ◌+◌, List, [], ◌∷◌, ◌++◌, length, take, codes, Option, Some, None}
use Rattle.std.specs.Fmt.{decimal}
use Rattle.mesh_base.specs.Meshes.{Nodes}
use Rattle.mesh_base.specs.declared.events.Item.TheVariants.{Heard}
use Rattle.mesh_grammar.specs.Written.{line, label_number}
use Rattle.mesh_text.specs.Lines.{name_of}
use Rattle.mesh_link.specs.Datagrams.{Datagram}
use Rattle.mesh_script.specs.Peers.{at_port}
use Rattle.mesh_router.specs.declared.limits.TheConstants.{MOST_RECEIVED}
use Rattle.mesh_router.specs.Logs.{Log, nothing, text_log, followed_by}
use Rattle.mesh_router.specs.Routers.{Router}
use Rattle.mesh_router.specs.Finds.{Find, next_find, later_finds}

-- what calls that receive come to: their log, the router then, and what is left to be found
pub record PollOutcome : Type 0 where
  pub log : Log
  pub next : Router
  pub left : List Find

abbrev pub poll_outcome : Log → Router → List Find → PollOutcome
poll_outcome log next left = record { log = log; next = next; left = left }

-- the first bytes of a datagram, as many as are received
abbrev pub received_bytes : List ℕ → List ℕ
received_bytes bytes = take MOST_RECEIVED bytes

-- a datagram of this many bytes was heard from a peer
abbrev pub heard_line : Nodes → ℕ → ℕ → List ℕ
heard_line mesh from size = line (codes "  heard " ++ name_of mesh from ++ 32 ∷ decimal size)

-- a datagram from this port was dropped
abbrev pub strange_port_line : ℕ → List ℕ
strange_port_line port = line (label_number (codes "  drop port ") port)

abbrev pub none_line : List ℕ
none_line = line (codes "  none")

-- what is written about a datagram with these bytes from this port, where there is a peer or none
abbrev pub found_text : Router → ℕ → List ℕ → Option ℕ → List ℕ
found_text r port bytes (Some from) = heard_line (r.peers).mesh from (length bytes)
found_text r port bytes None = strange_port_line port

-- the router after a datagram with these bytes: a peer's joins the queue, and any other is dropped
abbrev pub found_next : Router → List ℕ → Option ℕ → Router
found_next r bytes (Some from) =
    record r { queue = r.queue ++ Heard from bytes ∷ []; heard = r.heard + 1 }
found_next r bytes None = record r { dropped = r.dropped + 1 }

abbrev pub datagram_text : Router → Datagram → List ℕ
datagram_text r d = found_text r d.port (received_bytes d.bytes) (at_port r.peers d.port)

abbrev pub datagram_log : Router → Datagram → Log
datagram_log r d = text_log (datagram_text r d)

abbrev pub datagram_next : Router → Datagram → Router
datagram_next r d = found_next r (received_bytes d.bytes) (at_port r.peers d.port)

-- a log, and then what later calls come to
abbrev pub polled_after : Log → PollOutcome → PollOutcome
polled_after log p = record p { log = followed_by log p.log }

-- a find, and then others: if nothing is there, no more is received
abbrev pub polled_by : Router → Find → List Find → (Router → List Find → PollOutcome) → PollOutcome
polled_by r None left others = poll_outcome (text_log none_line) r left
polled_by r (Some d) left others =
    polled_after (datagram_log r d) (others (datagram_next r d) left)

-- up to this many datagrams
unfoldable pub polls_of : ℕ → Router → List Find → PollOutcome
polls_of zero r finds = poll_outcome nothing r finds
polls_of (suc most) r finds =
    polled_by r (next_find finds) (later_finds finds) (λ next left. polls_of most next left)
