-- Part of what the headline says.
-- Messages, stores of waiting data, and the state of one node.
use Rattle.std.specs.Prelude.{ℕ, ◌+◌, Bool, true, false, not, ◌&&◌, ◌||◌, ◌==◌, if◌then◌else◌, Option, Some, None, List, [], ◌∷◌, ◌++◌, max}
use Rattle.std.specs.Ordering.{nat_cmp}
use Rattle.std.specs.FinMap as maps
use Rattle.std.specs.FinMap.{FinMap}
use Rattle.std.specs.FinSet as sets
use Rattle.mesh_base.specs.Members.{NodeIds}
use Rattle.mesh_base.specs.declared.events.Variant.{Variant}
use Rattle.aodv_model.specs.declared.entry.Known.{Known}
use Rattle.aodv_model.specs.Pairs.{Pairs}
use Rattle.aodv_model.specs.Tables.{Table, Dests, map_values}

-- ---- messages (RFC 3561, section 5). A message doesn't contain its sender

-- a datum: its bytes
abbrev pub Body : Type 0
Body = List ℕ

-- a route request (RFC 3561, section 5.1). hops is the number of nodes that have passed it on.
-- oip asks for dip: osn is oip's own number; dsn is the number that is wanted of dip, and dsk says
-- whether oip knew it (nodes on the way raise dsn to what they know, and leave dsk)
pub record RouteRequest : Type 0 where
  pub hops : ℕ
  pub id : ℕ
  pub dip : ℕ
  pub dsn : ℕ
  pub dsk : Known
  pub oip : ℕ
  pub osn : ℕ

-- a route reply (RFC 3561, section 5.2) on its way to oip: the sender has a route to dip with the
-- number dsn and this many hops
pub record RouteReply : Type 0 where
  pub hops : ℕ
  pub dip : ℕ
  pub dsn : ℕ
  pub oip : ℕ

-- a data packet from oip to dip, a route request, a route reply, or a route error (RFC 3561,
-- section 5.3)
pub data Message : Type 0 where
  Pkt : (body : Body) (dip oip : ℕ) → Message
  Rreq : RouteRequest → Message
  Rrep : RouteReply → Message
  Rerr : Dests → Message

-- what waits in a node's queue: a datum given to the node for a destination, or a message heard
-- from a neighbour
pub data Item : Type 0 where
  New : (body : Body) (dip : ℕ) → Item
  Heard : (from : ℕ) → Message → Item

-- ---- the store of data that wait for a route
-- (AWN's queues of data packets; RFC 3561, section 6.3)

-- the data that wait for one destination, and whether a route request for it is still to be made
pub record Waiting : Type 0 where
  pub needs_request : Bool
  pub bodies : List Body

-- what waits, by destination. In a mesh only destinations with data are in it (Soundness)
abbrev pub Store : Type 0
Store = FinMap nat_cmp Waiting

-- the data that wait, if any
abbrev pub bodies_in : Option Waiting → List Body
bodies_in None = []
bodies_in (Some s) = s.bodies

-- there are data, and a request is still to be made
abbrev pub needs_in : Option Waiting → Bool
needs_in None = false
needs_in (Some s) = s.needs_request

-- one datum more, after the others
abbrev pub with_body : Option Waiting → Body → Waiting
with_body None b = record { needs_request = true; bodies = b ∷ [] }
with_body (Some s) b = record s { bodies = s.bodies ++ b ∷ [] }

-- the datum waits for d, after those that already do; a new destination needs a request
unfoldable pub add : Store → ℕ → Body → Store
add store d b = maps.insert store d (with_body (maps.get store d) b)

-- all but the first
abbrev pub rest : List Body → List Body
rest [] = []
rest (b ∷ bs) = bs

-- the store with these data for d, or without d if there are none
abbrev pub drop_first : Store → ℕ → List Body → Bool → Store
drop_first store d [] needs = maps.remove store d
drop_first store d (b ∷ bs) needs =
    maps.insert store d (record { needs_request = needs; bodies = b ∷ bs })

-- the store without d's first datum, and without d if that was its last
unfoldable pub drop : Store → ℕ → Store
drop store d =
    drop_first store d (rest (bodies_in (maps.get store d))) (needs_in (maps.get store d))

-- d needs no request for now; all else stays
unfoldable pub unset : Store → ℕ → Store
unset store d =
    map_values
    (λ k (w : Waiting). record w { needs_request = w.needs_request && not (k == d) }) store

-- those of these destinations that have data need a request; all else stays
unfoldable pub set : Store → NodeIds → Store
set store dests =
    map_values (λ d (w : Waiting). record w {
      needs_request = w.needs_request || sets.contains dests d;
    }) store

-- the list is not empty
abbrev pub has_data : List Body → Bool
has_data [] = false
has_data (b ∷ bs) = true

-- d has data
abbrev pub in_qD : Store → ℕ → Bool
in_qD store d = has_data (bodies_in (maps.get store d))

-- ---- the core

-- the route requests that a node has seen, each as its originator with its id or (in the variant
-- `Number`) with the originator's number
abbrev pub SeenRequests : Type 0
SeenRequests = Pairs

-- the request with this key was seen
abbrev pub has_seen : SeenRequests → ℕ × ℕ → Bool
has_seen seen key = sets.contains seen key

-- the greatest second number in a pair with o, or 0
abbrev pub greatest_beside : List (ℕ × ℕ) → ℕ → ℕ
greatest_beside [] o = 0
greatest_beside (k ∷ ks) o =
    if k.0 == o then max k.1 (greatest_beside ks o) else greatest_beside ks o

-- the greatest id of a request of o that was seen, or 0 if there is none
unfoldable pub last_request_id : SeenRequests → ℕ → ℕ
last_request_id seen o = greatest_beside (sets.items seen) o

-- an id above those of all requests of o that were seen (AWN's nrreqid; RFC 3561, section 6.3)
unfoldable pub next_request_id : SeenRequests → ℕ → ℕ
next_request_id seen o = last_request_id seen o + 1

-- the state of a node except its queue: its address, its variant of the protocol, its own sequence
-- number, its routing table, the requests that it has seen, and its store
pub record Core : Type 0 where
  pub ip : ℕ
  pub variant : Variant
  pub sn : ℕ
  pub rt : Table
  pub seen : SeenRequests
  pub store : Store

-- a node that has done nothing yet, with its first sequence number
abbrev pub opening : Variant → ℕ → ℕ → Core
opening variant ip first = record {
  ip = ip;
  variant = variant;
  sn = first;
  rt = maps.empty;
  seen = sets.empty;
  store = maps.empty;
}
