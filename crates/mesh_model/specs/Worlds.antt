-- Part of what the headline says.
-- The state of the whole mesh, its events, one step, and a run of them. One event is one atomic
-- step of the mesh.
use Rattle.std.specs.Prelude.{ℕ, zero, suc, ◌+◌, ◌≤◌, Bool, true, false, if◌then◌else◌, Option, Some, None, List, [], ◌∷◌, ◌++◌, length, map, slice_get, slice_set, min, max}
use Rattle.std.specs.List.{AllByRecursion}
use Rattle.std.specs.FinSet as sets
use Rattle.mesh_base.specs.declared.limits.TheConstants.{MOST_NODES}
use Rattle.mesh_base.specs.Members.{NodeIds}
unfoldable pub use Rattle.mesh_base.specs.Members.{members_below}
use Rattle.mesh_base.specs.Meshes as meshes
use Rattle.mesh_base.specs.declared.events.Full.{Full as Counter}
use Rattle.mesh_base.specs.declared.events.Variant.{Variant}
use Rattle.aodv_model.specs.Pairs.{Pairs}
use Rattle.mesh_model.specs.Numbered.{find_by, without_by, numbered_from}
use Rattle.aodv_model.specs.Cores.{Body, Message, Pkt, Rreq, Rrep, Rerr, Item, New, Heard, Core, opening}
use Rattle.aodv_model.specs.Handlers.{Cast, Nothing, One, Many, All, Effect, Reaction, Took, one, turn, took, may_send, send, may_ask, ask}
use Rattle.aodv_model.specs.Fullness.{greatest, turn_full, send_full, ask_full}

-- a node of the mesh
pub record Node : Type 0 where
  pub core : Core
  pub queue : List Item

-- a copy of a message in flight
pub record Copy : Type 0 where
  pub id : ℕ
  pub from : ℕ
  pub to : ℕ
  pub message : Message

-- the nodes by their index; the links that stand, and those that ever stood, each with the smaller
-- node first; the copies in flight by rising id; and the id of the next copy
pub record World : Type 0 where
  pub nodes : List Node
  pub links : Pairs
  pub ever : Pairs
  pub flying : List Copy
  pub next_copy : ℕ

-- what may happen next
pub data Event : Type 0 where
  -- a datum for dest is given to the node
  Give : (node dest : ℕ) (body : Body) → Event
  -- the node takes the front of its queue
  Turn : (node : ℕ) → Event
  -- the node sends a datum that waits for dest
  Send : (node dest : ℕ) → Event
  -- the node asks for a route to dest
  Ask : (node dest : ℕ) → Event
  -- a link is made, both ways, or is cut
  Link : (a b : ℕ) → Event
  Cut : (a b : ℕ) → Event
  -- a copy in flight reaches its receiver's queue, is lost, or is doubled
  Deliver : (id : ℕ) → Event
  Lose : (id : ℕ) → Event
  Double : (id : ℕ) → Event

-- ---- links

-- two nodes, the smaller first
abbrev pub pair : ℕ → ℕ → ℕ × ℕ
pair a b = (min a b, max a b)

-- the pair is among the links, whichever node is named first
abbrev pub are_linked : Pairs → ℕ → ℕ → Bool
are_linked links a b = sets.contains links (pair a b)

-- the nodes below n that are linked to a
abbrev pub linked_below : Pairs → ℕ → ℕ → NodeIds
linked_below links a zero = sets.empty
linked_below links a (suc n) =
    if are_linked links a n then sets.insert (linked_below links a n) n else linked_below links a n

-- the nodes in range of a: those linked to it
unfoldable pub range : World → ℕ → NodeIds
range w a = linked_below w.links a (length w.nodes)

-- ---- casts

-- the nodes in range to which the cast goes
unfoldable pub receivers : NodeIds → Cast → NodeIds
receivers near Nothing = sets.empty
receivers near (One y m) = sets.intersection (one y) near
receivers near (Many s m) = sets.intersection s near
receivers near (All m) = near

-- one copy for each receiver, with ids that rise from `id` on
abbrev pub copies_to : List ℕ → ℕ → ℕ → Message → List Copy
copies_to tos id from m =
    numbered_from (λ i to. record { id = i; from = from; to = to; message = m }) tos id

-- the copies of a cast for these receivers
abbrev pub copies_of : Cast → List ℕ → ℕ → ℕ → List Copy
copies_of Nothing tos id from = []
copies_of (One y m) tos id from = copies_to tos id from m
copies_of (Many s m) tos id from = copies_to tos id from m
copies_of (All m) tos id from = copies_to tos id from m

-- the copies that a cast of node x makes
unfoldable pub copies : World → ℕ → Cast → List Copy
copies w x cast =
    copies_of cast (members_below (length w.nodes) (receivers (range w x) cast)) w.next_copy x

-- ---- steps

-- the world after this reaction of node x, which leaves it this queue
unfoldable pub done_by : World → ℕ → Reaction → List Item → World
done_by w x reaction queue =
    let new = copies w x (reaction.effect).cast in
    record w {
      nodes = slice_set w.nodes x (record { core = reaction.core; queue = queue });
      flying = w.flying ++ new;
      next_copy = w.next_copy + length new;
    }

-- the world with the item at the end of the queue of node x, if there is such a node
abbrev pub with_item : World → ℕ → Option Node → Item → World
with_item w x None item = w
with_item w x (Some n) item = record w {
  nodes = slice_set w.nodes x (record n { queue = n.queue ++ item ∷ [] });
}

-- the item joins x's queue
unfoldable pub push : World → ℕ → Item → World
push w x item = with_item w x (slice_get w.nodes x) item

-- the copy of that id
abbrev pub find_copy : List Copy → ℕ → Option Copy
find_copy cs id = find_by (λ c. c.id) cs id

-- the copies except the one of that id
unfoldable pub without : List Copy → ℕ → List Copy
without cs id = without_by (λ c. c.id) cs id

-- what a step did besides making the new world
pub data WorldEffect : Type 0 where
  -- a datum was given, or a link changed
  Changed : WorldEffect
  -- a turn: what it took, its effect, and the copies that its cast made
  Taken : Took → Effect → List Copy → WorldEffect
  -- a stored datum was sent, or a request made: the effect, and the copies that the cast made
  Sent : Effect → List Copy → WorldEffect
  -- a copy reached its receiver's queue
  CopyHeard : (from to : ℕ) → WorldEffect
  -- this copy was lost
  CopyLost : Copy → WorldEffect
  -- a new copy with this id, to this node, doubles another; and whether it is of a data packet
  CopyDoubled : (id to : ℕ) (parcel : Bool) → WorldEffect

-- what comes of an event: nothing if it isn't enabled; a refusal, with the node and its full
-- counter; or a new world and what happened
pub data Outcome : Type 0 where
  Idle : Outcome
  Full : (node : ℕ) → Counter → Outcome
  Next : World → WorldEffect → Outcome

-- the outcome, unless a counter is full
abbrev pub unless_full : ℕ → Option Counter → Outcome → Outcome
unless_full x (Some f) o = Full x f
unless_full x None o = o

-- node x takes the front of its queue
abbrev pub turn_of : World → ℕ → Core → List Item → Outcome
turn_of w x core [] = Idle
turn_of w x core (item ∷ items) =
    let reaction = turn core (range w x) item in
    unless_full x (turn_full core (range w x) item)
    (Next (done_by w x reaction items)
    (Taken (took core item) reaction.effect (copies w x (reaction.effect).cast)))

-- node x sends a datum that waits for d
abbrev pub send_of : World → ℕ → ℕ → Core → List Item → Outcome
send_of w x d core items =
    let reaction = send core (range w x) d in
    if may_send core d
    then unless_full x (send_full core (range w x) d)
    (Next (done_by w x reaction items) (Sent reaction.effect (copies w x (reaction.effect).cast)))
    else Idle

-- node x asks for a route to d
abbrev pub ask_of : World → ℕ → ℕ → Core → List Item → Outcome
ask_of w x d core items =
    let reaction = ask core d in
    if may_ask core d
    then unless_full x (ask_full core)
    (Next (done_by w x reaction items) (Sent reaction.effect (copies w x (reaction.effect).cast)))
    else Idle

-- what is done if there is such a node: else the event is idle
abbrev pub at_node : Option Node → (Core → List Item → Outcome) → Outcome
at_node None f = Idle
at_node (Some n) f = f n.core n.queue

-- what is done if there is such a copy: else the event is idle
abbrev pub at_copy : Option Copy → (Copy → Outcome) → Outcome
at_copy None f = Idle
at_copy (Some c) f = f c

-- the link between a and b stands, now and among those that ever stood
abbrev pub with_link : World → ℕ → ℕ → World
with_link w a b = record w {
  links = sets.insert w.links (pair a b);
  ever = sets.insert w.ever (pair a b);
}

-- the link between a and b doesn't stand any more
abbrev pub without_link : World → ℕ → ℕ → World
without_link w a b = record w { links = sets.remove w.links (pair a b) }

-- the copy of that id isn't in flight any more
abbrev pub without_copy : World → ℕ → World
without_copy w id = record w { flying = without w.flying id }

-- the message is a data packet
abbrev pub is_parcel : Message → Bool
is_parcel (Pkt body d o) = true
is_parcel (Rreq m) = false
is_parcel (Rrep m) = false
is_parcel (Rerr dests) = false

-- one more copy like c, with the next id
abbrev pub double_of : World → Copy → Copy
double_of w c = record c { id = w.next_copy }

-- the world with one more copy like c in flight
abbrev pub with_double : World → Copy → World
with_double w c = record w { flying = w.flying ++ double_of w c ∷ []; next_copy = w.next_copy + 1 }

-- one event
unfoldable pub step : World → Event → Outcome
step w (Give x d b) =
    at_node (slice_get w.nodes x) (λ core queue. Next (push w x (New b d)) Changed)
step w (Turn x) = at_node (slice_get w.nodes x) (turn_of w x)
step w (Send x d) = at_node (slice_get w.nodes x) (send_of w x d)
step w (Ask x d) = at_node (slice_get w.nodes x) (ask_of w x d)
step w (Link a b) = if are_linked w.links a b then Idle else Next (with_link w a b) Changed
step w (Cut a b) = if are_linked w.links a b then Next (without_link w a b) Changed else Idle
step w (Deliver id) =
    at_copy (find_copy w.flying id)
    (λ c. Next (push (without_copy w id) c.to (Heard c.from c.message)) (CopyHeard c.from c.to))
step w (Lose id) = at_copy (find_copy w.flying id) (λ c. Next (without_copy w id) (CopyLost c))
step w (Double id) =
    at_copy (find_copy w.flying id)
    (λ c. Next (with_double w c) (CopyDoubled w.next_copy c.to (is_parcel c.message)))

-- ---- runs

-- the world after an event: as before it, if the event is idle or refused
abbrev pub after : World → Outcome → World
after w Idle = w
after w (Full x f) = w
after w (Next w' world_effect) = w'

-- the world after a list of events
unfoldable pub run : World → List Event → World
run w [] = w
run w (e ∷ es) = run (after w (step w e)) es

-- nodes that have done nothing yet, with addresses from ip on
abbrev pub openings : Variant → ℕ → List ℕ → List Node
openings variant ip [] = []
openings variant ip (first ∷ firsts) =
    record { core = opening variant ip first; queue = [] } ∷ openings variant (ip + 1) firsts

-- the opening world of nodes of one variant with these first sequence numbers
unfoldable pub start : Variant → List ℕ → World
start variant firsts = record {
  nodes = openings variant 0 firsts;
  links = sets.empty;
  ever = sets.empty;
  flying = [];
  next_copy = 1;
}

-- the first sequence numbers of a mesh's nodes
abbrev pub first_numbers : meshes.Nodes → List ℕ
first_numbers mesh = map (λ p. p.1) mesh

-- the first sequence numbers that a mesh may have: 1 to 200 of them, each from 1 to the greatest
pub record AreFirstNumbers (firsts : List ℕ) : Type 0 where
  pub some : 1 ≤ length firsts
  pub few : length firsts ≤ MOST_NODES
  pub numbers : AllByRecursion (λ n. (1 ≤ n) × (n ≤ greatest)) firsts
