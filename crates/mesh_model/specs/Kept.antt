-- The walks that are kept as lists, and what each event does to them. A list has its holder first
-- and its destination last. A node that hears a request or a reply gets its list too, and so knows
-- the way that its new route goes.
use Rattle.std.specs.Prelude.{ℕ, ◌+◌, ◌==◌, Bool, false, ◌&&◌, nat_le, if◌then◌else◌, Option, Some, None, List, [], ◌∷◌, ◌++◌, drop, slice_get}
use Rattle.std.specs.FinMap as maps
use Rattle.aodv_model.specs.declared.entry.Entry.{Entry}
use Rattle.aodv_model.specs.Tables.{Table}
use Rattle.aodv_model.specs.Cores.{Message, Pkt, Rreq, Rrep, Rerr, Item, New, Heard}
use Rattle.mesh_model.specs.Walks.{table}
use Rattle.mesh_model.specs.Worlds as worlds
use Rattle.mesh_model.specs.Worlds.{World, Node, Copy, Event, Give, Turn, Send, Ask, Link, Cut, Deliver, Lose, Double, Outcome, Idle, Next, WorldEffect, Changed, Taken, Sent, CopyHeard, CopyLost, CopyDoubled, is_parcel, step}

-- the lists of each node's entry for each destination; of the items of each node's queue; and of
-- the copy of each id. The list of an item or a copy that is no request or reply, of an entry that
-- isn't valid, and of a copy that isn't in flight says nothing
pub record KeptLists : Type 0 where
  pub entries : ℕ → ℕ → List ℕ
  pub queues : ℕ → List (List ℕ)
  pub flying : ℕ → List ℕ

-- no lists yet
abbrev pub nothing_kept : KeptLists
nothing_kept = record { entries = λ x d. []; queues = λ x. []; flying = λ id. [] }

-- ---- changes

-- v at x, and elsewhere as before
abbrev pub changed_at : {A : Type 0} → (ℕ → A) → ℕ → A → ℕ → A
changed_at f x v y = if y == x then v else f y

-- this list from that id on, and the lists before that id as they were
abbrev pub from_id_on : (ℕ → List ℕ) → ℕ → List ℕ → ℕ → List ℕ
from_id_on flying first list id = if nat_le first id then list else flying id

-- the first of the lists
abbrev pub first_list : List (List ℕ) → List ℕ
first_list [] = []
first_list (l ∷ ls) = l

-- ---- what a node learns

-- q is the neighbour y, and the entry for q leads to it directly
abbrev pub is_near : ℕ → ℕ → Entry → Bool
is_near y q e = (q == y) && ((e.hops == 1) && (e.next == y))

-- q is d, and the entry for q has number n, one hop more than h, and next hop y
abbrev pub is_route : ℕ → ℕ → ℕ → ℕ → ℕ → Entry → Bool
is_route y d n h q e = (q == d) && ((e.dsn == n) && ((e.hops == h + 1) && (e.next == y)))

-- the entry for q is the route that a message from y announces: a request announces one to its
-- originator, a reply one to its destination
abbrev pub is_announced : ℕ → Message → ℕ → Entry → Bool
is_announced y (Pkt b d o) q e = false
is_announced y (Rreq m) q e = is_route y m.oip m.osn m.hops q e
is_announced y (Rrep m) q e = is_route y m.dip m.dsn m.hops q e
is_announced y (Rerr dests) q e = false

-- the list of this entry of x for q, once x has heard m with list l from y: x and y, if q is y and
-- the entry leads to it directly; else l with x in front, if the entry is the route that m
-- announced; else the list that it had
abbrev pub entry_list : ℕ → ℕ → Message → List ℕ → ℕ → List ℕ → Option Entry → List ℕ
entry_list x y m l q kept None = kept
entry_list x y m l q kept (Some e) =
    if is_near y q e then x ∷ y ∷ [] else if is_announced y m q e then x ∷ l else kept

-- the lists of x's entries after that, when its table is `now`; data teach nothing
abbrev pub entries_after : ℕ → ℕ → Message → List ℕ → Table → (ℕ → List ℕ) → ℕ → List ℕ
entries_after x y m l now kept q =
    if is_parcel m then kept q else entry_list x y m l q (kept q) (maps.get now q)

-- ---- what a node casts

-- the list of a reply by which x answers a request, or which x passes on: x alone if the request is
-- for x, else that of x's entry for the destination
abbrev pub reply_list : ℕ → (ℕ → List ℕ) → Message → List ℕ
reply_list x entries (Pkt b d o) = []
reply_list x entries (Rreq m) = if m.dip == x then x ∷ [] else entries m.dip
reply_list x entries (Rrep m) = entries m.dip
reply_list x entries (Rerr dests) = []

-- the list of a message that x, with these lists of its entries, casts after it heard one with list
-- l: a request that it passes on has x in front
abbrev pub sent_list : ℕ → (ℕ → List ℕ) → Message → List ℕ → Message → List ℕ
sent_list x entries heard l (Pkt b d o) = []
sent_list x entries heard l (Rreq m) = x ∷ l
sent_list x entries heard l (Rrep m) = reply_list x entries heard
sent_list x entries heard l (Rerr dests) = []

-- the list of a message that x casts of its own accord: of a request, x alone
abbrev pub own_list : ℕ → Message → List ℕ
own_list x (Pkt b d o) = []
own_list x (Rreq m) = x ∷ []
own_list x (Rrep m) = []
own_list x (Rerr dests) = []

-- the copies of a cast all have the list of its message
abbrev pub with_copies : (ℕ → List ℕ) → (Message → List ℕ) → List Copy → ℕ → List ℕ
with_copies flying list [] = flying
with_copies flying list (c ∷ cs) = from_id_on flying c.id (list c.message)

-- ---- events

-- the lists once x has taken this item from the front of its queue and made these copies, and its
-- table is `now`
abbrev pub after_item : ℕ → Table → Item → List Copy → KeptLists → KeptLists
after_item x now (New b d) copies k =
    record k {
      queues = changed_at k.queues x (drop 1 (k.queues x));
      flying = with_copies k.flying
          (own_list x) copies;
    }
after_item x now (Heard y m) copies k =
    let l = first_list (k.queues x) in
    let entries = entries_after x y m l now (k.entries x) in
    record {
      entries = changed_at k.entries x entries;
      queues = changed_at k.queues x (drop 1 (k.queues x));
      flying = with_copies k.flying (sent_list x entries m l) copies;
    }

-- the lists once x has taken the front of this queue
abbrev pub after_front : ℕ → Table → List Item → List Copy → KeptLists → KeptLists
after_front x now [] copies k = k
after_front x now (item ∷ items) copies k = after_item x now item copies k

abbrev pub after_turn : ℕ → Table → Option Node → List Copy → KeptLists → KeptLists
after_turn x now None copies k = k
after_turn x now (Some n) copies k = after_front x now n.queue copies k

-- the copies that were made
abbrev pub copies_in : WorldEffect → List Copy
copies_in (Taken taken effect copies) = copies
copies_in (Sent effect copies) = copies
copies_in others = []

-- the list joins those of x's queue
abbrev pub with_item : KeptLists → ℕ → List ℕ → KeptLists
with_item k x l = record k { queues = changed_at k.queues x (k.queues x ++ l ∷ []) }

-- a copy is heard with its list
abbrev pub after_delivery : ℕ → WorldEffect → KeptLists → KeptLists
after_delivery id (CopyHeard from to) k = with_item k to (k.flying id)
after_delivery id others k = k

-- the second copy of a doubling has the list of the first
abbrev pub after_doubling : ℕ → WorldEffect → KeptLists → KeptLists
after_doubling id (CopyDoubled new to parcel) k =
    record k { flying = from_id_on k.flying new (k.flying id) }
after_doubling id others k = k

-- the lists after an event that led from the world w to the world w'
abbrev pub after_event : World → World → Event → WorldEffect → KeptLists → KeptLists
after_event w w' (Give x d b) h k = with_item k x []
after_event w w' (Turn x) h k = after_turn x (table w' x) (slice_get w.nodes x) (copies_in h) k
after_event w w' (Send x d) h k =
    record k { flying = with_copies k.flying (own_list x) (copies_in h) }
after_event w w' (Ask x d) h k =
    record k { flying = with_copies k.flying (own_list x) (copies_in h) }
after_event w w' (Link a b) h k = k
after_event w w' (Cut a b) h k = k
after_event w w' (Deliver id) h k = after_delivery id h k
after_event w w' (Lose id) h k = k
after_event w w' (Double id) h k = after_doubling id h k

-- an event that is idle or refused changes none
abbrev pub walked_by : World → Event → Outcome → KeptLists → KeptLists
walked_by w e Idle k = k
walked_by w e (worlds.Full x f) k = k
walked_by w e (Next w' h) k = after_event w w' e h k

-- the lists after an event
unfoldable pub lists_after : World → Event → KeptLists → KeptLists
lists_after w e k = walked_by w e (step w e) k
