-- That the lists which are kept are walks: those of each valid entry, and of each request and reply
-- in a queue or in flight.
use Rattle.std.specs.Prelude.{◌≡◌, ℕ, ◌+◌, true, List, [], ◌∷◌, length, Some, slice_get, ⊤}
use Rattle.std.specs.List.{AllByRecursion}
use Rattle.std.specs.FinMap as maps
use Rattle.std.specs.FinSet as sets
use Rattle.mesh_base.specs.declared.events.Variant.{Variant}
use Rattle.aodv_model.specs.declared.entry.Entry.{Entry}
use Rattle.aodv_model.specs.declared.entry.Flag.TheVariants.{Val}
use Rattle.aodv_model.specs.Tables.{Table}
use Rattle.aodv_model.specs.Cores.{Message, Pkt, Rreq, Rrep, Rerr, Item, New, Heard, has_seen}
use Rattle.aodv_model.specs.Handlers.{key_of}
use Rattle.mesh_model.specs.Worlds.{World, Node, Copy, are_linked}
use Rattle.mesh_model.specs.Trails.{Around, IsAbsent, IsBackedWalk, around, front}
use Rattle.mesh_model.specs.Kept.{KeptLists}

-- the list is the walk of x's entry for d with number n, h hops and next hop y: x, and then a walk
-- of y, in which x isn't before the last node
pub record IsEntryWalk (a : Around) (x d n h y : ℕ) (walk : List ℕ) : Type 0 where
  pub others : List ℕ
  pub is : walk ≡ x ∷ (y ∷ others)
  pub backed : IsBackedWalk a d n (y ∷ others)
  pub long : length (y ∷ others) ≡ h
  pub linked : are_linked a.ever y x ≡ true
  pub absent : IsAbsent x (front (y ∷ others))

-- the list of a valid entry is its walk
abbrev pub EntryHolds : Around → ℕ → ℕ → Entry → List ℕ → Type 0
EntryHolds a x d e walk = e.flag ≡ Val → IsEntryWalk a x d e.dsn e.hops e.next walk

-- the list of each valid entry of the table of x is its walk
abbrev pub EntriesHold : Around → ℕ → Table → (ℕ → List ℕ) → Type 0
EntriesHold a x rt walks =
    (d : ℕ) (e : Entry) → maps.get rt d ≡ Some e → EntryHolds a x d e (walks d)

-- the list is the walk of a reply with number n and h hops: a walk of its sender
pub record IsReplyWalk (a : Around) (from d n h : ℕ) (walk : List ℕ) : Type 0 where
  pub others : List ℕ
  pub is : walk ≡ from ∷ others
  pub backed : IsBackedWalk a d n (from ∷ others)
  pub long : length (from ∷ others) ≡ h + 1

-- the list is the walk of a request: a walk of its sender, each of whose nodes has seen the request
pub record IsRequestWalk (a : Around) (from d n h : ℕ) (key : ℕ × ℕ) (walk : List ℕ) : Type 0 where
  pub others : List ℕ
  pub is : walk ≡ from ∷ others
  pub backed : IsBackedWalk a d n (from ∷ others)
  pub long : length (from ∷ others) ≡ h + 1
  pub keys : AllByRecursion (λ z. has_seen (a.seen z) key ≡ true) (from ∷ others)

-- the list of a request or a reply is its walk
abbrev pub MessageHolds : Around → ℕ → Message → List ℕ → Type 0
MessageHolds a from (Pkt b d o) walk = ⊤
MessageHolds a from (Rreq m) walk =
    IsRequestWalk a from m.oip m.osn m.hops (key_of a.variant m) walk
MessageHolds a from (Rrep m) walk = IsReplyWalk a from m.dip m.dsn m.hops walk
MessageHolds a from (Rerr dests) walk = ⊤

-- the list of an item in the queue of x is its walk, and its sender has been linked to x
abbrev pub ItemHolds : Around → ℕ → Item → List ℕ → Type 0
ItemHolds a x (New b d) walk = ⊤
ItemHolds a x (Heard from m) walk = (are_linked a.ever from x ≡ true) × MessageHolds a from m walk

-- there are as many lists as items in the queue of x, and each is the walk of its item
abbrev pub ItemsHold : Around → ℕ → List Item → List (List ℕ) → Type 0
ItemsHold a x [] [] = ⊤
ItemsHold a x [] (walk ∷ walks) = ⊥
ItemsHold a x (item ∷ items) [] = ⊥
ItemsHold a x (item ∷ items) (walk ∷ walks) = ItemHolds a x item walk × ItemsHold a x items walks

-- the list of a copy in flight is its walk, and its two nodes have been linked
abbrev pub CopyHolds : Around → (ℕ → List ℕ) → Copy → Type 0
CopyHolds a walks c =
    (are_linked a.ever c.from c.to ≡ true) × MessageHolds a c.from c.message (walks c.id)

-- node x: its variant, the walks of its entries, and those of what is in its queue
pub record NodeHolds (a : Around) (x : ℕ) (n : Node) (walks : ℕ
    → List ℕ) (lists : List (List ℕ)) : Type 0 where
  pub variant : (n.core).variant ≡ a.variant
  pub entries : EntriesHold a x (n.core).rt walks
  pub queue : ItemsHold a x n.queue lists

-- all nodes have the variant; the lists are the walks of each valid entry, and of each request and
-- reply in a queue or in flight; and a link that stands is among those that ever stood
pub record Holds (variant : Variant) (w : World) (k : KeptLists) : Type 0 where
  pub nodes : (x : ℕ) (n : Node) → slice_get w.nodes x ≡ Some n
      → NodeHolds (around variant w) x n (k.entries x) (k.queues x)
  pub flying : AllByRecursion (CopyHolds (around variant w) k.flying) w.flying
  pub stood : (p : ℕ × ℕ) → sets.contains w.links p ≡ true → sets.contains w.ever p ≡ true
