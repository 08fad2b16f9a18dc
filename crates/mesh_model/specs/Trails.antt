-- Honest walks: the links over which a route came. They bound the hops of every valid entry by the
-- number of nodes.
use Rattle.std.specs.Prelude.{◌≡◌, ◌≢◌, ℕ, ◌+◌, ◌≤◌, ◌==◌, true, List, [], ◌∷◌, length, Option, Some, None, slice_get, ⊤}
use Rattle.std.specs.List.{AllByRecursion, IsDistinct}
use Rattle.std.specs.FinMap as maps
use Rattle.std.specs.FinSet as sets
use Rattle.mesh_base.specs.declared.events.Variant.{Variant}
use Rattle.aodv_model.specs.declared.entry.Entry.{Entry}
use Rattle.aodv_model.specs.declared.entry.Flag.TheVariants.{Val}
use Rattle.aodv_model.specs.Pairs.{Pairs}
use Rattle.aodv_model.specs.Tables.{Table}
use Rattle.aodv_model.specs.Cores.{Message, Pkt, Rreq, Rrep, Rerr, Item, New, Heard, SeenRequests, has_seen}
use Rattle.aodv_model.specs.Handlers.{key_of}
use Rattle.mesh_model.specs.Worlds.{World, Node, Copy, are_linked}
use Rattle.mesh_model.specs.Walks.{table, last}
use Rattle.mesh_model.specs.Invariants.{AtLeast}

-- every two neighbours in the list have been linked at some time
abbrev pub HaveStood : Pairs → List ℕ → Type 0
HaveStood ever [] = ⊤
HaveStood ever (x ∷ []) = ⊤
HaveStood ever (x ∷ (y ∷ ys)) = (are_linked ever x y ≡ true) × HaveStood ever (y ∷ ys)

-- an honest walk of x for d with h hops: h + 1 nodes from d to x. Every two neighbours have been
-- linked at some time, and the nodes after the first are all different
abbrev pub IsHonestWalk : Pairs → ℕ → ℕ → ℕ → List ℕ → Type 0
IsHonestWalk ever x d h [] = ⊥
IsHonestWalk ever x d h (first ∷ others) =
    (first ≡ d) × (last first others ≡ x) × (length others ≡ h) × HaveStood ever (first ∷ others)
    × IsDistinct (λ a b. a == b) others

-- there is an honest walk over the links of the world
pub record HonestWalk (w : World) (x d h : ℕ) : Type 0 where
  pub walk : List ℕ
  pub honest : IsHonestWalk w.ever x d h walk

-- ---- what each step keeps, so that each valid entry has an honest walk.
-- Here a walk has its holder first and its destination last, so that a node that takes a route puts
-- itself in front.

-- all but the last
abbrev pub front : List ℕ → List ℕ
front [] = []
front (x ∷ []) = []
front (x ∷ (y ∷ ys)) = x ∷ front (y ∷ ys)

-- x is not in the list
abbrev pub IsAbsent : ℕ → List ℕ → Type 0
IsAbsent x zs = AllByRecursion (λ z. x ≢ z) zs

-- what walks refer to: the variant, the tables, the requests that each node has seen, and the links
-- that ever stood
pub record Around : Type 0 where
  pub variant : Variant
  pub tables : ℕ → Table
  pub seen : ℕ → SeenRequests
  pub ever : Pairs

-- a walk to d, its holder first: neighbours have been linked; the nodes before the last are all
-- different; and each of them has at least the number n, which isn't 0, with as many hops as nodes
-- come after it
abbrev pub IsBackedWalk : Around → ℕ → ℕ → List ℕ → Type 0
IsBackedWalk a d n [] = ⊥
IsBackedWalk a d n (x ∷ []) = x ≡ d
IsBackedWalk a d n (x ∷ (y ∷ ys)) =
    (are_linked a.ever y x ≡ true) × (1 ≤ n) × AtLeast (a.tables x) d n (length (y ∷ ys))
    × IsAbsent x (front (y ∷ ys)) × IsBackedWalk a d n (y ∷ ys)

-- the walk of x's entry for d with number n, h hops and next hop y: a walk of y, in which x isn't
-- before the last node
pub record HasEntryWalk (a : Around) (x d n h y : ℕ) : Type 0 where
  pub others : List ℕ
  pub walk : IsBackedWalk a d n (y ∷ others)
  pub long : length (y ∷ others) ≡ h
  pub linked : are_linked a.ever y x ≡ true
  pub absent : IsAbsent x (front (y ∷ others))

-- a valid entry has its walk
abbrev pub EntryHasWalk : Around → ℕ → ℕ → Entry → Type 0
EntryHasWalk a x d e = e.flag ≡ Val → HasEntryWalk a x d e.dsn e.hops e.next

-- each valid entry of the table of x has its walk
abbrev pub EntriesHaveWalks : Around → ℕ → Table → Type 0
EntriesHaveWalks a x rt = (d : ℕ) (e : Entry) → maps.get rt d ≡ Some e → EntryHasWalk a x d e

-- the walk of a reply with number n and h hops: a walk of its sender
pub record HasReplyWalk (a : Around) (from d n h : ℕ) : Type 0 where
  pub others : List ℕ
  pub walk : IsBackedWalk a d n (from ∷ others)
  pub long : length (from ∷ others) ≡ h + 1

-- the walk of a request: a walk of its sender, each of whose nodes has seen the request
pub record HasRequestWalk (a : Around) (from d n h : ℕ) (key : ℕ × ℕ) : Type 0 where
  pub others : List ℕ
  pub walk : IsBackedWalk a d n (from ∷ others)
  pub long : length (from ∷ others) ≡ h + 1
  pub keys : AllByRecursion (λ z. has_seen (a.seen z) key ≡ true) (from ∷ others)

-- a request or reply has its walk
abbrev pub MessageHasWalk : Around → ℕ → Message → Type 0
MessageHasWalk a from (Pkt b d o) = ⊤
MessageHasWalk a from (Rreq m) = HasRequestWalk a from m.oip m.osn m.hops (key_of a.variant m)
MessageHasWalk a from (Rrep m) = HasReplyWalk a from m.dip m.dsn m.hops
MessageHasWalk a from (Rerr dests) = ⊤

-- an item in the queue of x: if it was heard, its sender has been linked to x
abbrev pub ItemHasWalk : Around → ℕ → Item → Type 0
ItemHasWalk a x (New b d) = ⊤
ItemHasWalk a x (Heard from m) = (are_linked a.ever from x ≡ true) × MessageHasWalk a from m

-- a copy in flight: its two nodes have been linked
abbrev pub CopyHasWalk : Around → Copy → Type 0
CopyHasWalk a c = (are_linked a.ever c.from c.to ≡ true) × MessageHasWalk a c.from c.message

-- the requests that a node has seen
abbrev pub seen_in : Option Node → SeenRequests
seen_in None = sets.empty
seen_in (Some n) = (n.core).seen

-- what walks of this world refer to
abbrev pub around : Variant → World → Around
around variant w = record {
  variant = variant;
  tables = table w;
  seen = λ x. seen_in (slice_get w.nodes x);
  ever = w.ever;
}

-- node x: its variant, the walks of its entries, and those of what is in its queue
pub record NodeHasWalks (a : Around) (x : ℕ) (n : Node) : Type 0 where
  pub variant : (n.core).variant ≡ a.variant
  pub entries : EntriesHaveWalks a x (n.core).rt
  pub queue : AllByRecursion (ItemHasWalk a x) n.queue

-- all nodes have the variant; each valid entry, and each request and reply in a queue or in flight,
-- has a walk; and a link that stands is among those that ever stood
pub record HasWalks (variant : Variant) (w : World) : Type 0 where
  pub nodes : (x : ℕ) (n : Node) → slice_get w.nodes x ≡ Some n
      → NodeHasWalks (around variant w) x n
  pub flying : AllByRecursion (CopyHasWalk (around variant w)) w.flying
  pub stood : (p : ℕ × ℕ) → sets.contains w.links p ≡ true → sets.contains w.ever p ≡ true
