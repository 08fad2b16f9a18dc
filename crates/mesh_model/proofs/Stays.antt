-- What holds of lists in a world holds of them in a later one.
use Rattle.std.proofs.Common.{◌≡◌, ℕ, true, List, [], ◌∷◌, ◌++◌, sym, ◌∙◌, subst}
use Rattle.std.specs.List.{AllByRecursion}
use Rattle.aodv_model.specs.Cores.{Heard, Item, Message, New, Pkt, Rerr, RouteRequest, Rrep, Rreq, has_seen}
use Rattle.aodv_model.specs.Handlers.{key_of}
use Rattle.aodv_model.specs.Tables.{Table}
use Rattle.mesh_model.proofs.Lists.{each_map}
use Rattle.mesh_model.proofs.TrailTables.{Later, trail_stays}
use Rattle.mesh_model.specs.Trails.{Around}
use Rattle.mesh_model.specs.Worlds.{Copy, Node}
use Rattle.mesh_model.specs.Held.{CopyHolds, EntriesHold, IsEntryWalk, ItemHolds, ItemsHold, MessageHolds, NodeHolds}

-- the nodes that have seen a request have still seen it
pub keys_stay : (a b : Around) → Later a b → (m : RouteRequest) (xs : List ℕ) → AllByRecursion (λ z. has_seen (a.seen z) (key_of a.variant m) ≡ true) xs → AllByRecursion (λ z. has_seen (b.seen z) (key_of b.variant m) ≡ true) xs
keys_stay a b later m xs keys = each_map (λ z. has_seen (a.seen z) (key_of a.variant m) ≡ true) (λ z. has_seen (b.seen z) (key_of b.variant m) ≡ true)
    (λ z e. subst (λ v. has_seen (b.seen z) (key_of v m) ≡ true) (sym later.variant) (later.seen z _ e)) xs keys

held_stays : (a b : Around) → Later a b → (x d n h y : ℕ) (walk : List ℕ) → IsEntryWalk a x d n h y walk → IsEntryWalk b x d n h y walk
held_stays a b later x d n h y walk t = record { others = t.others; is = t.is; backed = trail_stays a b later d n (y ∷ t.others) t.backed; long = t.long; linked = later.ever _ t.linked; absent = t.absent }

pub entries_stay : (a b : Around) → Later a b → (x : ℕ) (rt : Table) (walks : ℕ → List ℕ) → EntriesHold a x rt walks → EntriesHold b x rt walks
entries_stay a b later x rt walks all d e is valid = held_stays a b later x d e.dsn e.hops e.next (walks d) (all d e is valid)

pub message_stays : (a b : Around) → Later a b → (from : ℕ) (m : Message) (walk : List ℕ) → MessageHolds a from m walk → MessageHolds b from m walk
message_stays a b later from (Pkt x d o) walk t = tt
message_stays a b later from (Rreq m) walk t = record {
  others = t.others;
  is = t.is;
  backed = trail_stays a b later m.oip m.osn (from ∷ t.others) t.backed;
  long = t.long;
  keys = keys_stay a b later m (from ∷ t.others) t.keys;
}
message_stays a b later from (Rrep m) walk t = record { others = t.others; is = t.is; backed = trail_stays a b later m.dip m.dsn (from ∷ t.others) t.backed; long = t.long }
message_stays a b later from (Rerr dests) walk t = tt

item_stays : (a b : Around) → Later a b → (x : ℕ) (item : Item) (walk : List ℕ) → ItemHolds a x item walk → ItemHolds b x item walk
item_stays a b later x (New y d) walk t = tt
item_stays a b later x (Heard from m) walk t = (later.ever _ t.0, message_stays a b later from m walk t.1)

pub items_stay : (a b : Around) → Later a b → (x : ℕ) (items : List Item) (walks : List (List ℕ)) → ItemsHold a x items walks → ItemsHold b x items walks
items_stay a b later x [] [] t = tt
items_stay a b later x [] (walk ∷ walks) t = t
items_stay a b later x (item ∷ items) [] t = t
items_stay a b later x (item ∷ items) (walk ∷ walks) t = (item_stays a b later x item walk t.0, items_stay a b later x items walks t.1)

pub items_more : (a : Around) (x : ℕ) (items : List Item) (walks : List (List ℕ)) (item : Item) (walk : List ℕ) → ItemsHold a x items walks → ItemHolds a x item walk → ItemsHold a x (items ++ item ∷ []) (walks ++ walk ∷ [])
items_more a x [] [] item walk t more = (more, tt)
items_more a x [] (w ∷ ws) item walk t more = absurd t
items_more a x (i ∷ is) [] item walk t more = absurd t
items_more a x (i ∷ is) (w ∷ ws) item walk t more = (t.0, items_more a x is ws item walk t.1 more)

pub node_stays : (a b : Around) → Later a b → (x : ℕ) (n : Node) (walks : ℕ → List ℕ) (lists : List (List ℕ)) → NodeHolds a x n walks lists → NodeHolds b x n walks lists
node_stays a b later x n walks lists t = record { variant = t.variant ∙ sym later.variant; entries = entries_stay a b later x (n.core).rt walks t.entries; queue = items_stay a b later x n.queue lists t.queue }

-- a copy whose list is the same
pub copy_stays : (a b : Around) → Later a b → (old now : ℕ → List ℕ) (c : Copy) → now c.id ≡ old c.id → CopyHolds a old c → CopyHolds b now c
copy_stays a b later old now c same t = (later.ever _ t.0, subst (MessageHolds b c.from c.message) (sym same) (message_stays a b later c.from c.message (old c.id) t.1))
