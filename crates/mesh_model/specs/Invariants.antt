-- What holds of every world of every run, and why its routes have no cycle.
-- Along the valid routes for a destination the next node, unless it is the destination, knows more:
-- its number is greater, or equal with fewer hops. What a message said when it was sent stays true
-- of its sender. So around a cycle each step would lead to a greater number, or to an equal one
-- with fewer hops, which can't be.
use Rattle.std.specs.Prelude.{◌≡◌, ◌≢◌, ℕ, ◌-◌, ◌<◌, ◌≤◌, ◌⊎◌, Some, slice_get, ⊤}
use Rattle.std.specs.List.{AllByRecursion}
use Rattle.std.specs.FinMap as maps
use Rattle.aodv_model.specs.declared.entry.Entry.{Entry}
use Rattle.aodv_model.specs.declared.entry.Flag.TheVariants.{Val}
use Rattle.aodv_model.specs.Tables.{Table}
use Rattle.aodv_model.specs.Cores.{RouteRequest, RouteReply, Message, Pkt, Rreq, Rrep, Rerr, Item, New, Heard}
use Rattle.aodv_model.specs.Soundness.{HasSoundNumbers}
use Rattle.mesh_model.specs.Worlds.{World, Node, Copy}
use Rattle.mesh_model.specs.Walks.{table}
use Rattle.mesh_model.specs.InMesh.{IsInMesh}

-- the entry's number is above n; or it is n, and the entry is valid with at most h hops
abbrev pub IsAtLeast : Entry → ℕ → ℕ → Type 0
IsAtLeast e n h = (n < e.dsn) ⊎ ((e.dsn ≡ n) × (e.flag ≡ Val) × (e.hops ≤ h))

-- the table has such an entry for d
pub record AtLeast (rt : Table) (d n h : ℕ) : Type 0 where
  pub entry : Entry
  pub there : maps.get rt d ≡ Some entry
  pub enough : IsAtLeast entry n h

-- ---- what a request or a reply says of its sender's table

-- a request's number of its originator isn't 0; and if the originator isn't the sender, the
-- sender's table has at least what the request says
abbrev pub IsHonestRequest : Table → ℕ → RouteRequest → Type 0
IsHonestRequest rt from m = (1 ≤ m.osn) × (from ≢ m.oip → AtLeast rt m.oip m.osn m.hops)

-- a reply's number of its destination isn't 0; and if the destination isn't the sender, the
-- sender's table has at least what the reply says
abbrev pub IsHonestReply : Table → ℕ → RouteReply → Type 0
IsHonestReply rt from m = (1 ≤ m.dsn) × (from ≢ m.dip → AtLeast rt m.dip m.dsn m.hops)

-- a message is honest: data and route errors say nothing of their sender's table
abbrev pub IsHonest : Table → ℕ → Message → Type 0
IsHonest rt from (Pkt b d o) = ⊤
IsHonest rt from (Rreq m) = IsHonestRequest rt from m
IsHonest rt from (Rrep m) = IsHonestReply rt from m
IsHonest rt from (Rerr dests) = ⊤

-- an item of a queue is honest, by the tables of all nodes
abbrev pub IsHonestItem : (ℕ → Table) → Item → Type 0
IsHonestItem tables (New b d) = ⊤
IsHonestItem tables (Heard from m) = IsHonest (tables from) from m

-- a copy in flight is honest
abbrev pub IsHonestCopy : (ℕ → Table) → Copy → Type 0
IsHonestCopy tables c = IsHonest (tables c.from) c.from c.message

-- ---- what an entry says of its next hop's table

-- if the entry for d is valid and its next hop isn't d, the next hop's entry for d has a greater
-- number; or it has the same, is valid, and has at most `e.hops - 1` hops
abbrev pub IsBacked : (ℕ → Table) → ℕ → Entry → Type 0
IsBacked tables d e = e.flag ≡ Val → e.next ≢ d → AtLeast (tables e.next) d e.dsn (e.hops - 1)

-- each entry of the table is backed
abbrev pub AllBacked : (ℕ → Table) → Table → Type 0
AllBacked tables rt = (d : ℕ) (e : Entry) → maps.get rt d ≡ Some e → IsBacked tables d e

-- ---- the invariant

-- a node: its numbers are sound, its entries are backed, and what is in its queue is honest
pub record IsLoopSafeNode (tables : ℕ → Table) (n : Node) : Type 0 where
  pub numbers : HasSoundNumbers n.core
  pub entries : AllBacked tables (n.core).rt
  pub queue : AllByRecursion (IsHonestItem tables) n.queue

-- what excludes cycles: each node's numbers are sound; each valid entry is backed by its next hop;
-- each request and reply in a queue or in flight is honest; and node x has the address x
pub record IsLoopSafe (w : World) : Type 0 where
  pub nodes : (x : ℕ) (n : Node) → slice_get w.nodes x ≡ Some n → IsLoopSafeNode (table w) n
  pub flying : AllByRecursion (IsHonestCopy (table w)) w.flying
  pub named : (x : ℕ) (n : Node) → slice_get w.nodes x ≡ Some n → (n.core).ip ≡ x

-- what holds of every world of every run
pub record IsInvariant (w : World) : Type 0 where
  pub loop_safe : IsLoopSafe w
  pub in_mesh : IsInMesh w
