-- What holds of the state of each node, and which messages a node may hear.
-- `size` is the number of nodes of the mesh: node x is in it if x < size.
use Rattle.std.specs.Prelude.{◌≡◌, ◌≢◌, ℕ, ◌<◌, ◌≤◌, true, [], length, Some, IfSome, ⊤}
use Rattle.std.specs.List.{AllByRecursion}
use Rattle.std.specs.FinMap as maps
use Rattle.std.specs.FinSet as sets
use Rattle.mesh_base.specs.declared.limits.TheConstants.{LONGEST_DATUM}
use Rattle.mesh_base.specs.Members.{NodeIds}
use Rattle.aodv_model.specs.declared.entry.Entry.{Entry}
use Rattle.aodv_model.specs.declared.entry.Known.TheVariants.{Kno}
use Rattle.aodv_model.specs.Tables.{Table, Dests, in_kD}
use Rattle.aodv_model.specs.Handlers.{Cast, Nothing, One, Many, All, Effect, Reaction}
use Rattle.aodv_model.specs.Cores.{Body, Message, Pkt, Rreq, Rrep, Rerr, Item, New, Heard, Waiting, Store, Core}

-- ---- numbers

-- an entry for d: it has at least one hop; a known number isn't 0; an entry with number 0 is for a
-- neighbour, by one hop to d itself
pub record HasSoundNumber (d : ℕ) (e : Entry) : Type 0 where
  pub hops : 1 ≤ e.hops
  pub known : e.dsk ≡ Kno → 1 ≤ e.dsn
  pub direct : e.dsn ≡ 0 → (e.hops ≡ 1) × (e.next ≡ d)

-- each entry's number is sound
abbrev pub AllSoundNumbers : Table → Type 0
AllSoundNumbers rt = (d : ℕ) (e : Entry) → maps.get rt d ≡ Some e → HasSoundNumber d e

-- the numbers of a core: its own isn't 0, and those of its entries are sound
pub record HasSoundNumbers (core : Core) : Type 0 where
  pub own : 1 ≤ core.sn
  pub entries : AllSoundNumbers core.rt

-- ---- what is in the mesh

-- every member is in the mesh
abbrev pub AreBelow : ℕ → NodeIds → Type 0
AreBelow size s = (p : ℕ) → sets.contains s p ≡ true → p < size

-- an entry for d of node ip: its next hop is another node of the mesh, for which there is an entry
-- too, and its precursors are in the mesh
pub record IsEntryInMesh (size ip : ℕ) (rt : Table) (d : ℕ) (e : Entry) : Type 0 where
  pub dest : d < size
  pub near : e.next < size
  pub other : e.next ≢ ip
  pub has : in_kD rt e.next ≡ true
  pub pre : AreBelow size e.pre

-- each entry of node ip's table is such an entry
abbrev pub AreEntriesInMesh : ℕ → ℕ → Table → Type 0
AreEntriesInMesh size ip rt =
    (d : ℕ) (e : Entry) → maps.get rt d ≡ Some e → IsEntryInMesh size ip rt d e

-- a table of node ip: the numbers of its entries are sound, and they name nodes of the mesh
pub record IsSoundTable (size ip : ℕ) (rt : Table) : Type 0 where
  pub numbers : AllSoundNumbers rt
  pub in_mesh : AreEntriesInMesh size ip rt

-- what holds of every core in a mesh of this size
pub record IsSoundCore (size : ℕ) (core : Core) : Type 0 where
  pub own : 1 ≤ core.sn
  pub table : IsSoundTable size core.ip core.rt

-- ---- data and messages

-- a datum has 1 to 512 bytes
abbrev pub IsDatum : Body → Type 0
IsDatum b = (1 ≤ length b) × (length b ≤ LONGEST_DATUM)

-- what waits for d: d is in the mesh, and there are data, each of 1 to 512 bytes
pub record IsWaitingInMesh (size d : ℕ) (waiting : Waiting) : Type 0 where
  pub dest : d < size
  pub some : waiting.bodies ≢ []
  pub bodies : AllByRecursion IsDatum waiting.bodies

-- what waits for each destination is such
abbrev pub IsStoreInMesh : ℕ → Store → Type 0
IsStoreInMesh size store =
    (d : ℕ) (waiting : Waiting) → maps.get store d ≡ Some waiting → IsWaitingInMesh size d waiting

-- each destination is in the mesh
abbrev pub AreDestsBelow : ℕ → Dests → Type 0
AreDestsBelow size dests = (d n : ℕ) → maps.get dests d ≡ Some n → d < size

-- what holds of a message of the mesh, whichever node sent it: it names nodes of the mesh only, its
-- datum has 1 to 512 bytes, and neither the number of a request's originator nor that of a reply's
-- destination is 0. The greatest values of its fields are no part of this
abbrev pub IsMessageInMesh : ℕ → Message → Type 0
IsMessageInMesh size (Pkt b d o) = (d < size) × (o < size) × IsDatum b
IsMessageInMesh size (Rreq m) = (m.dip < size) × (m.oip < size) × (1 ≤ m.osn)
IsMessageInMesh size (Rrep m) = (m.dip < size) × (m.oip < size) × (1 ≤ m.dsn)
IsMessageInMesh size (Rerr dests) = AreDestsBelow size dests

-- an item in the queue of node x: a datum, or a message from another node of the mesh
abbrev pub IsItemInMesh : ℕ → ℕ → Item → Type 0
IsItemInMesh size x (New b d) = (d < size) × IsDatum b
IsItemInMesh size x (Heard from m) = (from < size) × (from ≢ x) × IsMessageInMesh size m

-- what is cast is such a message
abbrev pub IsCastInMesh : ℕ → Cast → Type 0
IsCastInMesh size Nothing = ⊤
IsCastInMesh size (One y m) = IsMessageInMesh size m
IsCastInMesh size (Many s m) = IsMessageInMesh size m
IsCastInMesh size (All m) = IsMessageInMesh size m

-- a cast to one node or to a set names nodes of the mesh only
abbrev pub IsAimed : ℕ → Cast → Type 0
IsAimed size Nothing = ⊤
IsAimed size (One y m) = y < size
IsAimed size (Many s m) = AreBelow size s
IsAimed size (All m) = ⊤

-- the whole effect names nodes of the mesh only: the next hop that wasn't reached is one too
pub record IsEffectInMesh (size : ℕ) (e : Effect) : Type 0 where
  pub broken : IfSome e.broken (λ y. y < size)
  pub cast : IsAimed size e.cast

-- a reaction of node ip leaves its core and its store in order, and casts only such a message
pub record IsSoundReaction (size ip : ℕ) (reaction : Reaction) : Type 0 where
  pub named : (reaction.core).ip ≡ ip
  pub core : IsSoundCore size reaction.core
  pub store : IsStoreInMesh size (reaction.core).store
  pub cast : IsCastInMesh size (reaction.effect).cast
