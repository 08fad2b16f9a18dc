-- How the code keeps copies in flight: casts by the ids of their first copies. No public contract
-- cites this file.
use Rattle.std.specs.Prelude.{◌≡◌, ℕ, ◌+◌, ◌-◌, ◌^◌, ◌<◌, ◌≤◌, Bool, true, nat_le, nat_lt, ◌⊎◌, take, if◌then◌else◌, Option, Some, None, List, [], ◌∷◌, ◌++◌, length, slice_get, slice_index, unwrap_or, is_some, IfSome}
use Rattle.std.specs.Bool.{OnTrue}
use Rattle.std.specs.List.{AllByRecursion}
use Rattle.std.specs.FinSet.{contains, remove}
use Rattle.mesh_base.specs.Members.{NodeIds, member_list, rank}
use Rattle.mesh_base.specs.declared.events.Flying.{Flying}
use Rattle.mesh_radio.specs.Copies.{data_in}
use Rattle.mesh_radio.specs.Kept.{copies_in}
use Rattle.mesh_radio.specs.declared.casts.Cast.{Cast}
use Rattle.mesh_radio.specs.declared.casts.Least.{Least}

-- a cast, with the id of its first copy
abbrev pub Entry : Type 0
Entry = ℕ × Cast

-- how many copies a cast made
abbrev pub size : Cast → ℕ
size c = length (member_list c.to)

-- how many copies of the cast are before the one to this receiver
abbrev pub copies_before : Cast → ℕ → ℕ
copies_before c to = rank c.to to

-- the copy of that id to that receiver, if it still flies
abbrev pub slot : Cast → ℕ → ℕ → Option Flying
slot c id to =
    if contains c.left to then Some (record { id = id; from = c.from; to = to; bytes = c.bytes })
    else None

-- a slot for each of these receivers, with ids that rise from `id` on
abbrev pub slots_of : Cast → ℕ → List ℕ → List (Option Flying)
slots_of c id [] = []
slots_of c id (to ∷ tos) = slot c id to ∷ slots_of c (id + 1) tos

abbrev pub slots_at : Entry → List (Option Flying)
slots_at e = slots_of e.1 e.0 (member_list (e.1).to)

-- the copies in flight
abbrev pub copies_of : List Entry → List Flying
copies_of [] = []
copies_of (e ∷ es) = copies_in (slots_at e) ++ copies_of es

-- ---- what always holds

-- each cast made a copy, and its ids are after those of the casts before it; all ids are at least
-- `low`, and below `next`
abbrev pub AreRising : ℕ → List Entry → ℕ → Type 0
AreRising low [] next = low ≤ next
AreRising low (e ∷ es) next = (low ≤ e.0) × (0 < size e.1) × AreRising (e.0 + size e.1) es next

-- copies of a cast fly only to its receivers
abbrev pub AreLeft : Cast → Type 0
AreLeft c = (q : ℕ) → contains c.left q ≡ true → contains c.to q ≡ true

-- a cast of a packet of more than 32 bytes makes one copy, which can be taken out with the packet
abbrev pub IsAlone : Cast → Type 0
IsAlone c = 32 < length c.bytes → size c ≤ 1

-- casts, and the id of the next copy
pub record AreCasts (es : List Entry) (next : ℕ) : Type 0 where
  pub rising : AreRising 1 es next
  pub few : next < 2 ^ 64
  pub lefts : AllByRecursion (λ e. AreLeft e.1) es
  pub alone : AllByRecursion (λ e. IsAlone e.1) es

-- casts with `count` copies in flight in all, `of_data` of them of data
pub record AreKept (es : List Entry) (next count of_data : ℕ) : Type 0 where
  pub casts : AreCasts es next
  pub counted : count ≡ length (copies_of es)
  pub with_data : of_data ≡ data_in (copies_of es)

-- ---- the index of an id

-- these numbers rise
abbrev pub AreSorted : List ℕ → Type 0
AreSorted firsts =
    (i j : ℕ) → i ≤ j → j < length firsts → slice_index firsts i ≤ slice_index firsts j

-- the first k of these numbers are at most `id`, and the others are greater
pub record IsSplit (firsts : List ℕ) (id k : ℕ) : Type 0 where
  pub within : k ≤ length firsts
  pub below : (j : ℕ) → j < k → slice_index firsts j ≤ id
  pub above : (j : ℕ) → k ≤ j → j < length firsts → id < slice_index firsts j

-- the last cast whose first copy is no later than that id
abbrev pub entry_of : List Entry → ℕ → Option Entry
entry_of [] id = None
entry_of (e ∷ es) id = if nat_le e.0 id then Some (unwrap_or (entry_of es id) e) else None

-- ---- the copy of an id

-- the copy of that id to that receiver, if the cast has such a receiver
abbrev pub slot_for : Cast → ℕ → Option ℕ → Option Flying
slot_for c id None = None
slot_for c id (Some to) = slot c id to

-- the copy of that id of that cast, if there is one
abbrev pub copy_of : Option Entry → ℕ → Option Flying
copy_of None id = None
copy_of (Some e) id = slot_for e.1 id (slice_get (member_list (e.1).to) (id - e.0))

-- no copy in flight has that id
abbrev pub HasNone : List Entry → ℕ → Type 0
HasNone es id = copy_of (entry_of es id) id ≡ None

-- the copy of that id is in flight: it is the one to this receiver of the cast at this index
pub record IsFound (es : List Entry) (id index to : ℕ) : Type 0 where
  pub entry : Entry
  pub at : slice_get es index ≡ Some entry
  pub is : entry_of es id ≡ Some entry
  pub low : entry.0 ≤ id
  pub member : slice_get (member_list (entry.1).to) (id - entry.0) ≡ Some to
  pub left : contains (entry.1).left to ≡ true

-- ---- the first copy from an id on

-- no copy in flight has that id or a later one
abbrev pub HasNoneFrom : List Entry → ℕ → Type 0
HasNoneFrom es id = (q : ℕ) → id ≤ q → HasNone es q

-- the id is below that of the cast at this index, if there is one
abbrev pub IsBefore : List Entry → ℕ → ℕ → Type 0
IsBefore es index q = IfSome (slice_get es index) (λ e. q < e.0)

-- the cast at this index, if there is one, is not before that id
abbrev pub IsFrom : List Entry → ℕ → ℕ → Type 0
IsFrom es index id = IfSome (slice_get es index) (λ e. id ≤ e.0)

-- no copy in flight has an id from that one on and before the cast at this index
abbrev pub NoneUpTo : List Entry → ℕ → ℕ → Type 0
NoneUpTo es id index = (q : ℕ) → id ≤ q → IsBefore es index q → HasNone es q

-- the copy to this receiver of the cast at this index is the first in flight from that id on
pub record IsNext (es : List Entry) (id index to : ℕ) : Type 0 where
  pub entry : Entry
  pub at : slice_get es index ≡ Some entry
  pub left : contains (entry.1).left to ≡ true
  pub below : to < 256
  pub late : id ≤ entry.0 + copies_before entry.1 to
  pub none : (q : ℕ) → id ≤ q → q < entry.0 + copies_before entry.1 to → HasNone es q

-- ---- the least copy

-- the least copy in flight is that to this receiver of the cast at this index, and has that id
pub record IsLeast (es : List Entry) (index id to : ℕ) : Type 0 where
  pub next : IsNext es 0 index to
  pub is : id ≡ (next.entry).0 + copies_before (next.entry).1 to

-- what is kept of the least copy, if one flies
abbrev pub IsLeastOf : List Entry → Option Least → Type 0
IsLeastOf es None = copies_of es ≡ []
IsLeastOf es (Some l) = IsLeast es l.spot.index l.id l.spot.to

-- the first `gone` casts have no copy in flight
pub record AreGone (es : List Entry) (gone : ℕ) : Type 0 where
  pub within : gone ≤ length es
  pub none : NoneUpTo es 0 gone

-- ---- changes

-- the cast without the copy to that receiver
abbrev pub without_to : Cast → ℕ → Cast
without_to c to = record c { left = remove c.left to }

-- the cast without its packet
abbrev pub without_packet : Cast → Cast
without_packet c = record c { bytes = [] }

-- a copy of the cast flies
abbrev pub has_left : Cast → Bool
has_left c = is_some (slice_get (member_list c.left) 0)

-- packets and casts without a copy in flight may be removed: the copies in flight are the same, and
-- the casts that stay keep their order
pub record IsTidied (before now : List Entry) : Type 0 where
  pub same : copies_of now ≡ copies_of before
  pub rising : (low next : ℕ) → AreRising low before next → AreRising low now next
  pub lefts : AllByRecursion (λ e. AreLeft e.1) before → AllByRecursion (λ e. AreLeft e.1) now
  pub alone : AllByRecursion (λ e. IsAlone e.1) before → AllByRecursion (λ e. IsAlone e.1) now

-- ---- ids that are free again

-- `front` has the first members of `whole`, at most `count` of them
pub record IsFront (whole : NodeIds) (count : ℕ) (front : NodeIds) : Type 0 where
  pub list : member_list front ≡ take count (member_list whole)
  pub same : (q : ℕ) → (rank whole q < count) ⊎ (256 ≤ q) → contains front q ≡ contains whole q

-- the cast with that first id keeps only its copies below `id`, and stays if there are any
pub record IsCut (id first : ℕ) (c now : Cast) (stays : Bool) : Type 0 where
  pub stays_below : stays ≡ nat_lt first id
  pub cut : OnTrue stays ((now ≡ record c { to = now.to }) × IsFront c.to (id - first) now.to)
