-- The last interval of each originator's ids, kept separately from its row, which has the ids
-- before it.
use Rattle.std.specs.Prelude.{◌≡◌, ◌≢◌, ◌<◌, ◌⊎◌, ℕ, ◌+◌, ◌-◌, Bool, true, if◌then◌else◌, nat_lt, List, [], ◌∷◌, length, slice_index_or}
use Rattle.std.specs.FinSet.{empty, insert, contains}
use Rattle.mesh_base.specs.Members.{NodeIds}
use Rattle.aodv_asked.specs.declared.interval.Interval.{Interval}
use Rattle.aodv_asked.specs.Intervals.{IdSet, RoomyIds, with_range}
use Rattle.aodv_asked.specs.Insertions.{interval}
use Rattle.aodv_asked.specs.Rows.{no_ids, ids_at}

-- the interval without ids
abbrev pub no_top : Interval
no_top = interval 1 0

-- the ids, and those of an interval
abbrev pub with_interval : IdSet → Interval → IdSet
with_interval ids v = with_range ids v.first (v.last + 1 - v.first)

-- the ids of an interval
abbrev pub ids_of : Interval → IdSet
ids_of v = with_interval empty v

-- each id is below the number, and not next to it
abbrev pub AreBefore : IdSet → ℕ → Type 0
AreBefore ids n = (id : ℕ) → contains ids id ≡ true → id + 1 < n

-- the interval comes after the ids and doesn't adjoin them; one without ids begins at 1, so that
-- there are no ids before it
abbrev pub IsBehind : IdSet → Interval → Type 0
IsBehind ids v = AreBefore ids v.first × (v.last < v.first → v.first ≡ 1)

-- `grown` is v with one id more, whatever ids v comes after
abbrev pub HasOneMore : Interval → ℕ → Interval → Type 0
HasOneMore v id grown =
    (ids : IdSet)
    → IsBehind ids v
    → IsBehind ids grown × (with_interval ids grown ≡ insert (with_interval ids v) id)

-- the last interval of o's ids
abbrev pub top_at : List Interval → ℕ → Interval
top_at tops o = slice_index_or tops o no_top

-- how many more ids o's row has room for
abbrev pub room_at : List RoomyIds → ℕ → ℕ
room_at rows o = (slice_index_or rows o no_ids).room

-- room for one id, if the interval is without ids
abbrev pub room_in : Interval → ℕ
room_in v = if nat_lt v.last v.first then 1 else 0

-- a row with an interval after it: the ids of both, and the room of both
abbrev pub with_top : RoomyIds → Interval → RoomyIds
with_top row v = record { ids = with_interval row.ids v; room = row.room + room_in v }

-- each row with its last interval after it
unfoldable pub rows_with_tops : List RoomyIds → List Interval → List RoomyIds
rows_with_tops rows [] = rows
rows_with_tops [] (v ∷ tops) = []
rows_with_tops (row ∷ rows) (v ∷ tops) = with_top row v ∷ rows_with_tops rows tops

-- each row has a last interval after it; the row has room if that interval is without ids, and if
-- its node is roomy
pub record AreKept (rows : List RoomyIds) (tops : List Interval) (roomy : NodeIds) : Type 0 where
  pub each : length tops ≡ length rows
  pub behind : (o : ℕ) → IsBehind (ids_at rows o) (top_at tops o)
  pub free :
      (o : ℕ)
      → o < length rows
      → (top_at tops o).last < (top_at tops o).first
      → 0 < room_at rows o
  pub room : (o : ℕ) → contains roomy o ≡ true → 0 < room_at rows o

-- each node that is then roomy is o, if o has room, or another one that was roomy before
abbrev pub AreNoted : NodeIds → ℕ → Bool → NodeIds → Type 0
AreNoted before o has_room after =
    (q : ℕ)
    → contains after q ≡ true
    → ((q ≡ o) × (has_room ≡ true)) ⊎ ((q ≢ o) × (contains before q ≡ true))
