-- Where an interval of a list is: a chunk, and an offset in it.
use Rattle.std.specs.Prelude.{◌≡◌, ◌<◌, ◌≤◌, ℕ, zero, suc, ◌+◌, ◌-◌, if◌then◌else◌, nat_lt, List, [], ◌∷◌, length, Option, Some, None}
use Rattle.aodv_asked.specs.declared.interval.Interval.{Interval}
use Rattle.aodv_asked.specs.declared.interval.Spot.{Spot}
use Rattle.aodv_asked.specs.Insertions.{interval_at}

-- what is seen of a list: the intervals, how many more it has room for, and how many each chunk
-- has, or nothing if there are no chunks
pub record RoomyIntervals : Type 0 where
  pub items : List Interval
  pub room : ℕ
  pub lengths : List ℕ

-- how many intervals all chunks have
abbrev pub all_of : List ℕ → ℕ
all_of [] = 0
all_of (n ∷ ns) = n + all_of ns

-- the position in the whole list of what is at offset o in chunk k, if the chunks have these
-- lengths; with no chunks it is the offset
abbrev pub position_at : List ℕ → ℕ → ℕ → ℕ
position_at [] k o = o
position_at (n ∷ ns) zero o = if nat_lt o n then o else n + all_of ns
position_at (n ∷ ns) (suc k) o = n + position_at ns k o

-- the position of a spot
abbrev pub position_of : RoomyIntervals → Spot → ℕ
position_of vs s = position_at vs.lengths s.chunk s.offset

-- there is an interval at the spot
abbrev pub IsThere : RoomyIntervals → Spot → Type 0
IsThere vs s = position_of vs s < length vs.items

-- a position: the intervals before it end before `from`, the others don't
pub record IsPosition (vs : List Interval) (from position : ℕ) : Type 0 where
  pub within : position ≤ length vs
  pub before : (i : ℕ) → i < position → (interval_at vs i).last < from
  pub after : (i : ℕ) → position ≤ i → i < length vs → from ≤ (interval_at vs i).last

-- the spot of the first interval that doesn't end before `from`
abbrev pub IsFirstFrom : RoomyIntervals → ℕ → Option Spot → Type 0
IsFirstFrom vs from None = IsPosition vs.items from (length vs.items)
IsFirstFrom vs from (Some s) =
    IsPosition vs.items from (position_of vs s) × IsThere vs s

-- the spot of the interval after the one at a spot, if there is one
abbrev pub IsBehindSpot : RoomyIntervals → Spot → Option Spot → Type 0
IsBehindSpot vs s None = length vs.items ≡ position_of vs s + 1
IsBehindSpot vs s (Some next) =
    (position_of vs next ≡ position_of vs s + 1) × IsThere vs next

-- the spot of the last interval, if there is one
abbrev pub IsLastSpot : RoomyIntervals → Option Spot → Type 0
IsLastSpot vs None = length vs.items ≡ 0
IsLastSpot vs (Some s) = position_of vs s + 1 ≡ length vs.items

-- how many ids an interval has; below, how many a list of them has
abbrev pub width : Interval → ℕ
width v = v.last + 1 - v.first

abbrev pub total : List Interval → ℕ
total [] = 0
total (v ∷ vs) = width v + total vs

-- the last id of a chunk
abbrev pub last_in : List Interval → ℕ
last_in vs = (interval_at vs (length vs - 1)).last
