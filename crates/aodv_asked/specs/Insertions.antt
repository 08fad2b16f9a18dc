-- Where an id is among intervals, and the intervals with one more id.
use Rattle.std.specs.Prelude.{◌==◌, ℕ, ◌+◌, ◌-◌, Bool, false, if◌then◌else◌, nat_lt, nat_le, ◌&&◌, ◌||◌, List, [], ◌∷◌, slice_index_or}
use Rattle.aodv_asked.specs.declared.interval.Interval.{Interval}

-- the ids from a to b
abbrev pub interval : ℕ → ℕ → Interval
interval a b = record { first = a; last = b }

-- the k-th interval
abbrev pub interval_at : List Interval → ℕ → Interval
interval_at vs k = slice_index_or vs k (interval 0 0)

-- whether an id is in an interval
unfoldable pub is_in : List Interval → ℕ → Bool
is_in [] id = false
is_in (v ∷ vs) id = (nat_le v.first id && nat_le id v.last) || is_in vs id

-- the id or one next to it is in an interval
abbrev pub is_near_to : List Interval → ℕ → Bool
is_near_to vs id = is_in vs id || (is_in vs (id + 1) || (nat_lt 0 id && is_in vs (id - 1)))

-- the interval grows up to the id, and joins the next one if they then adjoin
abbrev pub extension : Interval → ℕ → List Interval → List Interval
extension v id [] = interval v.first id ∷ []
extension v id (w ∷ ws) =
    if id + 1 == w.first then interval v.first w.last ∷ ws else interval v.first id ∷ w ∷ ws

-- the intervals with one more id
abbrev pub with_id : List Interval → ℕ → List Interval
with_id [] id = interval id id ∷ []
with_id (v ∷ vs) id =
    if nat_lt (id + 1) v.first then interval id id ∷ v ∷ vs
    else if id + 1 == v.first then interval id v.last ∷ vs
    else if nat_le id v.last then v ∷ vs
    else if id == v.last + 1 then extension v id vs
    else v ∷ with_id vs id
