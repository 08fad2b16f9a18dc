-- The requests, kept as the ids of each originator.
use Rattle.std.specs.Prelude.{ℕ, ◌+◌, List, [], ◌∷◌, map, slice_index_or}
use Rattle.std.specs.FinSet as sets
use Rattle.aodv_model.specs.Cores.{SeenRequests}
use Rattle.aodv_asked.specs.Intervals.{IdSet, RoomyIds}

-- no ids, and no room
abbrev pub no_ids : RoomyIds
no_ids = record { ids = sets.empty; room = 0 }

-- the ids of o
abbrev pub ids_at : List RoomyIds → ℕ → IdSet
ids_at rows o = (slice_index_or rows o no_ids).ids

-- the requests, and o's with the ids of the list
unfoldable pub with_ids : SeenRequests → ℕ → List ℕ → SeenRequests
with_ids seen o [] = seen
with_ids seen o (id ∷ ids) = sets.insert (with_ids seen o ids) (o, id)

-- the requests of the rows, the first of which is that of node o
unfoldable pub pairs_from : ℕ → List RoomyIds → SeenRequests
pairs_from o [] = sets.empty
pairs_from o (row ∷ rows) = with_ids (pairs_from (o + 1) rows) o (sets.items row.ids)

-- the requests of all rows
unfoldable pub pairs_of : List RoomyIds → SeenRequests
pairs_of rows = pairs_from 0 rows

-- how many more ids each row has room for
abbrev pub rooms_of : List RoomyIds → List ℕ
rooms_of rows = map (λ row. row.room) rows
