-- A store kept as a list of data for each node, the set of the destinations with data, and the set
-- of those that need a request.
use Rattle.std.specs.Prelude.{◌≡◌, ◌≤◌, ℕ, ◌+◌, Bool, true, List, [], ◌∷◌, length, slice_index_or, Option, Some, None, Box}
use Rattle.std.specs.List.{AllByRecursion}
use Rattle.std.specs.FinMap as maps
use Rattle.std.specs.FinSet as sets
use Rattle.mesh_base.specs.declared.limits.TheConstants.{MOST_NODES}
use Rattle.mesh_base.specs.Members.{NodeIds}
use Rattle.aodv_model.specs.Cores.{Body, Waiting, Store, has_data}
use Rattle.aodv_model.specs.Soundness.{IsDatum}

-- the data for each node, with the one that came first at the head
abbrev pub Rows : Type 0
Rows = List (List Body)

-- the data for d
abbrev pub bodies_at : Rows → ℕ → List Body
bodies_at rows d = slice_index_or rows d []

-- what waits for one destination, if there are data
abbrev pub waiting_of : Bool → List Body → Option Waiting
waiting_of needs [] = None
waiting_of needs (b ∷ bs) = Some (record { needs_request = needs; bodies = b ∷ bs })

-- what waits for d is in the store, if there is anything
abbrev pub with_waiting : Store → ℕ → Option Waiting → Store
with_waiting store d None = store
with_waiting store d (Some s) = maps.insert store d s

-- the store of the rows, the first of which is that of node i
unfoldable pub store_from : NodeIds → ℕ → Rows → Store
store_from needing i [] = maps.empty
store_from needing i (row ∷ rows) =
    with_waiting (store_from needing (i + 1) rows) i (waiting_of (sets.contains needing i) row)

-- the store of the rows, with a request needed for the marked destinations
unfoldable pub store_of : NodeIds → Rows → Store
store_of needing rows = store_from needing 0 rows

-- what is seen of what waits for one destination: its data, and how many more there is room for
pub record RoomyRow : Type 0 where
  pub bodies : List Body
  pub room : ℕ

abbrev pub bodies_in_row : RoomyRow → List Body
bodies_in_row row = row.bodies

abbrev pub room_in_row : RoomyRow → ℕ
room_in_row row = row.room

-- what is seen of a row: no data and no room, unless there are slots
abbrev pub row_of : {Z : Type 0} → Option (Box RoomyRow Z) → RoomyRow
row_of None = record { bodies = []; room = 0 }
row_of (Some slots) = slots.value

-- what holds of the rows and the two sets: there are no more rows than a mesh may have nodes;
-- `with_data` has the destinations with data; only such need a request; each datum has 1 to 512
-- bytes
pub record AreRows (rows : Rows) (with_data needing : NodeIds) : Type 0 where
  pub few : length rows ≤ MOST_NODES
  pub data_are : (d : ℕ) → sets.contains with_data d ≡ has_data (bodies_at rows d)
  pub needing_are : (d : ℕ) → sets.contains needing d ≡ true → sets.contains with_data d ≡ true
  pub bodies_are : (d : ℕ) → AllByRecursion IsDatum (bodies_at rows d)
