-- A table kept as rows: a destination with a row has room for an entry, and its row holds one or
-- none.
use Rattle.std.specs.Prelude.{◌≡◌, ◌≤◌, ℕ, List, [], ◌∷◌, map, Option}
use Rattle.std.specs.FinMap as maps
use Rattle.std.specs.FinSet as sets
use Rattle.mesh_base.specs.declared.limits.TheConstants.{MOST_NODES}
use Rattle.mesh_base.specs.Members.{NodeIds}
use Rattle.aodv_model.specs.declared.entry.Entry.{Entry}
use Rattle.aodv_model.specs.Tables.{Table}
use Rattle.aodv_table.specs.Calls.{IsBelow, with_entry, valid_dests}

-- the table of the rows
unfoldable pub entries_in : List (ℕ × Option Entry) → Table
entries_in [] = maps.empty
entries_in (row ∷ rows) = with_entry (entries_in rows) row.0 row.1

-- the destinations that have a row
unfoldable pub rooms_in : List (ℕ × Option Entry) → NodeIds
rooms_in rows = sets.from_list (map (λ row. row.0) rows)

-- what holds of a table of rows: it has a number of nodes that a mesh may have, no entry of any
-- other destination, and the set of the valid destinations
pub record AreRows (nodes : ℕ) (rows : List (ℕ × Option Entry)) (valid : NodeIds) : Type 0 where
  pub few : nodes ≤ MOST_NODES
  pub below : IsBelow nodes (entries_in rows)
  pub valid_are : valid ≡ valid_dests (entries_in rows)
