-- A table kept as a row for every node, in the order of the nodes: a row holds the entry of its
-- node, or none.
use Rattle.std.specs.Prelude.{◌≡◌, ◌≤◌, ℕ, ◌+◌, List, [], ◌∷◌, length, Option, Some, None}
use Rattle.std.specs.FinMap as maps
use Rattle.std.specs.FinSet as sets
use Rattle.mesh_base.specs.declared.limits.TheConstants.{MOST_NODES}
use Rattle.mesh_base.specs.Members.{NodeIds}
use Rattle.aodv_model.specs.declared.entry.Entry.{Entry}
use Rattle.aodv_model.specs.Tables.{Table}
use Rattle.aodv_table.specs.Calls.{with_entry, valid_dests, is_neighbour_in}

-- an entry with these precursors in place of its own, if there is one
abbrev pub with_precursors : Option Entry → NodeIds → Option Entry
with_precursors None nodes = None
with_precursors (Some e) nodes = Some (record e { pre = nodes })

-- the rows together with their precursors, which are kept in a list of their own
unfoldable pub whole_rows : List (Option Entry) → List NodeIds → List (Option Entry)
whole_rows [] precursors = []
whole_rows (row ∷ rows) [] = []
whole_rows (row ∷ rows) (nodes ∷ precursors) =
    with_precursors row nodes ∷ whole_rows rows precursors

-- no row has an entry
abbrev pub AreEmpty : List (Option Entry) → Type 0
AreEmpty [] = Unit {0}
AreEmpty (row ∷ rows) = (row ≡ None) × AreEmpty rows

-- the table of the rows, the first of which is the row of node d
unfoldable pub entries_from : ℕ → List (Option Entry) → Table
entries_from d [] = maps.empty
entries_from d (row ∷ rows) = with_entry (entries_from (d + 1) rows) d row

-- these nodes are the neighbours that were heard
abbrev pub AreNeighbours : Table → NodeIds → Type 0
AreNeighbours rt nodes = (d : ℕ) → sets.contains nodes d ≡ is_neighbour_in rt d

-- what holds of such a table: it has a number of nodes that a mesh may have, a row for each of
-- them, the set of the valid destinations, and that of the neighbours that were heard
pub record AreIndexed (nodes : ℕ) (rows : List (Option Entry)) (valid neighbours : NodeIds)
    : Type 0 where
  pub few : nodes ≤ MOST_NODES
  pub each : length rows ≡ nodes
  pub valid_are : valid ≡ valid_dests (entries_from 0 rows)
  pub neighbours_are : AreNeighbours (entries_from 0 rows) neighbours
