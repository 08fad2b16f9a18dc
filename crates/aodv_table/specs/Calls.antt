-- What the calls of a table report, besides the changes that aodv_model defines.
use Rattle.std.specs.Prelude.{◌≡◌, ◌<◌, ◌≤◌, ℕ, zero, suc, ◌+◌, ◌==◌, Bool, true, false, not, ◌&&◌, Option, Some, None}
use Rattle.std.specs.List.{list_any}
use Rattle.std.specs.FinMap as maps
use Rattle.std.specs.FinSet as sets
use Rattle.mesh_base.specs.Members.{NodeIds}
use Rattle.aodv_model.specs.declared.entry.Entry.{Entry}
use Rattle.aodv_model.specs.Quality.{is_kno, is_val}
use Rattle.aodv_model.specs.Tables.{Table, Dests, dests_of, in_vD, goes_by}
use Rattle.aodv_model.specs.Fullness.{greatest}

-- no destination from n on has an entry
abbrev pub IsBelow : ℕ → Table → Type 0
IsBelow n rt = (d : ℕ) → n ≤ d → maps.get rt d ≡ None

-- the table in which d has this entry, or none; all other destinations keep theirs
abbrev pub with_entry : Table → ℕ → Option Entry → Table
with_entry rt d None = maps.remove rt d
with_entry rt d (Some e) = maps.insert rt d e

-- the nodes of a mesh with n nodes
unfoldable pub nodes_below : ℕ → NodeIds
nodes_below zero = sets.empty
nodes_below (suc n) = sets.insert (nodes_below n) n

-- the destinations that have a valid entry (AWN's vD)
unfoldable pub valid_dests : Table → NodeIds
valid_dests rt = dests_of (maps.retain_keys rt (in_vD rt))

-- there is an entry of d, and it is that of a neighbour that was heard: valid, its number unknown,
-- one hop away by d itself
abbrev pub is_neighbour_entry : ℕ → Option Entry → Bool
is_neighbour_entry d None = false
is_neighbour_entry d (Some e) =
    is_val e.flag && (not (is_kno e.dsk) && ((e.hops == 1) && (e.next == d)))

-- d's entry is that of a neighbour that was heard
abbrev pub is_neighbour_in : Table → ℕ → Bool
is_neighbour_in rt d = is_neighbour_entry d (maps.get rt d)

-- the destinations that have a valid entry with next hop y
unfoldable pub dests_by : Table → ℕ → NodeIds
dests_by rt y = dests_of (maps.retain_keys rt (λ d. goes_by (maps.get rt d) y))

-- some number was raised past the greatest of its field
abbrev pub is_past : Dests → Bool
is_past raised = list_any (λ n. n == greatest + 1) (maps.values raised)

-- some number was raised past the greatest, and d is the least destination with such a number
pub record IsLeastPast (raised : Dests) (d : ℕ) : Type 0 where
  pub past : is_past raised ≡ true
  pub here : maps.get raised d ≡ Some (greatest + 1)
  pub least : (q : ℕ) → q < d → maps.get raised q ≡ Some (greatest + 1) → ⊥
