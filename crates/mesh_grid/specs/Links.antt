-- Which nodes are within reach of each other, and the links that are made and cut when a node comes
-- to a place.
use Rattle.std.specs.Prelude.{ℕ, zero, suc, ◌==◌, not, ◌&&◌, min, max, Bool, true, false, if◌then◌else◌, List, [], ◌∷◌, ◌++◌, Option, Some, None}
use Rattle.std.specs.FinSet as sets
use Rattle.mesh_base.specs.Members.{NodeIds}
use Rattle.mesh_model.specs.Worlds.{Event, Link, Cut}
use Rattle.mesh_grid.specs.declared.place.Place.{Place}
use Rattle.mesh_grid.specs.declared.place.Places.{Places}
use Rattle.mesh_grid.specs.declared.line.Placing.{Placing}
use Rattle.mesh_grid.specs.Places.{is_within, place_of, with_place}

-- ---- nodes within reach

-- both have a place, and the two places are within reach of each other
abbrev pub are_near : ℕ → Option Place → Option Place → Bool
are_near reach (Some p) (Some q) = is_within reach p q
are_near reach others place = false

-- two nodes have places within reach of each other
abbrev pub is_in_reach : ℕ → Places → ℕ → ℕ → Bool
is_in_reach reach places a b =
    not (a == b) && are_near reach (place_of places a) (place_of places b)

-- ---- changes

-- the link between x and y, the smaller first, is made if the two are within reach of each other
-- and the link doesn't stand; it is cut if it stands and they aren't
abbrev pub change : (in_reach stands : Bool) → ℕ → ℕ → List Event
change true false x y = Link (min x y) (max x y) ∷ []
change false true x y = Cut (min x y) (max x y) ∷ []
change in_reach stands x y = []

-- the change between x, which has come to a place, and y, if y has a place
abbrev pub change_with : ℕ → ℕ → Place → ℕ → Option Place → Bool → List Event
change_with reach x p y None stands = []
change_with reach x p y (Some q) stands = change (is_within reach p q) stands x y

-- the change between the node that has come to a place and any node y; `near` are the nodes that
-- the first is linked to
abbrev pub change_at : ℕ → Places → NodeIds → Placing → ℕ → List Event
change_at reach places near new y =
    if y == new.node then [] else
    change_with reach new.node new.place y (place_of places y) (sets.contains near y)

-- the changes with the nodes below n, by ascending node
abbrev pub changes_below : ℕ → Places → NodeIds → Placing → ℕ → List Event
changes_below reach places near new zero = []
changes_below reach places near new (suc n) =
    changes_below reach places near new n ++ change_at reach places near new n

-- ---- whether a node may come to a place

-- `place` is for a node that has no place, `move` for one that has a place
abbrev pub is_enabled : Bool → Option Place → Bool
is_enabled first None = first
is_enabled first (Some p) = not first

abbrev pub may_come : Places → Placing → Bool
may_come places new = is_enabled new.first (place_of places new.node)

-- where the nodes are after a line about a place
abbrev pub with_placing : Places → Placing → Places
with_placing places new =
    record (if may_come places new then with_place places new.node new.place else places) {
      begun = true;
    }
