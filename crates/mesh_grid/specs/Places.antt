-- Places on a grid, which of them are within reach of each other, and where nodes are.
use Rattle.std.specs.Prelude.{ℕ, ◌+◌, ◌-◌, ◌*◌, nat_le, Bool, true, false, replicate, Option, Some, None, get_or, slice_set}
use Rattle.mesh_base.specs.declared.limits.TheConstants.{MOST_NODES}
use Rattle.mesh_grid.specs.declared.place.Place.{Place}
use Rattle.mesh_grid.specs.declared.place.Places.{Places}

-- ---- reach

-- how far two numbers are apart: one of the two differences is 0
abbrev pub apart : ℕ → ℕ → ℕ
apart m n = (m - n) + (n - m)

-- the square of the distance of two places
abbrev pub squared_distance : Place → Place → ℕ
squared_distance p q = apart p.x q.x * apart p.x q.x + apart p.y q.y * apart p.y q.y

-- the distance is at most the reach
abbrev pub is_within : ℕ → Place → Place → Bool
is_within reach p q = nat_le (squared_distance p q) (reach * reach)

-- ---- where nodes are

-- no node has a place, and no line about places has started the run
abbrev pub no_places : Places
no_places = record { at = replicate MOST_NODES None; begun = false }

-- the place of a node, if it has one
abbrev pub place_of : Places → ℕ → Option Place
place_of places node = get_or places.at node None

-- a node has come to a place
abbrev pub with_place : Places → ℕ → Place → Places
with_place places node p = record places { at = slice_set places.at node (Some p) }

-- an allowed line about places has started the run
abbrev pub with_run_begun : Places → Places
with_run_begun places = record places { begun = true }
