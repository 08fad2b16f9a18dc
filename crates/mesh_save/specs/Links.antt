-- The links of a mesh, by their first nodes.
use Rattle.std.specs.Prelude.{ℕ, List, map}
use Rattle.std.specs.FinSet as sets
use Rattle.aodv_model.specs.Pairs.{Pairs}
use Rattle.aodv_asked.specs.Requests.{ids_below}
use Rattle.mesh_checkpoint.specs.Checkpoint.{Link}

-- the link of two nodes, which stands if it is among these
abbrev pub link_of : Pairs → ℕ × ℕ → Link
link_of links p = record { a = p.0; b = p.1; stands = sets.contains links p }

-- the pairs with this first node and a second below that number, by rising second
abbrev pub pairs_from : Pairs → ℕ → ℕ → List (ℕ × ℕ)
pairs_from pairs a end = map (λ b. (a, b)) (ids_below end pairs a)
