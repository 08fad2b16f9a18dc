-- The route that two words ask for, an honest walk for it, and its line.
use Rattle.std.specs.Prelude.{◌≡◌, ℕ, ◌-◌, List, [], ◌∷◌, ◌++◌, length, codes, Option, Some, None, option_map, option_and_then}
use Rattle.std.specs.List.{flat_map}
use Rattle.mesh_base.specs.Addresses.{address_of}
use Rattle.mesh_base.specs.Meshes.{Nodes, index_of}
use Rattle.mesh_model.specs.Worlds.{World}
use Rattle.mesh_model.specs.Routes.{next_hop}
use Rattle.mesh_grammar.specs.Written.{line, label_number}
use Rattle.mesh_text.specs.Lines.{name_of}
use Rattle.mesh_text.specs.Schedule.{RunState}
use Rattle.mesh_trail.specs.Walks.{IsRouteWalk}

-- two words: the address of a node, and that of a destination
abbrev pub of_two : List ℕ → List ℕ → Option (ℕ × ℕ)
of_two node dest =
    option_and_then (λ a. option_map (λ b. (a, b)) (address_of dest)) (address_of node)

-- what the words ask for, if they are two addresses
unfoldable pub asked_of : List (List ℕ) → Option (ℕ × ℕ)
asked_of (node ∷ dest ∷ []) = of_two node dest
asked_of others = None

-- the route of x to d in a world: an honest walk with the hops of the valid route, or none if x has
-- no valid route to d
abbrev pub IsRouteIn : World → ℕ → ℕ → Option (List ℕ) → Type 0
IsRouteIn w x d None = next_hop w x d ≡ None
IsRouteIn w x d (Some walk) = IsRouteWalk w x d walk

-- there is no route without a world, or if one of the two isn't a node of the mesh
abbrev pub IsRouteOf : Option World → Option ℕ → Option ℕ → Option (List ℕ) → Type 0
IsRouteOf (Some w) (Some x) (Some d) route = IsRouteIn w x d route
IsRouteOf others x d route = route ≡ None

-- the route between two addresses in a state of a run
abbrev pub IsRoute : RunState → ℕ × ℕ → Option (List ℕ) → Type 0
IsRoute m asked route = IsRouteOf m.world (index_of m.mesh asked.0) (index_of m.mesh asked.1) route

-- the names of the nodes, each after a space
abbrev pub names_after : Nodes → List ℕ → List ℕ
names_after mesh walk = flat_map (λ x. 32 ∷ name_of mesh x) walk

-- the line of a walk: its hops, and its nodes from the destination on
unfoldable pub walk_line : Nodes → List ℕ → List ℕ
walk_line mesh walk = line (label_number (codes "walk ") (length walk - 1) ++ names_after mesh walk)

abbrev pub route_line : Nodes → Option (List ℕ) → List ℕ
route_line mesh None = line (codes "none")
route_line mesh (Some walk) = walk_line mesh walk
