-- Part of what the headline says.
-- Where the valid next hops of a world lead.
use Rattle.std.specs.Prelude.{◌≡◌, ◌≢◌, ℕ, zero, suc, ◌+◌, ◌≤◌, ◌==◌, if◌then◌else◌, Option, Some, None, List, ◌∷◌, length}
use Rattle.std.specs.FinMap as maps
use Rattle.aodv_model.specs.declared.entry.Entry.{Entry}
use Rattle.aodv_model.specs.declared.entry.Flag.{Flag}
use Rattle.aodv_model.specs.declared.entry.Flag.TheVariants.{Val, Inv}
use Rattle.mesh_model.specs.Worlds.{World}
use Rattle.mesh_model.specs.Walks.{table, Edge, IsWalk, last}

-- where a route ends: at its destination, or at another node that has no valid entry for it; and
-- after how many hops
pub data End : Type 0 where
  Arrived : (hops : ℕ) → End
  Stuck : (at hops : ℕ) → End

abbrev pub next_by : Flag → ℕ → Option ℕ
next_by Val y = Some y
next_by Inv y = None

abbrev pub next_in : Option Entry → Option ℕ
next_in None = None
next_in (Some e) = next_by e.flag e.next

-- the next hop of x's valid entry for d
abbrev pub next_hop : World → ℕ → ℕ → Option ℕ
next_hop w x d = next_in (maps.get (table w x) d)

-- the end at x if no hop leads on, else the end of the rest
abbrev pub end_at : ℕ → ℕ → Option ℕ → (ℕ → End) → End
end_at x hops None rest = Stuck x hops
end_at x hops (Some y) rest = rest y

-- the end of the route for d from x on, which has come `hops` hops and visits at most `most` more
-- nodes, x included. A route has fewer hops than there are nodes, so no run reaches the first line
-- (law `RouteEnds`)
abbrev pub end_from : ℕ → World → ℕ → ℕ → ℕ → End
end_from zero w d x hops = Stuck x hops
end_from (suc most) w d x hops =
    if x == d then Arrived hops
    else end_at x hops (next_hop w x d) (λ y. end_from most w d y (hops + 1))

-- the end of the route from x to d. Routes form no cycle, so a route visits each node at most
-- once
unfoldable pub route_end : World → ℕ → ℕ → End
route_end w x d = end_from (length w.nodes) w d x 0

-- a walk of this many edges for d leads from x to y
pub record Leads (w : World) (d x y hops : ℕ) : Type 0 where
  pub others : List ℕ
  pub walk : IsWalk w d (x ∷ others)
  pub ends : last x others ≡ y
  pub long : length others ≡ hops
  pub short : hops + 1 ≤ length w.nodes

-- a route from x to d ends so: a walk leads there, and it has arrived, or no edge leads on
abbrev pub IsRouteEnd : World → ℕ → ℕ → End → Type 0
IsRouteEnd w x d (Arrived hops) = Leads w d x d hops
IsRouteEnd w x d (Stuck at hops) = Leads w d x at hops × (at ≢ d) × ((y : ℕ) → ¬ (Edge w d at y))
