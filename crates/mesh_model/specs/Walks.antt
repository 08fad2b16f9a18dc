-- Part of what the headline says.
-- The valid routes of a world as a graph, for each destination.
use Rattle.std.specs.Prelude.{◌≡◌, ◌≢◌, ℕ, List, [], ◌∷◌, Option, Some, None, slice_get, ⊤}
use Rattle.std.specs.FinMap as maps
use Rattle.aodv_model.specs.declared.entry.Entry.{Entry}
use Rattle.aodv_model.specs.declared.entry.Flag.TheVariants.{Val}
use Rattle.aodv_model.specs.Tables.{Table}
use Rattle.mesh_model.specs.Worlds.{World, Node}

-- the table of a node, empty if there is none
abbrev pub rt_in : Option Node → Table
rt_in None = maps.empty
rt_in (Some n) = (n.core).rt

-- the table of node x
abbrev pub table : World → ℕ → Table
table w x = rt_in (slice_get w.nodes x)

-- x isn't d, and has a valid entry for d with next hop y
pub record Edge (w : World) (d x y : ℕ) : Type 0 where
  pub apart : x ≢ d
  pub entry : Entry
  pub there : maps.get (table w x) d ≡ Some entry
  pub valid : entry.flag ≡ Val
  pub next : entry.next ≡ y

-- every two neighbours in the list are an edge for d
abbrev pub IsWalk : World → ℕ → List ℕ → Type 0
IsWalk w d [] = ⊤
IsWalk w d (x ∷ []) = ⊤
IsWalk w d (x ∷ (y ∷ ys)) = Edge w d x y × IsWalk w d (y ∷ ys)

-- the last of the list: x, then the others
abbrev pub last : ℕ → List ℕ → ℕ
last x [] = x
last x (y ∷ ys) = last y ys

-- a walk of two or more nodes whose last node is its first
pub record Cycle (w : World) (d : ℕ) : Type 0 where
  pub first : ℕ
  pub second : ℕ
  pub others : List ℕ
  pub walk : IsWalk w d (first ∷ (second ∷ others))
  pub closed : last second others ≡ first
