-- Tables as functions, their edges and cycles, and when they are sound. Nodes and destinations are
-- addresses.
use Rattle.std.specs.Prelude.{◌≡◌, ◌≢◌, ℕ, ◌<◌, ◌≤◌, ◌⊎◌, Bool, false, List, [], ◌∷◌, Option, Some, None, ⊤}
use Rattle.std.specs.FinSet as sets
use Rattle.aodv_model.specs.declared.entry.Entry.{Entry}
use Rattle.aodv_model.specs.declared.entry.Flag.TheVariants.{Val}
use Rattle.aodv_model.specs.Quality.{is_better}
use Rattle.mesh_tables.specs.declared.row.Row.{Row}
use Rattle.mesh_tables.specs.declared.search.FailingEdge.{FailingEdge}

-- the entry of x for d, if x was shown and has one
abbrev pub Tables : Type 0
Tables = ℕ → ℕ → Option Row

-- the definitions' entry for a row, without precursors
abbrev pub entry_of : Row → Entry
entry_of r = record {
  dsn = r.dsn;
  dsk = r.known;
  flag = r.flag;
  hops = r.hops;
  next = r.next;
  pre = sets.empty;
}

-- a is better than b: a greater net number, or the same with fewer hops
abbrev pub is_better_row : Row → Row → Bool
is_better_row a b = is_better (entry_of a) (entry_of b)

-- x isn't d, and was shown with a valid entry for d, whose next hop is y
pub record Edge (t : Tables) (d x y : ℕ) : Type 0 where
  pub apart : x ≢ d
  pub row : Row
  pub there : t x d ≡ Some row
  pub valid : row.flag ≡ Val
  pub next : row.next ≡ y

-- from each node of the list to the next one there is an edge for d
abbrev pub IsWalk : Tables → ℕ → List ℕ → Type 0
IsWalk t d [] = ⊤
IsWalk t d (x ∷ []) = ⊤
IsWalk t d (x ∷ (y ∷ ys)) = Edge t d x y × IsWalk t d (y ∷ ys)

-- the last node of x and then the others
abbrev pub last : ℕ → List ℕ → ℕ
last x [] = x
last x (y ∷ ys) = last y ys

-- a walk of two or more nodes that ends at its first node: valid next hops for d lead back to where
-- they began
pub record Cycle (t : Tables) (d : ℕ) : Type 0 where
  pub first : ℕ
  pub second : ℕ
  pub others : List ℕ
  pub walk : IsWalk t d (first ∷ (second ∷ others))
  pub closed : last second others ≡ first

-- an edge fails: its next hop y isn't d, and was shown with a valid entry for d that isn't better
-- than x's
pub record Fails (t : Tables) (d x y : ℕ) : Type 0 where
  pub edge : Edge t d x y
  pub other : y ≢ d
  pub row : Row
  pub there : t y d ≡ Some row
  pub valid : row.flag ≡ Val
  pub worse : is_better_row row edge.row ≡ false

-- no edge fails
abbrev pub IsSound : Tables → Type 0
IsSound t = (d x y : ℕ) → ¬ (Fails t d x y)

-- this edge fails, and each edge that fails has a greater destination, or the same destination and
-- no lesser node
pub record IsFirstFailing (t : Tables) (e : FailingEdge) : Type 0 where
  pub fails : Fails t e.dest e.node e.next
  pub first : (d x y : ℕ) → Fails t d x y → (e.dest < d) ⊎ ((e.dest ≡ d) × (e.node ≤ x))

-- the first edge that fails; None if the tables are sound
abbrev pub IsFirstFault : Tables → Option FailingEdge → Type 0
IsFirstFault t None = IsSound t
IsFirstFault t (Some e) = IsFirstFailing t e
