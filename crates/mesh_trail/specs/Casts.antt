-- The lists of the copies in flight. The copies of a cast share one: they have the ids from its
-- first on that are below its end.
use Rattle.std.specs.Prelude.{◌≡◌, ℕ, ◌≤◌, ◌<◌, ◌⊎◌, Bool, false, nat_le, not, if◌then◌else◌, Some, List, [], ◌∷◌, length, slice_get}
use Rattle.mesh_base.specs.declared.events.Flying.{Flying}
use Rattle.mesh_radio.specs.Copies.{from_id}
use Rattle.mesh_trail.specs.declared.casts.Cast.{Cast}

-- the list of the copy of that id: that of the first cast that ends after the id
abbrev pub list_of : List Cast → ℕ → List ℕ
list_of [] id = []
list_of (c ∷ cs) id = if nat_le c.end id then list_of cs id else c.list

-- a cast ends after that id, and the first one that does begins no later than the id
abbrev pub IsCovered : List Cast → ℕ → Type 0
IsCovered [] id = ⊥
IsCovered (c ∷ cs) id = ((c.end ≤ id) × IsCovered cs id) ⊎ ((c.first ≤ id) × (id < c.end))

-- the casts' ends never fall, and are at least `low` and at most `next`
abbrev pub AreEnding : ℕ → List Cast → ℕ → Type 0
AreEnding low [] next = low ≤ next
AreEnding low (c ∷ cs) next = (low ≤ c.end) × AreEnding c.end cs next

-- the first of these copies has an id below the end
abbrev pub begins_below : ℕ → List Flying → Bool
begins_below end [] = false
begins_below end (f ∷ fs) = not (nat_le end f.id)

-- a copy of the cast flies
abbrev pub flies_in : List Flying → Cast → Bool
flies_in flying c = begins_below c.end (from_id flying c.first)

-- the first k casts end no later than that id, and the others after it
pub record IsPosition (casts : List Cast) (id k : ℕ) : Type 0 where
  pub within : k ≤ length casts
  pub before : (j : ℕ) (c : Cast) → j < k → slice_get casts j ≡ Some c → c.end ≤ id
  pub behind : (j : ℕ) (c : Cast) → k ≤ j → slice_get casts j ≡ Some c → id < c.end
