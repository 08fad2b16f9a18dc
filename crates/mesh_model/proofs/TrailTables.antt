-- What a later world keeps of walks, and what one entry over another is.
use Rattle.std.proofs.Common.{◌≡◌, ℕ, ◌+◌, ◌<◌, ◌≤◌, ◌⊎◌, Bool, true, false, ◌==◌, List, [], ◌∷◌, length, Some, refl, sym, subst, arith, inl, inr}
use Rattle.std.proofs.lemmas.Bool.{eqb-true, eqb-false}
use Rattle.std.proofs.lemmas.Bool.Decides.{nat_tests}
use Rattle.std.specs.FinSet as sets
use Rattle.aodv_model.specs.declared.entry.Entry.{Entry}
use Rattle.aodv_model.specs.declared.entry.Known.TheVariants.{Kno}
use Rattle.aodv_model.proofs.Entries.{Same}
use Rattle.aodv_model.specs.Handlers.{is_stale, is_stale_beside, route_entry}
use Rattle.aodv_model.specs.Tables.{Table, merge}
use Rattle.mesh_model.specs.Invariants.{AtLeast, IsAtLeast}
use Rattle.mesh_model.specs.Trails.{Around, IsAbsent, IsBackedWalk, front}

pub record Later (a b : Around) : Type 0 where
  pub variant : b.variant ≡ a.variant
  pub keeps : (x d n h : ℕ) → 1 ≤ n → AtLeast (a.tables x) d n h → AtLeast (b.tables x) d n h
  pub seen : (x : ℕ) (key : ℕ × ℕ) → sets.contains (a.seen x) key ≡ true → sets.contains (b.seen x) key ≡ true
  pub ever : (p : ℕ × ℕ) → sets.contains a.ever p ≡ true → sets.contains b.ever p ≡ true

pub trail_stays : (a b : Around) → Later a b → (d n : ℕ) (ws : List ℕ) → IsBackedWalk a d n ws → IsBackedWalk b d n ws
trail_stays a b later d n [] t = t
trail_stays a b later d n (x ∷ []) t = t
trail_stays a b later d n (x ∷ (y ∷ ys)) t = (later.ever _ t.0, t.1, later.keeps x d n (length (y ∷ ys)) t.1 t.2, t.3, trail_stays a b later d n (y ∷ ys) t.4)

-- ---- a node that is on a walk has an entry as good

-- x is not before the end of the walk, or its table has as few hops
pub on_trail : (a : Around) (x d n : ℕ) (y : ℕ) (ys : List ℕ) → IsBackedWalk a d n (y ∷ ys) → IsAbsent x (front (y ∷ ys)) ⊎ ((h : ℕ) × (h < length (y ∷ ys)) × AtLeast (a.tables x) d n h)
on_trail a x d n y [] t = inl tt
on_trail a x d n y (z ∷ zs) t = at (x == y) refl (on_trail a x d n z zs t.4)
  where
    at : (b : Bool) → (x == y) ≡ b → IsAbsent x (front (z ∷ zs)) ⊎ ((h : ℕ) × (h < length (z ∷ zs)) × AtLeast (a.tables x) d n h)
        → IsAbsent x (y ∷ front (z ∷ zs)) ⊎ ((h : ℕ) × (h < length (y ∷ (z ∷ zs))) × AtLeast (a.tables x) d n h)
    at true e rest = inr (length (z ∷ zs), omega arith, subst (λ k. AtLeast (a.tables k) d n (length (z ∷ zs))) (sym (eqb-true x y e)) t.2)
    at false e (inl absent) = inl (eqb-false x y e, absent)
    at false e (inr found) = inr (found.0, let l = found.1 in omega arith, found.2)

-- ---- one entry over another

-- the unknown one: the entry stays, or is one hop through its next hop
pub near_shape : (s r : Entry) → r.hops ≡ 1 → Same (merge s r) s ⊎ (((merge s r).hops ≡ 1) × ((merge s r).next ≡ r.next))
unfolding merge
near_shape s r one = grind (arith, nat_tests)

pub known_shape : (s r : Entry) → r.dsk ≡ Kno → Same (merge s r) s ⊎ Same (merge s r) r
unfolding merge
known_shape s r known = grind (arith, nat_tests)

-- ---- stale replies

as_good : (s r : Entry) (n h : ℕ) → IsAtLeast s n h → r.dsn ≡ n → h < r.hops → is_stale_beside (Some s) r ≡ true
as_good s r n h enough dsn more = grind (arith, nat_tests)

-- a reply to a node that has an entry as good is stale
pub stale_there : (rt : Table) (d n h g from : ℕ) → AtLeast rt d n g → g < h + 1 → is_stale rt d (route_entry n h from) ≡ true
unfolding is_stale
stale_there rt d n h g from at less = rw at.there (as_good at.entry (route_entry n h from) n g at.enough refl less)
