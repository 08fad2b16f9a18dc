-- Where no datum of a world passes a test, none does that a node takes or sends, or that a copy has.
use Rattle.std.proofs.Common.{◌≡◌, ℕ, zero, suc, ◌+◌, ◌<◌, inl, inr, Bool, true, false, eqb, cond, List, [], ◌∷◌, Some, length, sym, ap, ◌∙◌, arith}
use Rattle.std.specs.Prelude.{slice_get}
use Rattle.std.specs.FinMap as maps
use Rattle.std.proofs.lemmas.Bool.{cases_eq, and_parts}
use Rattle.std.proofs.lemmas.Option.{same_Some, none-some, slice_get_within}
use Rattle.aodv_model.specs.Cores.{Body, bodies_in, has_data}
use Rattle.aodv_model.specs.Handlers.{first_body, may_send}
use Rattle.mesh_model.specs.Accounts.{Test, total, total_below, counts, in_copy, in_item, in_store, waiting, queued_data, in_flight}
use Rattle.mesh_model.specs.Worlds.{World, Node, Copy, find_copy}

total_each : {A : Type 0} (f : A → ℕ) (xs : List A) (i : ℕ) (x : A) → total f xs ≡ 0 → slice_get xs i ≡ Some x → f x ≡ 0
total_each f [] i x none is = absurd (let lt = slice_get_within [] i x is in omega arith)
total_each f (y ∷ ys) zero x none is = let first : f y ≡ 0 = omega arith in sym (ap f (same_Some y x is)) ∙ first
total_each f (y ∷ ys) (suc i) x none is = total_each f ys i x (omega arith) is

below_each : (n : ℕ) (f : ℕ → ℕ) (d : ℕ) → total_below n f ≡ 0 → d < n → f d ≡ 0
below_each zero f d none lt = absurd (omega arith)
below_each (suc n) f d none lt = elim (cases_eq d n) [
  | inl same ↦ let last : f n ≡ 0 = omega arith in ap f same ∙ last
  | inr other ↦ below_each n f d (omega arith) (omega arith)
]

first_each : (f : Body → ℕ) (bs : List Body) → has_data bs ≡ true → total f bs ≡ 0 → f (first_body bs) ≡ 0
first_each f [] some none = absurd (let P : ⊥ = cc in P)
first_each f (b ∷ bs) some none = omega arith

found_each : (f : Copy → ℕ) (cs : List Copy) (id : ℕ) (c : Copy) → total f cs ≡ 0 → find_copy cs id ≡ Some c → f c ≡ 0
found_each f [] id c none is = absurd (none-some c is)
found_each f (d ∷ ds) id c none is = by_test (found_each f ds id c (omega arith)) (eqb d.id id) is
  where
    by_test : (find_copy ds id ≡ Some c → f c ≡ 0) → (b : Bool) → cond b (Some d) (find_copy ds id) ≡ Some c → f c ≡ 0
    by_test others true is = let first : f d ≡ 0 = omega arith in sym (ap f (same_Some d c is)) ∙ first
    by_test others false is = others is

module _ (t : Test) (w : World) (none : waiting t w + queued_data t w + in_flight t w ≡ 0) where
  -- what is in a queue
  pub queue_has_none : (x : ℕ) (n : Node) → slice_get w.nodes x ≡ Some n → total (in_item t (n.core).ip) n.queue ≡ 0
  unfolding queued_data
  queue_has_none x n is = total_each (λ (n : Node). total (in_item t (n.core).ip) n.queue) w.nodes x n (omega arith) is

  -- the first datum that waits for a destination
  pub first_is_none : (x d : ℕ) (n : Node) → slice_get w.nodes x ≡ Some n → d < length w.nodes → may_send n.core d ≡ true
      → counts t (n.core).ip d (first_body (bodies_in (maps.get (n.core).store d))) ≡ 0
  unfolding waiting in_store
  first_is_none x d n is lt may =
      let store = total_each (λ (n : Node). in_store t (length w.nodes) (n.core).ip (n.core).store) w.nodes x n (omega arith) is in
      let bodies = below_each (length w.nodes) (λ (d : ℕ). total (counts t (n.core).ip d) (bodies_in (maps.get (n.core).store d))) d store lt in
      first_each (counts t (n.core).ip d) (bodies_in (maps.get (n.core).store d)) (and_parts _ _ may).0 bodies

  -- a copy in flight
  pub copy_has_none : (id : ℕ) (c : Copy) → find_copy w.flying id ≡ Some c → in_copy t c ≡ 0
  unfolding in_flight
  copy_has_none id c is = found_each (in_copy t) w.flying id c (omega arith) is
