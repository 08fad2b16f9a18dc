-- A mesh by rising addresses: where an address stands, and one more node.
use Rattle.std.proofs.Common.{◌^◌, ◌≡◌, ◌≢◌, ℕ, ◌+◌, ◌-◌, ◌<◌, ◌≤◌, eqb, ltb, length, Some, None, get_or, insert, refl, sym, ap, subst, ◌∙◌, ◌⊎◌, arith, inl, inr, eq-eqb}
use Rattle.std.specs.List.{position_or_len}
use Rattle.std.specs.List.Sorted.{IsNonDecreasingBy}
use Rattle.std.proofs.lemmas.Bool.{ne_eqb, cases_lt, cases_eq, lt-ltb, le-ltb}
use Rattle.std.proofs.lemmas.List.{get_or_default}
use Rattle.std.proofs.lemmas.List.Sums.{position_or_len_is}
use Rattle.std.proofs.lemmas.List.Edits.{length-insert, get_or-insert_at, get_or-insert_below, get_or-insert_above}
use Rattle.mesh_base.specs.Meshes.{Nodes, IsMesh, addr_at, index_of, with_node}

-- addresses don't fall
pub rising_le : (mesh : Nodes) (i j : ℕ) → IsMesh mesh → i ≤ j → j < length mesh → addr_at mesh i ≤ addr_at mesh j
rising_le mesh i j is le lt = elim (cases_eq i j) [ inl same ↦ omega (arith, ap (addr_at mesh) same) | inr apart ↦ let up = is.rising i j (omega arith) lt in omega arith ]

pub falls_nowhere : (mesh : Nodes) → IsMesh mesh → IsNonDecreasingBy (λ p. p.0) mesh
falls_nowhere mesh is i j d le lt =
    rw (get_or_default mesh i d (0, 0) (omega arith), get_or_default mesh j d (0, 0) lt) (rising_le mesh i j is le lt)

-- an index with all lower addresses before it and none after it
pub record IsIndexFor (mesh : Nodes) (a index : ℕ) : Type 0 where
  pub within : index ≤ length mesh
  pub below : (i : ℕ) → i < index → addr_at mesh i < a
  pub above : (i : ℕ) → index ≤ i → i < length mesh → a ≤ addr_at mesh i

found : (mesh : Nodes) (a index : ℕ) → IsIndexFor mesh a index → (index < length mesh → addr_at mesh index ≡ a) → position_or_len (λ p. eqb p.0 a) mesh ≡ index
found mesh a index at is =
    position_or_len_is (λ p. eqb p.0 a) mesh index (0, 0) at.within
    (λ k lt. let below = at.below k lt in ne_eqb (addr_at mesh k) a (λ e. omega arith))
    (λ lt. eq-eqb (addr_at mesh index) a (is lt))

pub index_of-found : (mesh : Nodes) (a index : ℕ) → IsIndexFor mesh a index → index < length mesh → addr_at mesh index ≡ a → index_of mesh a ≡ Some index
unfolding index_of
index_of-found mesh a index at lt is =
    let e = found mesh a index at (λ _. is) in
    rw (e, lt-ltb index (length mesh) lt) refl

nowhere : (mesh : Nodes) (a index k : ℕ) → IsMesh mesh → IsIndexFor mesh a index → (index < length mesh → addr_at mesh index ≢ a) → k < length mesh → addr_at mesh k ≢ a
nowhere mesh a index k mesh_is at not lt e =
    elim (cases_lt k index) [
      | inl early ↦ let below = at.below k early in omega arith
      | inr late ↦
          elim (cases_eq k index) [
            | inl same ↦ not (subst (λ n. n < length mesh) same lt) (subst (λ n. addr_at mesh n ≡ a) same e)
            | inr other ↦
                let rises = mesh_is.rising index k (omega arith) lt in
                let from = at.above index (omega arith) (omega arith) in
                omega arith
          ]
    ]

pub index_of-absent : (mesh : Nodes) (a index : ℕ) → IsMesh mesh → IsIndexFor mesh a index → (index < length mesh → addr_at mesh index ≢ a) → index_of mesh a ≡ None
unfolding index_of
index_of-absent mesh a index mesh_is at not =
    let e = position_or_len_is (λ p. eqb p.0 a) mesh (length mesh) (0, 0) (omega arith)
    (λ k lt. ne_eqb (addr_at mesh k) a (nowhere mesh a index k mesh_is at not lt))
    (λ lt. absurd (omega arith)) in
    rw (e, le-ltb (length mesh) (length mesh) (omega arith)) refl

-- an absent address belongs at the index
pub with_node-is : (mesh : Nodes) (a first index : ℕ) → IsIndexFor mesh a index → (index < length mesh → addr_at mesh index ≢ a) → with_node mesh a first ≡ insert mesh index (a, first)
unfolding with_node
with_node-is mesh a first index at not =
    let e = position_or_len_is (λ p. ltb a p.0) mesh index (0, 0) at.within
    (λ k lt. let below = at.below k lt in le-ltb a (addr_at mesh k) (omega arith))
    (λ lt. let from = at.above index (omega arith) lt in let other = not lt in lt-ltb a (addr_at mesh index) (elim (cases_eq (addr_at mesh index) a) [ inl same ↦ absurd (other same) | inr apart ↦ omega arith ])) in
    rw e refl

-- what stands at an index after one more node
pub at_insert : (mesh : Nodes) (index : ℕ) (node : ℕ × ℕ) (i : ℕ) → index ≤ length mesh →
    ((i < index) × (get_or (insert mesh index node) i (0, 0) ≡ get_or mesh i (0, 0)))
    ⊎ ((i ≡ index) × (get_or (insert mesh index node) i (0, 0) ≡ node))
    ⊎ ((index < i) × (get_or (insert mesh index node) i (0, 0) ≡ get_or mesh (i - 1) (0, 0)))
at_insert mesh index node i le =
    elim (cases_lt i index) [
      | inl below ↦ inl (below, get_or-insert_below mesh index node (0, 0) i below le)
      | inr from ↦
          elim (cases_eq i index) [
            | inl same ↦ inr (inl (same, ap (λ n. get_or (insert mesh index node) n (0, 0)) same ∙ get_or-insert_at mesh index node (0, 0) le))
            | inr other ↦
                let back : i ≡ (i - 1) + 1 = omega arith in
                inr (inr (omega arith, ap (λ n. get_or (insert mesh index node) n (0, 0)) back ∙ get_or-insert_above mesh index node (0, 0) (i - 1) (omega arith) le))
          ]
    ]

abbrev Standing : Nodes → ℕ → ℕ × ℕ → ℕ → Type 0
Standing mesh index node i =
    ((i < index) × (get_or (insert mesh index node) i (0, 0) ≡ get_or mesh i (0, 0)))
    ⊎ ((i ≡ index) × (get_or (insert mesh index node) i (0, 0) ≡ node))
    ⊎ ((index < i) × (get_or (insert mesh index node) i (0, 0) ≡ get_or mesh (i - 1) (0, 0)))

-- an absent address at its index keeps the order
insert_rises : (mesh : Nodes) (a first index i j : ℕ) → IsMesh mesh → IsIndexFor mesh a index → (index < length mesh → addr_at mesh index ≢ a) → i < j → j < length mesh + 1
    → Standing mesh index (a, first) i → Standing mesh index (a, first) j → addr_at (insert mesh index (a, first)) i < addr_at (insert mesh index (a, first)) j
insert_rises mesh a first index i j is at not lt within (inl (early, x)) (inl (early', y)) =
    let up = is.rising i j lt (omega (arith, at.within)) in
    omega (arith, up, ap (λ p. p.0) x, ap (λ p. p.0) y)
insert_rises mesh a first index i j is at not lt within (inl (early, x)) (inr (inl (same, y))) =
    omega (arith, at.below i early, ap (λ p. p.0) x, ap (λ p. p.0) y)
insert_rises mesh a first index i j is at not lt within (inl (early, x)) (inr (inr (late, y))) =
    let below = at.below i early in
    let above = at.above (j - 1) (omega arith) (omega arith) in
    omega (arith, below, above, ap (λ p. p.0) x, ap (λ p. p.0) y)
insert_rises mesh a first index i j is at not lt within (inr (inl (same, x))) (inl (early', y)) = absurd (omega arith)
insert_rises mesh a first index i j is at not lt within (inr (inl (same, x))) (inr (inl (same', y))) = absurd (omega arith)
insert_rises mesh a first index i j is at not lt within (inr (inl (same, x))) (inr (inr (late, y))) =
    let there : index < length mesh = omega arith in
    let from = at.above index (omega arith) there in
    let up = rising_le mesh index (j - 1) is (omega arith) (omega arith) in
    let other = not there in
    elim (cases_eq (addr_at mesh index) a) [ inl e ↦ absurd (other e) | inr apart ↦ omega (arith, from, up, apart, ap (λ p. p.0) x, ap (λ p. p.0) y) ]
insert_rises mesh a first index i j is at not lt within (inr (inr (late, x))) (inl (early', y)) = absurd (omega arith)
insert_rises mesh a first index i j is at not lt within (inr (inr (late, x))) (inr (inl (same', y))) = absurd (omega arith)
insert_rises mesh a first index i j is at not lt within (inr (inr (late, x))) (inr (inr (late', y))) =
    let up = is.rising (i - 1) (j - 1) (omega arith) (omega arith) in
    omega (arith, up, ap (λ p. p.0) x, ap (λ p. p.0) y)

-- what each node has, each has after one more that has it
insert_each : (P : ℕ × ℕ → Type 0) (mesh : Nodes) (node : ℕ × ℕ) (index i : ℕ) → ((k : ℕ) → k < length mesh → P (get_or mesh k (0, 0))) → P node
    → i < length mesh + 1 → index ≤ length mesh → Standing mesh index node i → P (get_or (insert mesh index node) i (0, 0))
insert_each P mesh node index i each new within le (inl (early, x)) = subst P (sym x) (each i (omega arith))
insert_each P mesh node index i each new within le (inr (inl (same, x))) = subst P (sym x) new
insert_each P mesh node index i each new within le (inr (inr (late, x))) = subst P (sym x) (each (i - 1) (omega arith))

pub insert_is_mesh : (mesh : Nodes) (a first index : ℕ) → IsMesh mesh → IsIndexFor mesh a index → (index < length mesh → addr_at mesh index ≢ a) → length mesh < 200
    → 1 ≤ first → a < 2 ^ 32 → first < 2 ^ 32 → IsMesh (insert mesh index (a, first))
insert_is_mesh mesh a first index is at not few one a_fits first_fits =
    let longer : length (insert mesh index (a, first)) ≡ length mesh + 1 = length-insert mesh index (a, first) at.within in
    record {
      rising = λ i j lt within. insert_rises mesh a first index i j is at not lt (omega arith) (at_insert mesh index (a, first) i at.within) (at_insert mesh index (a, first) j at.within);
      few = omega arith;
      positive = λ i within. insert_each (λ p. 1 ≤ p.1) mesh (a, first) index i is.positive one (omega arith) at.within (at_insert mesh index (a, first) i at.within);
      addresses = λ i within. insert_each (λ p. p.0 < 2 ^ 32) mesh (a, first) index i is.addresses a_fits (omega arith) at.within (at_insert mesh index (a, first) i at.within);
      firsts = λ i within. insert_each (λ p. p.1 < 2 ^ 32) mesh (a, first) index i is.firsts first_fits (omega arith) at.within (at_insert mesh index (a, first) i at.within);
    }

-- where an address is absent, what stands at its index is another
pub absent_is : (mesh : Nodes) (a index : ℕ) → IsIndexFor mesh a index → index_of mesh a ≡ None → index < length mesh → addr_at mesh index ≢ a
absent_is mesh a index at none lt e =
    let there = index_of-found mesh a index at lt e in
    let clash : Some index ≡ None = sym there ∙ none in
    cc

-- the index in a list that is the mesh's
pub index_along : (xs mesh : Nodes) (a index : ℕ) → xs ≡ mesh → index ≤ length xs → ((i : ℕ) → i < index → addr_at xs i < a)
    → ((i : ℕ) → index ≤ i → i < length xs → a ≤ addr_at xs i) → IsIndexFor mesh a index
index_along xs mesh a index e within below above = subst (λ m. IsIndexFor m a index) e (record { within = within; below = below; above = above })

-- the node at an index of this address, along a list that is the mesh's
pub index_of-there : (xs mesh : Nodes) (a index : ℕ) → xs ≡ mesh → IsMesh mesh → index < length xs → addr_at xs index ≡ a → index_of mesh a ≡ Some index
index_of-there xs mesh a index e is lt here =
    let within : index < length mesh = subst (λ m. index < length m) e lt in
    let there : addr_at mesh index ≡ a = subst (λ m. addr_at m index ≡ a) e here in
    index_of-found mesh a index
    (record { within = omega arith; below = λ k early. subst (λ n. addr_at mesh k < n) there (is.rising k index early within); above = λ k late lt'. subst (λ n. n ≤ addr_at mesh k) there (rising_le mesh index k is late lt') })
    within there
