-- A mesh with one more node.
use Rattle.std.proofs.Common.{◌≡◌, ◌≢◌, ℕ, ◌^◌, ◌<◌, ◌≤◌, not, ltb, length, Some, None, sym, ap, ◌∙◌, inl, inr, arith}
use Rattle.std.specs.List.{position_or_len}
use Rattle.std.proofs.lemmas.Bool.{cases_eq, ltb-true, ltb-false}
use Rattle.std.proofs.lemmas.List.Sums.{fails_before_first, passes_at_first, prefix_len-le-length}
use Rattle.mesh_base.specs.Meshes.{Nodes, IsMesh, addr_at, index_of, with_node}
use Rattle.mesh_base.proofs.MeshLaws.{rising_le, IsIndexFor, insert_is_mesh}
use Rattle.mesh_base.proofs.WrittenForms.{index_of-at}

pub absent_at : (mesh : Nodes) (a i : ℕ) → IsMesh mesh → index_of mesh a ≡ None → i < length mesh → addr_at mesh i ≢ a
absent_at mesh a i is none lt e =
    let there : index_of mesh a ≡ Some i = sym (ap (index_of mesh) e) ∙ index_of-at mesh i is lt in
    let clash : Some i ≡ None = sym there ∙ none in
    cc

-- before the first of a greater address
abbrev index_for : Nodes → ℕ → ℕ
index_for mesh a = position_or_len (λ p. ltb a p.0) mesh

is_index_for : (mesh : Nodes) (a : ℕ) → IsMesh mesh → index_of mesh a ≡ None → IsIndexFor mesh a (index_for mesh a)
is_index_for mesh a is none =
    let within : index_for mesh a ≤ length mesh = prefix_len-le-length (λ p. not (ltb a p.0)) mesh in
    record {
      within = within;
      below = λ i early.
          let le = ltb-false a (addr_at mesh i) (fails_before_first (λ p. ltb a p.0) mesh i (0, 0) early) in
          let other = absent_at mesh a i is none (omega arith) in
          elim (cases_eq (addr_at mesh i) a) [ inl same ↦ absurd (other same) | inr apart ↦ omega arith ];
      above = λ i late lt.
          let first = ltb-true a (addr_at mesh (index_for mesh a)) (passes_at_first (λ p. ltb a p.0) mesh (0, 0) (omega arith)) in
          let up = rising_le mesh (index_for mesh a) i is late lt in
          omega arith;
    }

-- one more node keeps the order
pub grown_is_mesh : (mesh : Nodes) (a first : ℕ) → IsMesh mesh → index_of mesh a ≡ None → length mesh < 200 → 1 ≤ first → a < 2 ^ 32 → first < 2 ^ 32
    → IsMesh (with_node mesh a first)
unfolding with_node
grown_is_mesh mesh a first is none few one a_fits first_fits =
    insert_is_mesh mesh a first (index_for mesh a) is (is_index_for mesh a is none) (λ lt. absent_at mesh a (index_for mesh a) is none lt) few one a_fits first_fits
