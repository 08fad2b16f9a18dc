-- The mesh of a schedule's first nodes.
use Rattle.std.proofs.Common.{◌≡◌, ℕ, zero, suc, ◌+◌, ◌<◌, ◌≤◌, length, None, insert, refl, ap, ◌∙◌, inl, inr, arith}
use Rattle.std.proofs.lemmas.List.Edits.{length-insert}
use Rattle.mesh_base.specs.Meshes.{Nodes, IsMesh, addr_at, index_of, with_node}
use Rattle.mesh_base.proofs.MeshLaws.{IsIndexFor, index_of-absent, with_node-is, at_insert}
use Rattle.mesh_base.proofs.Grown.{grown_is_mesh}
use Rattle.mesh_text.specs.Ranges.{IsNewNode}
use Rattle.mesh_make.specs.Made.{node_address, mesh_of}

-- a mesh of k nodes, with the addresses of a schedule
pub record IsMeshOf (k : ℕ) (mesh : Nodes) : Type 0 where
  pub size : length mesh ≡ k
  pub named : (i : ℕ) → i < k → addr_at mesh i ≡ node_address i
  pub is_mesh : IsMesh mesh

module _ (k : ℕ) (mesh : Nodes) (few : k < 200) (is : IsMeshOf k mesh) where
  last : IsIndexFor mesh (node_address k) (length mesh)
  last = record {
    within = omega arith;
    below = λ i early. let at = is.named i (omega (arith, is.size)) in omega (arith, is.size);
    above = λ i late lt. absurd (omega arith);
  }

  absent : index_of mesh (node_address k) ≡ None
  absent = index_of-absent mesh (node_address k) (length mesh) is.is_mesh last (λ lt. absurd (omega arith))

  pub is_new : IsNewNode mesh (node_address k) 1
  is_new = record { fits = omega arith; absent = absent; few = omega (arith, is.size); positive = omega arith; most = omega arith }

  at : (i : ℕ) → i < k + 1 → addr_at (insert mesh (length mesh) (node_address k, 1)) i ≡ node_address i
  at i lt =
      elim (at_insert mesh (length mesh) (node_address k, 1) i (omega arith)) [
        | inl early ↦ ap (λ p. p.0) early.1 ∙ is.named i (omega (arith, early.0, is.size))
        | inr (inl here) ↦ ap (λ p. p.0) here.1 ∙ ap node_address (let same : k ≡ i = omega (arith, here.0, is.size) in same)
        | inr (inr late) ↦ absurd (omega (arith, late.0, is.size))
      ]

  pub grown : IsMeshOf (k + 1) (with_node mesh (node_address k) 1)
  grown =
      let there : with_node mesh (node_address k) 1 ≡ insert mesh (length mesh) (node_address k, 1) = with_node-is mesh (node_address k) 1 (length mesh) last (λ lt. absurd (omega arith)) in
      record {
        size = ap length there ∙ length-insert mesh (length mesh) (node_address k, 1) (omega arith) ∙ ap (λ n. n + 1) is.size;
        named = λ i lt. ap (λ m. addr_at m i) there ∙ at i lt;
        is_mesh = grown_is_mesh mesh (node_address k) 1 is.is_mesh absent (omega (arith, is.size)) (omega arith) (omega arith) (omega arith);
      }

pub mesh_of-is : (k : ℕ) → k ≤ 200 → IsMeshOf k (mesh_of k)
unfolding mesh_of
mesh_of-is zero le = record {
  size = refl;
  named = λ i lt. absurd (omega arith);
  is_mesh = record { rising = λ i j lt within. absurd (omega arith); few = omega arith; positive = λ i lt. absurd (omega arith); addresses = λ i lt. absurd (omega arith); firsts = λ i lt. absurd (omega arith) };
}
mesh_of-is (suc k) le =
    let one_more = grown k (mesh_of k) (omega arith) (mesh_of-is k (omega arith)) in
    record { size = one_more.size ∙ (let e : k + 1 ≡ suc k = omega arith in e); named = λ i lt. one_more.named i (omega arith); is_mesh = one_more.is_mesh }

pub next_mesh : (k : ℕ) → with_node (mesh_of k) (node_address k) 1 ≡ mesh_of (k + 1)
unfolding mesh_of
next_mesh k = ap mesh_of (let e : suc k ≡ k + 1 = omega arith in e)
