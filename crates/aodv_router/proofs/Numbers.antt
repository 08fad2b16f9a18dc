-- Each node of a mesh has the first number of its address.
use Rattle.std.proofs.Common.{◌≡◌, ℕ, ◌+◌, ◌-◌, ◌<◌, ◌≤◌, not, ltb, List, [], ◌∷◌, Some, Ok, length, insert, get_or, refl, sym, ap, subst, ◌∙◌, arith, inl, inr}
use Rattle.std.specs.List.{position_or_len}
use Rattle.std.proofs.lemmas.Bool.{cases_lt, cases_eq}
use Rattle.std.proofs.lemmas.List.Edits.{length-insert, get_or-insert_at, get_or-insert_below, get_or-insert_above}
use Rattle.std.proofs.lemmas.List.Sums.{prefix_len-le-length}
use Rattle.mesh_base.specs.Meshes.{Nodes, first_at, index_of, with_node}
use Rattle.aodv_meaning.proofs.Means.{index_there}
use Rattle.mesh_base.specs.declared.events.Variant.{Variant}
use Rattle.aodv_model.specs.Cores.{Core, opening}
use Rattle.aodv_router.specs.Meshes.{joined, joins_then, all_joined, number_for, AreNumbered}

pub numbered_none : (me first : ℕ) → AreNumbered me first []
numbered_none me first = λ i lt. absurd (omega arith)

-- a node after one more at this index: before it, at it, or after it
node_there : (P : ℕ × ℕ → Type 0) (mesh : Nodes) (index : ℕ) (node : ℕ × ℕ) (i : ℕ) → index ≤ length mesh → i < length mesh + 1
    → ((j : ℕ) → j < length mesh → P (get_or mesh j (0, 0))) → P node → P (get_or (insert mesh index node) i (0, 0))
node_there P mesh index node i le lt each at =
    elim (cases_lt i index) [
      | inl early ↦ subst P (sym (get_or-insert_below mesh index node (0, 0) i early le)) (each i (omega arith))
      | inr late ↦
          elim (cases_eq i index) [
            | inl same ↦
                subst P (sym (ap (λ k. get_or (insert mesh index node) k (0, 0)) same ∙ get_or-insert_at mesh index node (0, 0) le)) at
            | inr other ↦
                let next : i ≡ (i - 1) + 1 = omega arith in
                let from : index ≤ i - 1 = omega arith in
                subst P (sym (ap (λ k. get_or (insert mesh index node) k (0, 0)) next ∙ get_or-insert_above mesh index node (0, 0) (i - 1) from le)) (each (i - 1) (omega arith))
          ]
    ]

-- one more node with its number
pub numbered_more : (me first : ℕ) (mesh : Nodes) (a : ℕ) → AreNumbered me first mesh → AreNumbered me first (with_node mesh a (number_for me first a))
unfolding with_node
numbered_more me first mesh a is =
    let index : ℕ = position_or_len (λ p. ltb a p.0) mesh in
    let le : index ≤ length mesh = prefix_len-le-length (λ p. not (ltb a p.0)) mesh in
    let node : ℕ × ℕ = (a, number_for me first a) in
    λ i lt. node_there (λ q. q.1 ≡ number_for me first q.0) mesh index node i le (omega (arith, lt, length-insert mesh index node le)) is refl

-- so the router's own has the number that was given
pub own_number : (me first i : ℕ) (mesh : Nodes) → AreNumbered me first mesh → index_of mesh me ≡ Some i → first_at mesh i ≡ first
own_number me first i mesh is e =
    let there = index_there mesh me i e in
    is i there.0 ∙ ap (number_for me first) there.2 ∙ own me first
  where
    own : (me first : ℕ) → number_for me first me ≡ first
    own me first = grind arith

-- the next address joins
pub all_joined_step : (me first : ℕ) (nodes more : Nodes) (a : ℕ) (rest : List ℕ) → joined nodes a (number_for me first a) ≡ Ok more
    → all_joined me first nodes (a ∷ rest) ≡ all_joined me first more rest
unfolding all_joined
all_joined_step me first nodes more a rest e = ap (λ o. joins_then o (λ m. all_joined me first m rest)) e

-- an opening core with the number that was given
pub opened_at : (core : Core) (v : Variant) (i n first : ℕ) → core ≡ opening v i n → n ≡ first → core ≡ opening v core.ip first
opened_at core v i n first e f = e ∙ (λ k. opening v (ap (λ (c : Core). c.ip) (sym e) k) (f k))
