-- The pair of a link, and the nodes in range.
use Rattle.std.proofs.Common.{◌≡◌, ◌≢◌, inl, inr, ℕ, zero, suc, ◌<◌, ◌≤◌, true, false, cond, refl, sym, ap, ◌∙◌, arith}
use Rattle.std.specs.Prelude.{min, max}
use Rattle.std.specs.Ordering.{nat_cmp}
use Rattle.std.specs.Cmp.{nat_cmp_total}
use Rattle.std.specs.FinSet.{contains, insert, contains-empty, nat_cmp-IsAntisymmetric}
use Rattle.std.proofs.lemmas.Bool.{cases_eq}
use Rattle.mesh_base.proofs.Lemmas.Sets.{insert_here, insert_other}
use Rattle.aodv_model.specs.Pairs.{Pairs}
use Rattle.mesh_model.specs.Worlds.{pair, are_linked, linked_below}

-- ---- pairs

pub pair_up : (a b : ℕ) → a < b → pair a b ≡ (a, b)
pair_up a b lt = let x : min a b ≡ a = omega (arith, lt) in let y : max a b ≡ b = omega (arith, lt) in λ i. (x i, y i)

pub pair_turned : (a b : ℕ) → pair a b ≡ pair b a
pair_turned a b = let x : min a b ≡ min b a = omega arith in let y : max a b ≡ max b a = omega arith in λ i. (x i, y i)

pub pair_apart : (x y z : ℕ) → y ≢ z → pair x y ≢ pair x z
pair_apart x y z apart same =
    let low : min x y ≡ min x z = ap (λ p. p.0) same in
    let high : max x y ≡ max x z = ap (λ p. p.1) same in
    apart (omega arith)

-- ---- the nodes below n to which a link leads

pub below_hit : (links : Pairs) (a n q : ℕ) → q < n → are_linked links a q ≡ true → contains (linked_below links a n) q ≡ true
below_hit links a zero q lt is = absurd (omega arith)
below_hit links a (suc n) q lt is = elim (cases_eq q n) [
  | inl same ↦
      let here : are_linked links a n ≡ true = ap (are_linked links a) (sym same) ∙ is in
      rw (here, same) (insert_here nat_cmp_total nat_cmp-IsAntisymmetric (linked_below links a n) n)
  | inr ne ↦
      let before = below_hit links a n q (omega arith) is in
      elim (are_linked links a n) as (λ b. contains (cond b (insert (linked_below links a n) n) (linked_below links a n)) q ≡ true) [
        | true ↦ insert_other nat_cmp_total nat_cmp-IsAntisymmetric (linked_below links a n) n q ne ∙ before
        | false ↦ before
      ]
]

pub below_miss : (links : Pairs) (a n q : ℕ) → (q < n → are_linked links a q ≡ false) → contains (linked_below links a n) q ≡ false
below_miss links a zero q none = contains-empty nat_cmp q
below_miss links a (suc n) q none =
    let before = below_miss links a n q (λ lt. none (omega arith)) in
    elim (are_linked links a n) as (λ b. are_linked links a n ≡ b → contains (cond b (insert (linked_below links a n) n) (linked_below links a n)) q ≡ false) [
      | true ↦ λ is. insert_other nat_cmp_total nat_cmp-IsAntisymmetric (linked_below links a n) n q (λ e.
          let off = none (omega arith) in
          let on : are_linked links a q ≡ true = ap (are_linked links a) e ∙ is in
          cc) ∙ before
      | false ↦ λ _. before
    ] refl

pub below_has : (links : Pairs) (a n q : ℕ) → q < n → contains (linked_below links a n) q ≡ are_linked links a q
below_has links a n q lt = elim (are_linked links a q) as (λ b. are_linked links a q ≡ b → contains (linked_below links a n) q ≡ b) [
  | true ↦ λ is. below_hit links a n q lt is
  | false ↦ λ is. below_miss links a n q (λ _. is)
] refl
