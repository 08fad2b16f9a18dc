-- Which links stand after the changes that follow where a node comes to a place.
use Rattle.std.proofs.Common.{◌≡◌, ◌≢◌, ◌⊎◌, inl, inr, ℕ, zero, suc, ◌<◌, ◌≤◌, Bool, true, false, cond, eqb, [], ◌∷◌, Option, Some, None, length, sym, ap, subst, ◌∙◌, arith}
use Rattle.std.specs.Prelude.{min, max}
use Rattle.std.specs.FinSet as sets
use Rattle.std.proofs.lemmas.Bool.{ne_eqb, cases_lt}
use Rattle.mesh_base.specs.Members.{NodeIds}
use Rattle.mesh_base.proofs.Lemmas.Sets.{insert_here, insert_other, remove_here, remove_other}
use Rattle.aodv_model.specs.Pairs.{Pairs}
use Rattle.aodv_model.proofs.PairLaws.{pair_cmp_total, same_pair}
use Rattle.mesh_grammar.proofs.Readings.{if_case}
use Rattle.mesh_model.specs.Worlds.{World, Link, Cut, Changed, Idle, Next, step, after, run, pair, are_linked, range, with_link, without_link}
use Rattle.mesh_model.proofs.Links.{pair_turned, pair_apart, below_has}
use Rattle.mesh_text.proofs.RunLaws.{run_append, run_none, run_one}
use Rattle.mesh_grid.specs.declared.place.Place.{Place}
use Rattle.mesh_grid.specs.declared.place.Places.{Places}
use Rattle.mesh_grid.specs.declared.line.Placing.{Placing}
use Rattle.mesh_grid.specs.Places.{is_within, place_of}
use Rattle.mesh_grid.specs.Links.{change, change_with, change_at, changes_below}

-- ---- pairs

pair_again : (a b : ℕ) → pair (min a b) (max a b) ≡ pair a b
pair_again a b =
    let x : min (min a b) (max a b) ≡ min a b = omega arith in
    let y : max (min a b) (max a b) ≡ max a b = omega arith in
    λ i. (x i, y i)

pub linked_turned : (links : Pairs) (a b : ℕ) → are_linked links a b ≡ are_linked links b a
linked_turned links a b = ap (sets.contains links) (pair_turned a b)

-- ---- one change

linking : (w : World) (a b : ℕ) → are_linked w.links a b ≡ false → after w (step w (Link a b)) ≡ with_link w a b
unfolding step
linking w a b is = ap (λ c. after w (cond c Idle (Next (with_link w a b) Changed))) is

cutting : (w : World) (a b : ℕ) → are_linked w.links a b ≡ true → after w (step w (Cut a b)) ≡ without_link w a b
unfolding step
cutting w a b is = ap (λ c. after w (cond c (Next (without_link w a b) Changed) Idle)) is

linked_links : (w : World) (x y : ℕ) → are_linked w.links x y ≡ false
    → (run w (Link (min x y) (max x y) ∷ [])).links ≡ sets.insert w.links (pair x y)
linked_links w x y is =
    ap (λ v. v.links) (run_one w (Link (min x y) (max x y)) ∙ linking w (min x y) (max x y) (ap (sets.contains w.links) (pair_again x y) ∙ is))
    ∙ ap (sets.insert w.links) (pair_again x y)

cut_links : (w : World) (x y : ℕ) → are_linked w.links x y ≡ true
    → (run w (Cut (min x y) (max x y) ∷ [])).links ≡ sets.remove w.links (pair x y)
cut_links w x y is =
    ap (λ v. v.links) (run_one w (Cut (min x y) (max x y)) ∙ cutting w (min x y) (max x y) (ap (sets.contains w.links) (pair_again x y) ∙ is))
    ∙ ap (sets.remove w.links) (pair_again x y)

-- the pair itself is linked where it is within reach
change_here : (w : World) (in_reach stands : Bool) (x y : ℕ) → are_linked w.links x y ≡ stands → are_linked (run w (change in_reach stands x y)).links x y ≡ in_reach
change_here w true true x y is = ap (λ v. are_linked v.links x y) (run_none w) ∙ is
change_here w false false x y is = ap (λ v. are_linked v.links x y) (run_none w) ∙ is
change_here w true false x y is = ap (λ s. sets.contains s (pair x y)) (linked_links w x y is) ∙ insert_here pair_cmp_total same_pair w.links (pair x y)
change_here w false true x y is = ap (λ s. sets.contains s (pair x y)) (cut_links w x y is) ∙ remove_here pair_cmp_total same_pair w.links (pair x y)

-- any other pair is linked as it was
change_there : (w : World) (in_reach stands : Bool) (x y a b : ℕ) → are_linked w.links x y ≡ stands → pair a b ≢ pair x y
    → are_linked (run w (change in_reach stands x y)).links a b ≡ are_linked w.links a b
change_there w true true x y a b is apart = ap (λ v. are_linked v.links a b) (run_none w)
change_there w false false x y a b is apart = ap (λ v. are_linked v.links a b) (run_none w)
change_there w true false x y a b is apart = ap (λ s. sets.contains s (pair a b)) (linked_links w x y is) ∙ insert_other pair_cmp_total same_pair w.links (pair x y) (pair a b) apart
change_there w false true x y a b is apart = ap (λ s. sets.contains s (pair a b)) (cut_links w x y is) ∙ remove_other pair_cmp_total same_pair w.links (pair x y) (pair a b) apart

-- ---- the changes with all nodes

-- whether x at p and a node are linked, where the node has a place; else as they were
abbrev pub linked_with : ℕ → Place → Option Place → Bool → Bool
linked_with reach p None stands = stands
linked_with reach p (Some q) stands = is_within reach p q

with_here : (w : World) (reach x : ℕ) (p : Place) (y : ℕ) (o : Option Place) (stands : Bool) → are_linked w.links x y ≡ stands
    → are_linked (run w (change_with reach x p y o stands)).links x y ≡ linked_with reach p o (are_linked w.links x y)
with_here w reach x p y None stands is = ap (λ v. are_linked v.links x y) (run_none w)
with_here w reach x p y (Some q) stands is = change_here w (is_within reach p q) stands x y is

with_there : (w : World) (reach x : ℕ) (p : Place) (y : ℕ) (o : Option Place) (stands : Bool) (a b : ℕ) → are_linked w.links x y ≡ stands → pair a b ≢ pair x y
    → are_linked (run w (change_with reach x p y o stands)).links a b ≡ are_linked w.links a b
with_there w reach x p y None stands a b is apart = ap (λ v. are_linked v.links a b) (run_none w)
with_there w reach x p y (Some q) stands a b is apart = change_there w (is_within reach p q) stands x y a b is apart

module _ (reach : ℕ) (places : Places) (near : NodeIds) (new : Placing) where
  abbrev x : ℕ
  x = new.node

  at_here : (w : World) (y : ℕ) → y ≢ x → are_linked w.links x y ≡ sets.contains near y
      → are_linked (run w (change_at reach places near new y)).links x y ≡ linked_with reach new.place (place_of places y) (are_linked w.links x y)
  at_here w y apart is =
      ap (λ c. are_linked (run w (cond c [] (change_with reach x new.place y (place_of places y) (sets.contains near y)))).links x y) (ne_eqb y x apart)
      ∙ with_here w reach x new.place y (place_of places y) (sets.contains near y) is

  at_there : (w : World) (y a b : ℕ) → are_linked w.links x y ≡ sets.contains near y → pair a b ≢ pair x y
      → are_linked (run w (change_at reach places near new y)).links a b ≡ are_linked w.links a b
  at_there w y a b is apart =
      if_case (λ es. are_linked (run w es).links a b ≡ are_linked w.links a b) (eqb y x) [] (change_with reach x new.place y (place_of places y) (sets.contains near y))
      (λ _. ap (λ v. are_linked v.links a b) (run_none w)) (λ _. with_there w reach x new.place y (place_of places y) (sets.contains near y) a b is apart)

  module _ (w : World) (size : ℕ) (is : (y : ℕ) → y < size → are_linked w.links x y ≡ sets.contains near y) where
    abbrev then_world : ℕ → World
    then_world n = run w (changes_below reach places near new n)

    more : (n : ℕ) → then_world (suc n) ≡ run (then_world n) (change_at reach places near new n)
    more n = run_append w (changes_below reach places near new n) (change_at reach places near new n)

    -- a pair that no change is about is linked as it was
    pub unchanged : (n : ℕ) → n ≤ size → (a b : ℕ) → ((y : ℕ) → y < n → pair a b ≢ pair x y) → are_linked (then_world n).links a b ≡ are_linked w.links a b
    unchanged zero within a b apart = ap (λ v. are_linked v.links a b) (run_none w)
    unchanged (suc n) within a b apart =
        ap (λ v. are_linked v.links a b) (more n)
        ∙ at_there (then_world n) n a b (unchanged n (omega arith) x n (λ y lt. pair_apart x n y (λ same. absurd (omega arith))) ∙ is n (omega arith)) (apart n (omega arith))
        ∙ unchanged n (omega arith) a b (λ y lt. apart y (omega arith))

    -- x and a node are linked as their places say
    pub changed : (n : ℕ) → n ≤ size → (y : ℕ) → y < n → y ≢ x
        → are_linked (then_world n).links x y ≡ linked_with reach new.place (place_of places y) (are_linked w.links x y)
    changed zero within y lt apart = absurd (omega arith)
    changed (suc n) within y lt apart = by (cases_lt y n) (λ before. changed n (omega arith) y before apart)
      where
        still : are_linked (then_world n).links x n ≡ are_linked w.links x n
        still = unchanged n (omega arith) x n (λ z lt. pair_apart x n z (λ same. absurd (omega arith)))

        by : (y < n) ⊎ (n ≤ y) → (y < n → are_linked (then_world n).links x y ≡ linked_with reach new.place (place_of places y) (are_linked w.links x y))
            → are_linked (then_world (suc n)).links x y ≡ linked_with reach new.place (place_of places y) (are_linked w.links x y)
        by (inl before) rest =
            ap (λ v. are_linked v.links x y) (more n)
            ∙ at_there (then_world n) n x y (still ∙ is n (omega arith)) (pair_apart x y n (λ same. absurd (omega arith)))
            ∙ rest before
        by (inr late) rest =
            let same : y ≡ n = omega arith in
            subst (λ z. are_linked (then_world (suc n)).links x z ≡ linked_with reach new.place (place_of places z) (are_linked w.links x z)) (sym same)
            (ap (λ v. are_linked v.links x n) (more n)
            ∙ at_here (then_world n) n (λ here. apart (same ∙ here)) (still ∙ is n (omega arith))
            ∙ ap (linked_with reach new.place (place_of places n)) still)

-- ---- the nodes in range

pub range_is : (w : World) (x y : ℕ) → y < length w.nodes → are_linked w.links x y ≡ sets.contains (range w x) y
unfolding range
range_is w x y lt = sym (below_has w.links x (length w.nodes) y lt)
