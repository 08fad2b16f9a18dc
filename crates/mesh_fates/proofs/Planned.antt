-- A copy that comes to a plan.
use Rattle.std.proofs.Common.{◌≡◌, ℕ, Bool, true, false, cond, ◌&&◌, ◌||◌, ltb, eqb, [], ◌∷◌, refl, sym, ap, ◌∙◌, arith, inl, inr}
use Rattle.std.specs.List.{AllByRecursion}
use Rattle.std.specs.Ordering.{nat_cmp, ordering_then, match_ordering}
use Rattle.std.specs.declared.cmp.Ordering.{Ordering}
use Rattle.std.specs.BTreeSet.{insert_key}
use Rattle.std.proofs.lemmas.Bool.{cases_order, lt-ltb, le-ltb, eq-eqb, ne_eqb}
use Rattle.mesh_fates.specs.declared.due.Due.{Due}
use Rattle.mesh_fates.specs.Plans.{Plan, is_before, with_due}

-- the order in which a plan is kept
abbrev pub due_cmp : Due → Due → Ordering
due_cmp a b = ordering_then (nat_cmp a.tick b.tick) (nat_cmp a.id b.id)

by_numbers : (t u i j : ℕ) (x y z : Plan) → match_ordering (ordering_then (nat_cmp t u) (nat_cmp i j)) x y z ≡ cond (ltb t u || (eqb t u && ltb i j)) x (cond (ltb u t || (eqb u t && ltb j i)) z y)
by_numbers t u i j x y z = elim (cases_order t u) [
  | inl same ↦ elim (cases_order i j) [
    | inl also ↦ rw (le-ltb t u (omega arith), eq-eqb t u same, le-ltb i j (omega arith), eq-eqb i j also, le-ltb u t (omega arith), eq-eqb u t (sym same), le-ltb j i (omega arith)) refl
    | inr (inl less) ↦ rw (le-ltb t u (omega arith), eq-eqb t u same, lt-ltb i j less) refl
    | inr (inr more) ↦ rw (le-ltb t u (omega arith), eq-eqb t u same, le-ltb i j (omega arith), ne_eqb i j (λ e. omega arith), le-ltb u t (omega arith), eq-eqb u t (sym same), lt-ltb j i more) refl
  ]
  | inr (inl less) ↦ rw (lt-ltb t u less) refl
  | inr (inr more) ↦ rw (le-ltb t u (omega arith), ne_eqb t u (λ e. omega arith), lt-ltb u t more) refl
]

-- the set that a plan is kept in puts a copy where the plan does
pub insert_is : (plan : Plan) (new : Due) → insert_key due_cmp plan new ≡ with_due plan new
unfolding with_due
insert_is [] new = refl
insert_is (d ∷ plan) new =
    by_numbers new.tick d.tick new.id d.id (new ∷ d ∷ plan) (d ∷ plan) (d ∷ insert_key due_cmp plan new)
    ∙ ap (λ (p : Plan). cond (is_before new d) (new ∷ d ∷ plan) (cond (is_before d new) (d ∷ p) (d ∷ plan))) (insert_is plan new)

-- what holds of each copy of a plan and of one more
pub all_with : (P : Due → Type 0) (plan : Plan) (new : Due) → AllByRecursion P plan → P new → AllByRecursion P (with_due plan new)
unfolding with_due
all_with P [] new all one = (one, tt)
all_with P (d ∷ plan) new all one = by_tests (is_before new d) (is_before d new) (all_with P plan new all.1 one)
  where
    by_tests : (a b : Bool) → AllByRecursion P (with_due plan new) → AllByRecursion P (cond a (new ∷ d ∷ plan) (cond b (d ∷ with_due plan new) (d ∷ plan)))
    by_tests true b rest = (one, all)
    by_tests false true rest = (all.0, rest)
    by_tests false false rest = all
