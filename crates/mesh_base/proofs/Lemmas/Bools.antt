-- Truth values.
use Rattle.std.proofs.Common.{◌≡◌, ℕ, Bool, true, false, cond, ◌&&◌, T, eqb, Option, Some, None, refl, sym, ◌∙◌, inl, inr, eq-eqb}
use Rattle.std.proofs.lemmas.Bool.{cases_eq, ne_eqb}

pub left_of_both : (a b : Bool) → T (a && b) → T a
left_of_both true b t = tt
left_of_both false b t = absurd t

pub right_of_both : (a b : Bool) → T (a && b) → T b
right_of_both true b t = t
right_of_both false b t = absurd t

-- what is there although a test might have barred it
pub not_barred : {A : Type 0} (b : Bool) (o : Option A) (y : A) → cond b None o ≡ Some y → (b ≡ false) × (o ≡ Some y)
not_barred true o y e = absurd (let P : ⊥ = cc in P)
not_barred false o y e = (refl, e)

pub eqb_turned : (x y : ℕ) → eqb x y ≡ eqb y x
eqb_turned x y = elim (cases_eq x y) [
  | inl is ↦ eq-eqb x y is ∙ sym (eq-eqb y x (sym is))
  | inr other ↦ ne_eqb x y other ∙ sym (ne_eqb y x (λ is. other (sym is)))
]
