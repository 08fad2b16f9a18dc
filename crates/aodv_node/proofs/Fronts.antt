-- The item at the front.
use Rattle.std.proofs.Common.{◌≡◌, List, [], ◌∷◌, drop, Option, Some, None, refl, sym, subst, ◌∙◌}
use Rattle.std.specs.Prelude.{slice_get}
use Rattle.std.specs.List.{AllByRecursion}
use Rattle.std.proofs.lemmas.Option.{none-some, same_Some}

pub front_of : {X : Type 0} (xs : List X) (x : X) (rest : List X) (o : Option X) → o ≡ slice_get xs 0 → o ≡ Some x → rest ≡ drop 1 xs → xs ≡ x ∷ rest
front_of [] x rest o e s r = absurd (none-some x (sym e ∙ s))
front_of (y ∷ ys) x rest o e s r = λ i. same_Some y x (sym e ∙ s) i ∷ sym r i

pub none_of : {X : Type 0} (xs : List X) (o : Option X) → o ≡ slice_get xs 0 → o ≡ None → xs ≡ []
none_of [] o e s = refl
none_of (y ∷ ys) o e s = absurd (none-some y (sym s ∙ e))

pub first_has : {X : Type 0} (P : X → Type 0) (xs : List X) (x : X) (o : Option X) → AllByRecursion P xs → o ≡ slice_get xs 0 → o ≡ Some x → P x
first_has P [] x o all e s = absurd (none-some x (sym e ∙ s))
first_has P (y ∷ ys) x o all e s = subst P (same_Some y x (sym e ∙ s)) all.0
