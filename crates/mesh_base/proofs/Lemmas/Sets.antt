-- The members of a set with one more, and with one less.
use Rattle.std.proofs.Common.{◌≡◌, ◌≢◌, true, false, not, ◌&&◌, ◌||◌, refl, ap, ◌∙◌}
use Rattle.std.specs.declared.cmp.Ordering.{Ordering}
use Rattle.std.specs.declared.cmp.Ordering.TheVariants.{Equal}
use Rattle.std.specs.Ordering.{eq_by_cmp, is_eq}
use Rattle.std.specs.Cmp.{IsTotalOrder, Equal-is, tied_itself}
use Rattle.std.specs.FinSet.{FinSet, contains, insert, remove, contains-insert, contains-remove}

module _ {K : Type 0} {R : K → K → Ordering} (o : IsTotalOrder R) (same : (p q : K) → R p q ≡ Equal → p ≡ q) where
  other : (q k : K) → q ≢ k → eq_by_cmp R q k ≡ false
  other q k ne = elim (eq_by_cmp R q k) as (λ b. eq_by_cmp R q k ≡ b → b ≡ false) [ true ↦ λ e. absurd (ne (same q k ((Equal-is (R q k)).0 e))) | false ↦ λ _. refl ] refl

  pub insert_here : (s : FinSet R) (k : K) → contains (insert s k) k ≡ true
  insert_here s k = contains-insert o s k k ∙ ap (λ b. b || contains s k) (ap is_eq (tied_itself o k))

  pub insert_other : (s : FinSet R) (k q : K) → q ≢ k → contains (insert s k) q ≡ contains s q
  insert_other s k q ne = contains-insert o s k q ∙ ap (λ b. b || contains s q) (other q k ne)

  pub remove_here : (s : FinSet R) (k : K) → contains (remove s k) k ≡ false
  remove_here s k = contains-remove o s k k ∙ ap (λ b. not b && contains s k) (ap is_eq (tied_itself o k))

  pub remove_other : (s : FinSet R) (k q : K) → q ≢ k → contains (remove s k) q ≡ contains s q
  remove_other s k q ne = contains-remove o s k q ∙ ap (λ b. not b && contains s q) (other q k ne)
