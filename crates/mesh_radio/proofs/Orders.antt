-- Two pairs are the same, or they differ.
use Rattle.std.proofs.Common.{◌≡◌, ℕ, ap, inl, inr, ◌⊎◌}
use Rattle.std.proofs.lemmas.Bool.{cases_eq}

pub cases_pair : (p q : ℕ × ℕ) → (p ≡ q) ⊎ (p ≡ q → ⊥)
cases_pair p q = elim (cases_eq p.0 q.0) [
  | inl x ↦ elim (cases_eq p.1 q.1) [ inl y ↦ inl (λ i. (x i, y i)) | inr ny ↦ inr (λ e. ny (ap (λ (r : ℕ × ℕ). r.1) e)) ]
  | inr nx ↦ inr (λ e. nx (ap (λ (r : ℕ × ℕ). r.0) e))
]
