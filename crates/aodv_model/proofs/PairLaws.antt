-- The order of pairs.
use Rattle.std.proofs.Common.{◌≡◌, ℕ, refl}
use Rattle.std.specs.declared.cmp.Ordering.{Ordering}
use Rattle.std.specs.declared.cmp.Ordering.TheVariants.{Less, Equal, Greater}
use Rattle.std.specs.Ordering.{nat_cmp, ordering_then}
use Rattle.std.specs.Cmp.{IsTotalOrder, nat_cmp_total, then_total, on_total}
use Rattle.std.specs.FinSet.{nat_cmp-IsAntisymmetric}
use Rattle.aodv_model.specs.Pairs.{pair_cmp}

pub pair_cmp_total : IsTotalOrder pair_cmp
pair_cmp_total = then_total (on_total (λ p. p.0) nat_cmp_total) (on_total (λ p. p.1) nat_cmp_total)

both : (r s : Ordering) → ordering_then r s ≡ Equal → (r ≡ Equal) × (s ≡ Equal)
both Less s e = cc
both Equal s e = (refl, e)
both Greater s e = cc

pub same_pair : (p q : ℕ × ℕ) → pair_cmp p q ≡ Equal → p ≡ q
same_pair p q e =
    let b = both (nat_cmp p.0 q.0) (nat_cmp p.1 q.1) e in
    let x : p.0 ≡ q.0 = nat_cmp-IsAntisymmetric p.0 q.0 b.0 in
    let y : p.1 ≡ q.1 = nat_cmp-IsAntisymmetric p.1 q.1 b.1 in
    λ i. (x i, y i)
