-- What one entry over another keeps of what is known through it.
use Rattle.std.proofs.Common.{◌≡◌, ℕ, ◌-◌, ◌<◌, ◌≤◌, ◌==◌, Some, None, Option, refl, sym, ◌∙◌, arith, inl, inr}
use Rattle.std.proofs.lemmas.Bool.Decides.{nat_tests}
use Rattle.aodv_model.specs.declared.entry.Entry.{Entry}
use Rattle.aodv_model.specs.declared.entry.Flag.TheVariants.{Inv, Val}
use Rattle.aodv_model.specs.declared.entry.Known.TheVariants.{Kno, Unk}
use Rattle.aodv_model.proofs.Entries.{Same, if_case, merged_shape}
use Rattle.aodv_model.specs.Tables.{Table, invalidated, add_pre_at, merge}
use Rattle.mesh_base.specs.Members.{NodeIds}
use Rattle.mesh_model.specs.Invariants.{AtLeast, IsAtLeast, IsBacked}

pub merged_keeps : (s r : Entry) (n h : ℕ) → r.flag ≡ Val → (r.dsk ≡ Unk → r.hops ≡ 1) → 1 ≤ s.hops → IsAtLeast s n h → IsAtLeast (merge s r) n h
unfolding merge
merged_keeps s r n h valid near hops enough = grind (arith, nat_tests)

pub merged_reaches : (s r : Entry) → r.flag ≡ Val → r.dsk ≡ Kno → IsAtLeast (merge s r) r.dsn r.hops
unfolding merge
merged_reaches s r valid known = grind (arith, nat_tests)

backed_same : (tables : ℕ → Table) (d : ℕ) (a b : Entry) → Same a b → IsBacked tables d b → IsBacked tables d a
backed_same tables d a b same backed = λ valid apart.
    let fact : AtLeast (tables b.next) d b.dsn (b.hops - 1) = backed (sym same.flag ∙ valid) (λ e. apart (same.next ∙ e)) in
    rw (same.next, same.dsn, same.hops) fact

pub merged_backed : (tables : ℕ → Table) (d : ℕ) (s r : Entry) → IsBacked tables d s → IsBacked tables d r → (r.dsk ≡ Unk → r.next ≡ d) → IsBacked tables d (merge s r)
merged_backed tables d s r a b near =
    elim (merged_shape s r) [
      | inl x ↦ elim x [ inl same ↦ backed_same tables d (merge s r) s same a | inr same ↦ backed_same tables d (merge s r) r same b ]
      | inr p ↦ λ valid apart. absurd (apart (p.1 ∙ near p.0))
    ]

pub invalidated_keeps : (e : Entry) (o : Option ℕ) (n h : ℕ) → 1 ≤ n → ((m : ℕ) → o ≡ Some m → (e.dsn ≤ m) × (1 ≤ e.dsn → e.dsn < m)) → IsAtLeast e n h → IsAtLeast (invalidated e o) n h
invalidated_keeps e None n h one up enough = enough
invalidated_keeps e (Some m) n h one up enough = inl (let above = (up m refl).1 in omega (arith, enough, above))

pub invalidated_backed : (tables : ℕ → Table) (d : ℕ) (e : Entry) (o : Option ℕ) → IsBacked tables d e → IsBacked tables d (invalidated e o)
invalidated_backed tables d e None backed = backed
invalidated_backed tables d e (Some m) backed = λ valid apart. absurd (wrong valid)
  where
    wrong : Inv ≡ Val → ⊥
    wrong v = cc

pub joined_keeps : (q d : ℕ) (nodes : NodeIds) (e : Entry) (n h : ℕ) → IsAtLeast e n h → IsAtLeast (add_pre_at d nodes q e) n h
joined_keeps q d nodes e n h enough = if_case (λ e. IsAtLeast e n h) (q == d) _ _ (λ _. enough) (λ _. enough)

pub joined_backed : (tables : ℕ → Table) (q d : ℕ) (nodes : NodeIds) (e : Entry) → IsBacked tables q e → IsBacked tables q (add_pre_at d nodes q e)
joined_backed tables q d nodes e backed = if_case (IsBacked tables q) (q == d) _ _ (λ _. backed) (λ _. backed)
