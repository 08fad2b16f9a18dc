use Rattle.std.proofs.Common.{◌≡◌, ℕ, true, Some, None, List, [], ◌∷◌, length, refl, sym, ap, ◌∙◌, arith}
use Rattle.std.specs.Prelude.{slice_get, is_some}
use Rattle.mesh_base.specs.declared.addr.Addr.{Addr}
use Rattle.mesh_base.specs.Meshes.{Nodes, index_of}
use Rattle.aodv_meaning.specs.Meaning.{strange_pair}
use Rattle.mesh_tests.proofs.handlers.is_one_known.Goals as goal

one_known : (mesh : Nodes) (pairs : List (Addr × ℕ)) (p : Addr × ℕ) → length pairs ≡ 1 → slice_get pairs 0 ≡ Some p → is_some (index_of mesh p.0.0) ≡ true → strange_pair mesh pairs ≡ None
one_known mesh [] p one is t = absurd (omega arith)
one_known mesh (q ∷ []) p one is t =
    let same : q ≡ p = cc in
    let there : is_some (index_of mesh q.0.0) ≡ true = ap (λ (p : Addr × ℕ). is_some (index_of mesh p.0.0)) same ∙ t in
    rw there refl
one_known mesh (q ∷ r ∷ ps) p one is t = absurd (omega arith)

pub returns-then-len-eq1 : goal.returns-then-len-eq1
returns-then-len-eq1 c t = one_known c.args.mesh.now c.args.m.now c.pair.result (sym c.len.ensures.count ∙ c.if-len-eq1.true) c.pair.ensures (ap is_some (sym c.index_of.ensures.value) ∙ sym c.is_some.ensures ∙ t)
