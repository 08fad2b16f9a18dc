-- The first pair that names no node.
use Rattle.std.proofs.Common.{◌≡◌, ℕ, zero, suc, ◌+◌, ◌≤◌, true, false, List, [], ◌∷◌, length, drop, Option, Some, None, refl, sym, ap, ◌∙◌, arith}
use Rattle.std.specs.Prelude.{slice_get, is_some}
use Rattle.std.proofs.lemmas.Option.{none-some, same_Some}
use Rattle.std.proofs.lemmas.List.{drop_all}
use Rattle.mesh_base.specs.declared.addr.Addr.{Addr}
use Rattle.mesh_base.specs.Meshes.{index_of}
use Rattle.aodv_meaning.specs.Meaning.{unless_in, strange_pair}

step' : (mesh : List (ℕ × ℕ)) (ps : List (Addr × ℕ)) (k : ℕ) (p : Addr × ℕ) → slice_get ps k ≡ Some p → strange_pair mesh (drop k ps) ≡ unless_in mesh p.0 (strange_pair mesh (drop (suc k) ps))
step' mesh [] k p e = absurd (none-some p e)
step' mesh (q ∷ ps) zero p e = ap (λ (r : Addr × ℕ). unless_in mesh r.0 (strange_pair mesh ps)) (same_Some q p e)
step' mesh (q ∷ ps) (suc k) p e = step' mesh ps k p e

pub step : (mesh : List (ℕ × ℕ)) (ps : List (Addr × ℕ)) (k : ℕ) (p : Addr × ℕ) → slice_get ps k ≡ Some p → strange_pair mesh (drop k ps) ≡ unless_in mesh p.0 (strange_pair mesh (drop (k + 1) ps))
step mesh ps k p e = let up : suc k ≡ k + 1 = omega arith in step' mesh ps k p e ∙ ap (λ (n : ℕ). unless_in mesh p.0 (strange_pair mesh (drop n ps))) up

pub hit : (mesh : List (ℕ × ℕ)) (ps : List (Addr × ℕ)) (k : ℕ) (p : Addr × ℕ) (o : Option ℕ) → slice_get ps k ≡ Some p → o ≡ index_of mesh (p.0).0 → is_some o ≡ false → strange_pair mesh (drop k ps) ≡ strange_pair mesh ps → Some p.0 ≡ strange_pair mesh ps
hit mesh ps k p o at is none so_far = sym (step mesh ps k p at ∙ rw (← is, none) refl) ∙ so_far

pub miss : (mesh : List (ℕ × ℕ)) (ps : List (Addr × ℕ)) (k : ℕ) (p : Addr × ℕ) (o : Option ℕ) → slice_get ps k ≡ Some p → o ≡ index_of mesh (p.0).0 → is_some o ≡ true → strange_pair mesh (drop k ps) ≡ strange_pair mesh ps → strange_pair mesh (drop (k + 1) ps) ≡ strange_pair mesh ps
miss mesh ps k p o at is some so_far = sym (step mesh ps k p at ∙ rw (← is, some) refl) ∙ so_far

pub ended : (mesh : List (ℕ × ℕ)) (ps : List (Addr × ℕ)) (k : ℕ) → length ps ≤ k → strange_pair mesh (drop k ps) ≡ strange_pair mesh ps → None ≡ strange_pair mesh ps
ended mesh ps k le so_far = ap (strange_pair mesh) (sym (drop_all k ps le)) ∙ so_far
