-- Rising addresses, one after another.
use Rattle.std.proofs.Common.{◌≡◌, ℕ, ◌+◌, ◌≤◌, ◌<◌, ◌↔◌, List, [], ◌∷◌, length, drop, Some, sym, subst, arith}
use Rattle.std.specs.Prelude.{slice_get}
use Rattle.std.proofs.lemmas.List.{drop_all}
use Rattle.mesh_base.specs.declared.addr.Addr.{Addr}
use Rattle.aodv_wire.specs.RouteError.{IsRising}
use Rattle.mesh_sound.proofs.Indices.{from}

-- the addresses rise from this one on
abbrev pub RisesFrom : ℕ → List (Addr × ℕ) → Type 0
RisesFrom low [] = Unit {0}
RisesFrom low (p ∷ ps) = (low ≤ p.0.0) × RisesFrom (p.0.0 + 1) ps

behind : (p : Addr × ℕ) (ps : List (Addr × ℕ)) → IsRising (p ∷ ps) ↔ RisesFrom (p.0.0 + 1) ps
behind p [] = (λ _. tt, λ _. tt)
behind p (q ∷ ps) = (
  λ is. (let lt = is.0 in omega arith, (behind q ps).0 is.1),
  λ is. (let le = is.0 in omega arith, (behind q ps).1 is.1),
)

-- the pairs rise where those from an index on rise from an address on
abbrev pub IsLeft : List (Addr × ℕ) → ℕ → ℕ → Type 0
IsLeft ps k low = IsRising ps ↔ RisesFrom low (drop k ps)

pub begins : (ps : List (Addr × ℕ)) → IsLeft ps 0 0
begins [] = (λ _. tt, λ _. tt)
begins (p ∷ ps) = (λ is. (omega arith, (behind p ps).0 is), λ is. (behind p ps).1 is.1)

pub goes_on : (ps : List (Addr × ℕ)) (k low : ℕ) (p : Addr × ℕ) → slice_get ps k ≡ Some p → low ≤ p.0.0 → IsLeft ps k low → IsLeft ps (k + 1) (p.0.0 + 1)
goes_on ps k low p is le left = (
  λ rising. (subst (RisesFrom low) (from ps k p is) (left.0 rising)).1,
  λ rest. left.1 (subst (RisesFrom low) (sym (from ps k p is)) (le, rest)),
)

pub falls : (ps : List (Addr × ℕ)) (k low : ℕ) (p : Addr × ℕ) → slice_get ps k ≡ Some p → p.0.0 < low → IsLeft ps k low → IsRising ps → ⊥
falls ps k low p is lt left rising = let le = (subst (RisesFrom low) (from ps k p is) (left.0 rising)).0 in omega arith

pub ended : (ps : List (Addr × ℕ)) (k low : ℕ) → length ps ≤ k → IsLeft ps k low → IsRising ps
ended ps k low le left = left.1 (subst (RisesFrom low) (sym (drop_all k ps le)) tt)
