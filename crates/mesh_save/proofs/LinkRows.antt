-- The links of a node to those above it.
use Rattle.std.proofs.Common.{◌≡◌, ℕ, suc, ◌+◌, ◌<◌, Bool, true, false, cond, [], ◌∷◌, ◌++◌, length, refl, sym, arith, length-append}
use Rattle.std.specs.Prelude.{min, max}
use Rattle.std.specs.Int.{from_bool}
use Rattle.std.specs.FinSet as sets
use Rattle.aodv_model.specs.Pairs.{Pairs}
use Rattle.aodv_asked.specs.Requests.{ids_below}
use Rattle.aodv_asked.proofs.Listed.{ids_none}
use Rattle.mesh_model.specs.Worlds.{are_linked}
use Rattle.mesh_model.specs.InMesh.{AreLinks}

pub in_order : (pairs : Pairs) (a b : ℕ) → a < b → are_linked pairs a b ≡ sets.contains pairs (a, b)
in_order pairs a b lt =
    let low : min a b ≡ a = omega arith in
    let high : max a b ≡ b = omega arith in
    rw (low, high) refl

-- ---- no link leads to a node that isn't above

pub none_up_to : (size : ℕ) (s : Pairs) (a : ℕ) → AreLinks size s → ids_below (a + 1) s a ≡ []
unfolding ids_below
none_up_to size s a are = ids_none s a (a + 1) 0 (omega arith) (λ q from lt. elim (sets.contains s (a, q)) as (λ b. sets.contains s (a, q) ≡ b → b ≡ false) [
  | true ↦ λ is. absurd (omega (arith, (are (a, q) is).0, lt))
  | false ↦ λ is. refl
] refl)

-- ---- how many there are

pub count_next : (s : Pairs) (o n count one : ℕ) (b : Bool) → count ≡ length (ids_below n s o) → one ≡ from_bool b → b ≡ sets.contains s (o, n) → count + one ≡ length (ids_below (n + 1) s o)
unfolding ids_below
count_next s o n count one b so_far byte here =
    let up : n + 1 ≡ suc n = omega arith in
    rw (up, byte, here, so_far) (elim (sets.contains s (o, n)) as (λ b. length (ids_below n s o) + from_bool b ≡ length (cond b (ids_below n s o ++ n ∷ []) (ids_below n s o))) [
      | true ↦ sym (length-append (ids_below n s o) (n ∷ []))
      | false ↦ let none : from_bool false ≡ 0 = refl in omega (arith, none)
    ])
