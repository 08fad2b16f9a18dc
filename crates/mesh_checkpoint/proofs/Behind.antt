-- What stands behind the byte that says its kind.
use Rattle.std.proofs.Common.{◌≡◌, ◌≢◌, ℕ, zero, suc, ◌<◌, Bool, true, false, List, [], ◌∷◌, Option, Some, None, refl, ap, ◌∙◌, arith, cond}
use Rattle.std.specs.Prelude.{nat_le, nat_lt, not}
use Rattle.std.specs.Prelude.{◌==◌, ◌&&◌, length}
use Rattle.std.proofs.lemmas.Bool.{ltb-true, ne_eqb, and_parts}
use Rattle.mesh_checkpoint.specs.Formats.{◌>>=◌, byte_at, get_maybe, maybe}
use Rattle.mesh_checkpoint.specs.Checkpoint.{world}
use Rattle.mesh_checkpoint.specs.Counts.{data_in_world, data_in}
use Rattle.mesh_checkpoint.specs.Reading.{IsPassed, Passes}
use Rattle.mesh_checkpoint.proofs.Formats.{test_some}

-- a byte of two kinds
pub record IsKind (bytes : List ℕ) (k : ℕ) (rest : List ℕ) : Type 0 where
  pub parts : bytes ≡ k ∷ rest
  pub two : k < 2

pub kind_of : (bytes : List ℕ) (k : ℕ) (rest : List ℕ) → byte_at 0 2 bytes ≡ Some (k, rest) → IsKind bytes k rest
kind_of [] k rest e = absurd cc
kind_of (b ∷ bytes) k rest e =
    let t = test_some (nat_le 0 b && nat_lt b 2) (b, bytes) (k, rest) e in
    let lt : b < 2 = ltb-true b 2 (and_parts (nat_le 0 b) (nat_lt b 2) t.0).1 in
    let same : b ≡ k = ap (λ (p : ℕ × List ℕ). p.0) t.1 in
    record { parts = ap (λ (p : ℕ × List ℕ). p.0 ∷ p.1) t.1; two = omega arith }

second : (k : ℕ) → k < 2 → k ≢ 0 → k ≡ 1
second k lt some = omega (arith, some)

-- ---- a world, or none

pub maybe_none_at : {A : Type 0} (may : Bool) (get : List ℕ → Option (A × List ℕ)) (b : ℕ) (bytes : List ℕ) → byte_at 0 2 (b ∷ bytes) ≡ None → get_maybe may get (b ∷ bytes) ≡ None
maybe_none_at may get zero bytes e = absurd cc
maybe_none_at may get (suc zero) bytes e = absurd cc
maybe_none_at may get (suc (suc b)) bytes e = refl

pub maybe_none : {A : Type 0} (may : Bool) (get : List ℕ → Option (A × List ℕ)) (bytes : List ℕ) → byte_at 0 2 bytes ≡ None → get_maybe may get bytes ≡ None
maybe_none may get [] e = refl
maybe_none may get (b ∷ bytes) e = maybe_none_at may get b bytes e

pub maybe_first : {A : Type 0} (may : Bool) (get : List ℕ → Option (A × List ℕ)) (bytes : List ℕ) (k : ℕ) (rest : List ℕ) → byte_at 0 2 bytes ≡ Some (k, rest) → k ≡ 0 → get_maybe may get bytes ≡ Some (None, rest)
maybe_first may get bytes k rest e zeroth =
    let is = kind_of bytes k rest e in
    rw (is.parts, zeroth) refl

pub maybe_second : {A : Type 0} (may : Bool) (get : List ℕ → Option (A × List ℕ)) (bytes : List ℕ) (k : ℕ) (rest : List ℕ) → byte_at 0 2 bytes ≡ Some (k, rest) → k ≢ 0
    → get_maybe may get bytes ≡ cond may (get rest >>= λ x. Some (Some x.0, x.1)) None
maybe_second may get bytes k rest e some =
    let is = kind_of bytes k rest e in
    rw (is.parts, second k is.two some) refl

pub absent_world : (nodes : ℕ) (bytes : List ℕ) (k : ℕ) (rest : List ℕ) → byte_at 0 2 bytes ≡ Some (k, rest) → k ≡ 0 → length rest < length bytes → IsPassed (maybe (not (nodes == 0)) (world nodes)) data_in bytes 0 rest
absent_world nodes bytes k rest e zeroth shorter = record {
  value = None;
  read = maybe_first (not (nodes == 0)) (world nodes).get bytes k rest e zeroth;
  count = refl;
  few = omega (arith, shorter);
}

pub world_of_none : (nodes : ℕ) (bytes : List ℕ) (k : ℕ) (rest : List ℕ) → byte_at 0 2 bytes ≡ Some (k, rest) → k ≢ 0 → nodes ≡ 0 → get_maybe (not (nodes == 0)) (world nodes).get bytes ≡ None
world_of_none nodes bytes k rest e some none =
    let may : not (nodes == 0) ≡ false = rw none refl in
    maybe_second (not (nodes == 0)) (world nodes).get bytes k rest e some ∙ rw may refl

world_some : (nodes : ℕ) (bytes : List ℕ) (k : ℕ) (rest : List ℕ) (n : ℕ) (behind : List ℕ) → byte_at 0 2 bytes ≡ Some (k, rest) → k ≢ 0 → not (nodes == 0) ≡ true → length rest < length bytes → IsPassed (world nodes) data_in_world rest n behind → IsPassed (maybe (not (nodes == 0)) (world nodes)) data_in bytes n behind
world_some nodes bytes k rest n behind e some may shorter p = record {
  value = Some p.value;
  read = maybe_second (not (nodes == 0)) (world nodes).get bytes k rest e some ∙ rw (may, p.read) refl;
  count = p.count;
  few = omega (arith, shorter, p.few);
}

pub there_world : (nodes : ℕ) (bytes : List ℕ) (k : ℕ) (rest : List ℕ) (r : Option (ℕ × List ℕ)) → byte_at 0 2 bytes ≡ Some (k, rest) → k ≢ 0 → nodes ≢ 0 → length rest < length bytes → Passes (world nodes) data_in_world rest r → Passes (maybe (not (nodes == 0)) (world nodes)) data_in bytes r
there_world nodes bytes k rest None e some nodes-some shorter p =
    let may : not (nodes == 0) ≡ true = ap not (ne_eqb nodes 0 nodes-some) in
    maybe_second (not (nodes == 0)) (world nodes).get bytes k rest e some ∙ rw (may, p) refl
there_world nodes bytes k rest (Some r) e some nodes-some shorter p =
    world_some nodes bytes k rest r.0 r.1 e some (ap not (ne_eqb nodes 0 nodes-some)) shorter p
