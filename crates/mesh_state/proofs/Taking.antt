-- Bytes that are taken of a source one piece after another.
use Rattle.std.proofs.Common.{◌≡◌, ◌∙◌, ℕ, ◌+◌, ◌<◌, List, ◌++◌, length, drop, Option, Some, None, sym, ap, subst, arith}
use Rattle.std.specs.Io.KnownBytes.{Consumes, Keeps}
use Rattle.std.proofs.Math.Seq.{drop-append_seam}
use Rattle.mesh_state.specs.CheckpointParts.{TakesFewer}

-- behind the old bytes stand those that were taken, and so many are still to come
pub record HasTaken (count left : ℕ) (before now : Option (List ℕ)) (old new : List ℕ) : Type 0 where
  pub taken : List ℕ
  pub items : new ≡ old ++ taken
  pub consumed : Consumes before now taken
  pub size : length taken + left ≡ count

-- what was consumed is so where the rest is kept
still_consumed : (l0 l k : Option (List ℕ)) (bytes : List ℕ) → Consumes l0 l bytes → Keeps l k → Consumes l0 k bytes
still_consumed None l k bytes c kept = tt
still_consumed (Some xs) None k bytes c kept = absurd c
still_consumed (Some xs) (Some ys) None bytes c kept = absurd kept
still_consumed (Some xs) (Some ys) (Some zs) bytes c kept = c ∙ ap (λ l. bytes ++ l) (sym kept)

-- a read failed before all were taken
pub failed_within : (count left : ℕ) (l0 l k : Option (List ℕ)) (old new : List ℕ) → HasTaken count left l0 l old new → 0 < left → Keeps l k → TakesFewer count l0 k (drop (length old) new)
failed_within count left l0 l k old new has more kept =
    let behind : drop (length old) new ≡ has.taken = ap (drop (length old)) has.items ∙ drop-append_seam old has.taken in
    subst (TakesFewer count l0 k) (sym behind) (still_consumed l0 l k has.taken has.consumed kept, omega (arith, has.size, more))
