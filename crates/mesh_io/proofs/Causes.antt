-- Faults over several calls.
use Rattle.std.proofs.Common.{◌≡◌, ℕ, ◌≤◌, Result, Ok, Err, subst, arith}
use Rattle.std.specs.Result.{IsErr}
use Rattle.mesh_io.specs.Cause.{HasCause, Rose}

-- a count that rose in a later call
pub Rose-after : (before between now : ℕ) → before ≤ between → Rose between now → Rose before now
Rose-after before between now h rose = omega arith

-- a count that rose in an earlier call
pub Rose-then : (before between now : ℕ) → Rose before between → between ≤ now → Rose before now
Rose-then before between now rose h = omega arith

-- the fault of a call is the cause of what it ends
pub HasCause-fault : {T U E F : Type 0} (before now : ℕ) (e : F) (r : Result T E) → IsErr r → HasCause {T = U} {E = F} before now (Err e) → HasCause before now r
HasCause-fault before now e (Ok x) is h = absurd cc
HasCause-fault before now e (Err f) is h = record { later = h.later; failed = h.failed; none = tt }

-- a call after others that didn't fail
pub HasCause-after : {T E : Type 0} (before between now : ℕ) (r : Result T E) → between ≡ before → HasCause between now r → HasCause before now r
HasCause-after before between now r e h = let P : ℕ → Type 0 = λ n. HasCause n now r in subst P e h
