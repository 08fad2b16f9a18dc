-- What is written of a state is its checkpoint.
use Rattle.std.proofs.Common.{◌≡◌, ℕ, ◌-◌, ◌^◌, ◌≤◌, true, List, Option, Some, None, ap, subst, arith}
use Rattle.std.specs.Prelude.{IfSome, min, unwrap_or}
use Rattle.mesh_base.specs.Meshes.{Nodes, IsMesh}
use Rattle.mesh_model.specs.Worlds.{World}
use Rattle.mesh_text.specs.Schedule.{RunState, world_of}
use Rattle.mesh_checkpoint.specs.declared.limits.TheConstants.{LONGEST_BODY, MOST_STEPS, GREATEST_NEXT_ID}
use Rattle.mesh_checkpoint.specs.Checkpoint as model
use Rattle.mesh_checkpoint.specs.State.{body_length}
use Rattle.mesh_checkpoint.specs.Heads.{AreSums}
use Rattle.mesh_checkpoint.specs.Points.{head_of, body_of, IsState}
use Rattle.std.specs.Io.KnownBytes.{Appends}
use Rattle.mesh_io.specs.Puts.{AppendsPrefix}
use Rattle.mesh_save.specs.Saved.{checkpoint_stating, IsWritten, IsCut}
use Rattle.mesh_save.specs.Encoders.{most_counted}
use Rattle.mesh_save.specs.Narrow.{IsNarrowWorld}
use Rattle.mesh_save.proofs.FitsBody.{IsWorldNarrow, state_fits}

in_range : (mesh : Nodes) (steps : ℕ) (o : Option World) (d : World) → IfSome o (IsNarrowWorld mesh) → steps ≤ MOST_STEPS → (unwrap_or o d).next_copy ≤ GREATEST_NEXT_ID → IfSome o (IsWorldNarrow mesh steps)
in_range mesh steps None d is early next = tt
in_range mesh steps (Some w) d is early next = record { some = is.some; count = is.count; in_mesh = is.in_mesh; narrow = is.narrow; early = early; next = next }

-- the body of a state fits, unless it is too long
pub fits : (m : RunState) → AreSums (head_of m) → IsMesh m.mesh → IfSome m.world (IsNarrowWorld m.mesh) → m.steps ≤ MOST_STEPS → (world_of m).next_copy ≤ GREATEST_NEXT_ID → body_length (body_of m) ≤ LONGEST_BODY → model.body.fits (body_of m) ≡ true
fits m sums mesh world early next short = state_fits m sums mesh (in_range m.mesh m.steps m.world _ world early next) short

-- a body that isn't too long was measured as it is
measured : (length whole : ℕ) → min length (2 ^ 64 - 1) ≡ min whole (2 ^ 64 - 1) → length ≤ LONGEST_BODY → length ≡ whole
measured length whole same short = omega (arith, same, short)

-- the bytes behind a length are the checkpoint, where the body was measured so and fits
is_state : (m : RunState) (count : ℕ) → (body_length (body_of m) ≤ LONGEST_BODY → model.body.fits (body_of m) ≡ true) → min count most_counted ≡ min (body_length (body_of m)) most_counted → count ≤ LONGEST_BODY → IsState (checkpoint_stating count m) m
is_state m count fit same short =
    let is = measured count (body_length (body_of m)) same short in
    let few = subst (λ (n : ℕ). n ≤ LONGEST_BODY) is short in
    record { fits = fit few; short = few; spelled = ap (λ (n : ℕ). checkpoint_stating n m) is }

pub is_written : (m : RunState) (count : ℕ) (before now : Option (List ℕ)) → (body_length (body_of m) ≤ LONGEST_BODY → model.body.fits (body_of m) ≡ true) → min count most_counted ≡ min (body_length (body_of m)) most_counted → count ≤ LONGEST_BODY
    → Appends before now (checkpoint_stating count m) → IsWritten m before now
is_written m count before now fit same short grown = record { bytes = checkpoint_stating count m; state = is_state m count fit same short; grown = grown }

pub is_cut : (m : RunState) (count : ℕ) (before now : Option (List ℕ)) → (body_length (body_of m) ≤ LONGEST_BODY → model.body.fits (body_of m) ≡ true) → min count most_counted ≡ min (body_length (body_of m)) most_counted → count ≤ LONGEST_BODY
    → AppendsPrefix before now (checkpoint_stating count m) → IsCut m before now
is_cut m count before now fit same short grown = record { bytes = checkpoint_stating count m; state = is_state m count fit same short; grown = grown }
