-- What is proved of these definitions.
use Rattle.std.specs.Prelude.{◌≡◌, ◌⊎◌, ℕ, ◌<◌, ◌≤◌, ◌^◌, true, List, [], Some, get_or}
use Rattle.mesh_checkpoint.specs.declared.limits.TheConstants.{LONGEST_BODY}
use Rattle.mesh_checkpoint.specs.declared.validating.ValidateError.{ValidateError}
use Rattle.mesh_checkpoint.specs.Checkpoint.{Body, body}
use Rattle.mesh_checkpoint.specs.Counts.{IsBalanced}
use Rattle.mesh_text.specs.Schedule.{RunState}
use Rattle.mesh_checkpoint.specs.Points.{body_of, IsState, IsTooLong}
use Rattle.mesh_checkpoint.specs.State.{body_length, checkpoint_of, IsCheckpoint, IsRefused}

abbrev pub AreBytes : List ℕ → Type 0
AreBytes bytes = (i : ℕ) → get_or bytes i 0 < 2 ^ 8

-- a body that fits is read back from the bytes that are written for it
abbrev pub WrittenIsRead : Type 0
WrittenIsRead = (x : Body) → body.fits x ≡ true → body.get (body.put x) ≡ Some (x, [])

-- bytes that are read as a body are those that are written for it, and the body fits
abbrev pub ReadIsWritten : Type 0
ReadIsWritten =
    (b : List ℕ) (x : Body) → AreBytes b → body.get b ≡ Some (x, [])
    → (body.fits x ≡ true) × (b ≡ body.put x)

-- a body that fits and isn't too long has a checkpoint
abbrev pub FittingIsWritten : Type 0
FittingIsWritten =
    (x : Body) → body.fits x ≡ true → body_length x ≤ LONGEST_BODY
    → IsCheckpoint (checkpoint_of x) x

-- a body has at most one checkpoint, and a checkpoint one body
abbrev pub OneCheckpoint : Type 0
OneCheckpoint = (b c : List ℕ) (x : Body) → IsCheckpoint b x → IsCheckpoint c x → b ≡ c

abbrev pub OneBody : Type 0
OneBody = (b : List ℕ) (x y : Body) → IsCheckpoint b x → IsCheckpoint b y → x ≡ y

-- a checkpoint whose sums are balanced isn't refused
abbrev pub BalancedIsTaken : Type 0
BalancedIsTaken =
    (b : List ℕ) (x : Body) (e : ValidateError) → IsCheckpoint b x → IsBalanced x
    → ¬ (IsRefused b e)

-- bytes are refused for at most one reason
abbrev pub OneRefusal : Type 0
OneRefusal =
    (b : List ℕ) (e f : ValidateError) → IsRefused b e → IsRefused b f → e ≡ f

-- a state has at most one checkpoint, and it has one if its numbers are in the table's ranges,
-- unless its body is too long
abbrev pub OneState : Type 0
OneState = (b c : List ℕ) (m : RunState) → IsState b m → IsState c m → b ≡ c

abbrev pub FittingIsState : Type 0
FittingIsState =
    (m : RunState) → body.fits (body_of m) ≡ true
    → IsTooLong m ⊎ IsState (checkpoint_of (body_of m)) m
