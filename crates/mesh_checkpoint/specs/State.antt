-- A checkpoint: four bytes that say what it is, the length of its body, and the body.
use Rattle.std.specs.Prelude.{◌≡◌, ◌≢◌, ℕ, ◌+◌, ◌≤◌, true, List, [], ◌∷◌, ◌++◌, length, take, drop}
use Rattle.std.specs.Int.{w32, to_be_bytes}
use Rattle.mesh_checkpoint.specs.declared.limits.TheConstants.{LONGEST_BODY}
use Rattle.mesh_checkpoint.specs.declared.validating.ValidateError.{ValidateError}
use Rattle.mesh_checkpoint.specs.declared.validating.ValidateError.TheVariants as errors
use Rattle.mesh_checkpoint.specs.Formats.{number_of}
use Rattle.mesh_checkpoint.specs.Checkpoint.{Body, body}
use Rattle.mesh_checkpoint.specs.Counts.{data_in, IsBalanced}

-- AWN1
abbrev pub magic : List ℕ
magic = 65 ∷ 87 ∷ 78 ∷ 49 ∷ []

-- how many bytes a body is written in
abbrev pub body_length : Body → ℕ
body_length x = length (body.put x)

abbrev pub checkpoint_of : Body → List ℕ
checkpoint_of x = magic ++ (to_be_bytes w32 (body_length x) ++ body.put x)

-- the bytes are the checkpoint with this body: its numbers are in the table's ranges, and it isn't
-- too long
pub record IsCheckpoint (b : List ℕ) (x : Body) : Type 0 where
  pub fits : body.fits x ≡ true
  pub short : body_length x ≤ LONGEST_BODY
  pub spelled : b ≡ checkpoint_of x

-- ---- why bytes are refused

-- the number that bytes 4 to 7 state
abbrev pub stated_size : List ℕ → ℕ
stated_size b = number_of w32 (drop 4 b)

-- bytes 4 to 7 are there and state no more than the limit, and as many bytes follow them
abbrev pub HasLength : List ℕ → Type 0
HasLength b = (stated_size b ≤ LONGEST_BODY) × (length b ≡ 8 + stated_size b)

-- the first refusal that applies
abbrev pub IsRefused : List ℕ → ValidateError → Type 0
IsRefused b errors.NotState = take 4 b ≢ magic
IsRefused b errors.Length = (take 4 b ≡ magic) × ¬ (HasLength b)
IsRefused b errors.Spelling =
    (take 4 b ≡ magic) × HasLength b × ((x : Body) → ¬ (IsCheckpoint b x))
IsRefused b errors.Sums = (x : Body) × IsCheckpoint b x × ¬ (IsBalanced x)

-- the bytes are a checkpoint whose sums are balanced, with this many data, no more than bytes
pub record IsValidated (b : List ℕ) (n : ℕ) : Type 0 where
  pub found : Body
  pub checkpoint : IsCheckpoint b found
  pub balanced : IsBalanced found
  pub count : n ≡ data_in found.world
  pub few : n ≤ length b
