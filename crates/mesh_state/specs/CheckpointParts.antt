-- The checkpoint part of an input, where a checkpoint belongs, and the rest that follows it.
use Rattle.std.specs.Prelude.{ℕ, ◌≡◌, ◌≢◌, ◌<◌, ◌+◌, ◌⊎◌, Bool, ◌&&◌, nat_le, if◌then◌else◌, List, length, take, drop, Option, Some, None, ⊤}
use Rattle.std.specs.Io.KnownBytes.{Consumes}
use Rattle.mesh_checkpoint.specs.declared.limits.TheConstants.{LONGEST_BODY}
use Rattle.mesh_checkpoint.specs.State.{magic, stated_size}
use Rattle.mesh_state.specs.declared.checkpoint_part.TheConstants.{HEAD_SIZE}

-- a head is there, and after it as many bytes as it states, within the limit
abbrev pub has_body : List ℕ → Bool
has_body bytes =
    nat_le HEAD_SIZE (length bytes) && nat_le (stated_size bytes) LONGEST_BODY
    && nat_le (HEAD_SIZE + stated_size bytes) (length bytes)

-- the checkpoint part has the first 8 bytes and as many more as they state; it is the whole input
-- if that is more than the limit or more than there is
abbrev pub checkpoint_part_size : List ℕ → ℕ
checkpoint_part_size bytes = if has_body bytes then HEAD_SIZE + stated_size bytes else length bytes

unfoldable pub checkpoint_part_of : List ℕ → List ℕ
checkpoint_part_of bytes = take (checkpoint_part_size bytes) bytes

-- what follows the checkpoint part
unfoldable pub rest_of : List ℕ → List ℕ
rest_of bytes = drop (checkpoint_part_size bytes) bytes

-- a whole head that no checkpoint's body follows: its first four bytes aren't a checkpoint's, or
-- the length that it states is above the limit
pub record IsOtherHead (head : List ℕ) : Type 0 where
  pub whole : length head ≡ HEAD_SIZE
  pub other : (take 4 head ≢ magic) ⊎ (LONGEST_BODY < stated_size head)

-- the checkpoint part of these bytes was taken, and the rest is left. The first 8 bytes don't show
-- that no body follows
pub record IsCheckpointPartTaken (bytes taken : List ℕ) (left : Option (List ℕ)) : Type 0 where
  pub same_head : ¬ (IsOtherHead (take HEAD_SIZE bytes))
  pub checkpoint_part : taken ≡ checkpoint_part_of bytes
  pub rest : left ≡ Some (rest_of bytes)

-- the first 8 of these bytes were taken, and show that no body follows
pub record IsHeadTaken (bytes taken : List ℕ) (left : Option (List ℕ)) : Type 0 where
  pub head : taken ≡ take HEAD_SIZE bytes
  pub other : IsOtherHead taken
  pub rest : left ≡ Some (drop HEAD_SIZE bytes)

-- either the checkpoint part was taken, or its first 8 bytes
abbrev pub IsTaken : List ℕ → List ℕ → Option (List ℕ) → Type 0
IsTaken bytes taken left = IsCheckpointPartTaken bytes taken left ⊎ IsHeadTaken bytes taken left

-- a read failed within the checkpoint part. These bytes were taken: fewer than a head has, or than
-- the head and the body that it states. Their first 8 don't show that no body follows
pub record IsCheckpointPartCut (bytes : List ℕ) (left : Option (List ℕ)) : Type 0 where
  pub taken : List ℕ
  pub consumed : Consumes (Some bytes) left taken
  pub fewer : length taken < HEAD_SIZE + stated_size taken
  pub same_head : ¬ (IsOtherHead (take HEAD_SIZE taken))

-- these bytes were taken of the known bytes, and are fewer than `count`
abbrev pub TakesFewer : ℕ → Option (List ℕ) → Option (List ℕ) → List ℕ → Type 0
TakesFewer count before left taken = Consumes before left taken × (length taken < count)

-- `count` bytes were taken of the known bytes, or all of them if there are fewer
abbrev pub TakesUpTo : ℕ → Option (List ℕ) → Option (List ℕ) → List ℕ → Type 0
TakesUpTo count None left taken = ⊤
TakesUpTo count (Some bytes) left taken =
    (taken ≡ take count bytes) × (left ≡ Some (drop count bytes))
