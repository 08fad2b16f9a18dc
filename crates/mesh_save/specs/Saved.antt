-- What a call has written of a state's checkpoint.
use Rattle.std.specs.Prelude.{ℕ, List, ◌++◌, Option}
use Rattle.std.specs.Int.{w32, to_be_bytes}
use Rattle.std.specs.Io.KnownBytes.{Appends}
use Rattle.mesh_io.specs.Puts.{AppendsPrefix}
use Rattle.mesh_text.specs.Schedule.{RunState}
use Rattle.mesh_checkpoint.specs.Checkpoint.{body}
use Rattle.mesh_checkpoint.specs.State.{magic}
use Rattle.mesh_checkpoint.specs.Points.{body_of, IsState}

-- a state's body, after a head that states this length
abbrev pub checkpoint_stating : ℕ → RunState → List ℕ
checkpoint_stating count m = magic ++ (to_be_bytes w32 count ++ body.put (body_of m))

-- the checkpoint of a state was written
pub record IsWritten (m : RunState) (before now : Option (List ℕ)) : Type 0 where
  pub bytes : List ℕ
  pub state : IsState bytes m
  pub grown : Appends before now bytes

-- a prefix of the checkpoint of a state was written
pub record IsCut (m : RunState) (before now : Option (List ℕ)) : Type 0 where
  pub bytes : List ℕ
  pub state : IsState bytes m
  pub grown : AppendsPrefix before now bytes
