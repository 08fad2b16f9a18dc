-- A buffer before a sink.
use Rattle.std.specs.Prelude.{ℕ, ◌≡◌, List, ◌++◌, Option}
use Rattle.std.specs.Io.KnownBytes.{Appends, append_known}
use Rattle.mesh_io.specs.declared.buffered.Buffered.{Buffered}

-- the sink that the buffer is handed on to
abbrev pub inner_of : {S : Type 0} → Buffered S → S
inner_of buffer = buffer.inner

-- the bytes gathered and not yet handed on
abbrev pub gathered_in : {S : Type 0} → Buffered S → List ℕ
gathered_in buffer = buffer.gathered

-- what the inner sink holds and then what is gathered, if that is known
abbrev pub held_by : {S : Type 0} → (S → Option (List ℕ)) → Buffered S → Option (List ℕ)
held_by held buffer = append_known (held (inner_of buffer)) (gathered_in buffer)

-- a sink took a prefix of what was gathered, and the rest stayed
pub record HandsOn (before now : Option (List ℕ)) (gathered rest : List ℕ) : Type 0 where
  pub handed : List ℕ
  pub whole : gathered ≡ handed ++ rest
  pub grown : Appends before now handed
