-- What loading answers when a validation or a reader answers an error.
use Rattle.mesh_checkpoint.specs.declared.validating.ValidateError.{ValidateError}
use Rattle.mesh_checkpoint.specs.declared.validating.ValidateError.TheVariants as validates
use Rattle.mesh_restore.specs.declared.error.ReadError.{ReadError}
use Rattle.mesh_restore.specs.declared.error.ReadError.TheVariants as reads
use Rattle.mesh_load.specs.declared.error.StateError.{StateError}
use Rattle.mesh_load.specs.declared.error.StateError.TheVariants as errors

abbrev pub after_validate : ValidateError → StateError
after_validate validates.NotState = errors.NotState
after_validate validates.Length = errors.Length
after_validate validates.Spelling = errors.Spelling
after_validate validates.Sums = errors.Sums

abbrev pub after_reading : ReadError → StateError
after_reading reads.Spelling = errors.Spelling
after_reading reads.NoMemory = errors.NoMemory
