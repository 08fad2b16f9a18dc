-- What a call that lends a line says where none is lent.
use Rattle.std.proofs.Common.{ℕ, List, [], Option, Some, None, Err}
use Rattle.std.specs.Option.{IfSome}
use Rattle.mesh_io.specs.Cutting.{Tells}
use Rattle.mesh_io.specs.declared.limits.Limits.{Limits}
use Rattle.mesh_io.specs.declared.line_error.LineError.{LineError}
use Rattle.mesh_io.specs.declared.line_error.LineError.TheVariants as error

-- a refusal tells nothing of the line that was found before it
pub told_refused : (most : Limits) (given : ℕ) (ahead : Option (List ℕ)) (e : LineError) (line : List ℕ) (after : ℕ) (left : Option (List ℕ))
    → IfSome ahead (λ bytes. Tells most given bytes (Err e) line after left) → IfSome ahead (λ bytes. Tells most given bytes (Err e) [] after left)
told_refused most given None e line after left h = tt
told_refused most given (Some bytes) error.ReadFault line after left h = h
told_refused most given (Some bytes) error.TooMuch line after left h = h
told_refused most given (Some bytes) error.TooLong line after left h = h
