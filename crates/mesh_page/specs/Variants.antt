-- The variants of the protocol by number.
use Rattle.std.specs.Prelude.{◌==◌, ℕ, if◌then◌else◌, Option, Some, None}
use Rattle.mesh_base.specs.declared.events.Variant.{Variant}
use Rattle.mesh_base.specs.declared.events.Variant.TheVariants.{Base, Number, Reply, Error}

abbrev pub variant_numbered : ℕ → Option Variant
variant_numbered n =
    if n == 0 then Some Base
    else if n == 1 then Some Number
    else if n == 2 then Some Reply
    else if n == 3 then Some Error
    else None
