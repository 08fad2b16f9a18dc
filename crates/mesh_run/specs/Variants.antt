-- Part of what the headline says.
-- The variants of the protocol, by name.
use Rattle.std.specs.Prelude.{ℕ, List, Option, Some, None, codes, if◌then◌else◌}
use Rattle.std.specs.Str.{bytes_eq}
use Rattle.mesh_base.specs.declared.events.Variant.{Variant}
use Rattle.mesh_base.specs.declared.events.Variant.TheVariants.{Base, Number, Reply, Error}

-- the variant of the protocol that a word names
abbrev pub variant_named : List ℕ → Option Variant
variant_named name =
    if bytes_eq name (codes "base") then Some Base else
    if bytes_eq name (codes "number") then Some Number else
    if bytes_eq name (codes "reply") then Some Reply else
    if bytes_eq name (codes "error") then Some Error else None
