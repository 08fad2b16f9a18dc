use Rattle.std.proofs.Common.{◌≡◌, length}
use Rattle.std.specs.Prelude.{is_some}
use Rattle.std.specs.List.{list_all}
use Rattle.mesh_base.specs.Parts.{parts}
use Rattle.mesh_base.specs.Addresses.{address_of}
use Rattle.mesh_tables.proofs.entry_line.are_addresses.Given as goal

abbrev pub invariant-parts : goal.invariant-parts
invariant-parts l =
    list_all (λ part. is_some (address_of part)) (parts 44 l.rest) ≡ list_all (λ part. is_some (address_of part)) (parts 44 l.fn.word)

abbrev pub decreases-parts : goal.decreases-parts
decreases-parts l = length l.rest
