use Rattle.std.proofs.Common.{◌≡◌, length}
use Rattle.mesh_base.specs.Parts.{parts}
use Rattle.mesh_lines.specs.Forms.{rise_from}
use Rattle.mesh_lines.proofs.form.are_addresses.Given as goal

abbrev pub invariant-parts : goal.invariant-parts
invariant-parts l = rise_from l.least (parts 44 l.rest) ≡ rise_from 0 (parts 44 l.fn.word)

abbrev pub decreases-parts : goal.decreases-parts
decreases-parts l = length l.rest
