use Rattle.std.proofs.Common.{◌≡◌, length}
use Rattle.std.specs.List.{list_all}
use Rattle.mesh_base.specs.Parts.{parts}
use Rattle.mesh_lines.specs.Forms.{is_escape}
use Rattle.mesh_lines.proofs.form.are_escapes.Given as goal

abbrev pub invariant-parts : goal.invariant-parts
invariant-parts l = list_all is_escape (parts 92 l.rest) ≡ list_all is_escape (parts 92 l.fn.bytes)

abbrev pub decreases-parts : goal.decreases-parts
decreases-parts l = length l.rest
