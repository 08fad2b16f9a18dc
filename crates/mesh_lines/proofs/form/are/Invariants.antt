-- The words that are left fit the fields that are left where all fit all.
use Rattle.std.proofs.Common.{◌≡◌, drop}
use Rattle.mesh_base.specs.Parts.{rest_parts}
use Rattle.mesh_lines.specs.Forms.{are}
use Rattle.mesh_lines.proofs.form.are.Given as goal

abbrev pub invariant-loop-field : goal.invariant-loop-field
invariant-loop-field l =
    are (drop l.field-index l.fields) (rest_parts 32 l.rest) ≡ are l.fields (rest_parts 32 l.words)
