use Rattle.std.proofs.Common.{sym, ap, ◌∙◌, drop}
use Rattle.mesh_base.specs.Parts.{rest_parts}
use Rattle.mesh_lines.specs.Forms.{are}
use Rattle.mesh_lines.proofs.WordLaws.{no_more_words, past, all_read}
use Rattle.mesh_lines.proofs.form.are.Goals as goal

pub returns-in_default : goal.returns-in_default
returns-in_default c =
    sym (sym c.loop-field.invariant ∙ ap (λ r. are (drop c.loop-field.field-index c.args.fields.now) (rest_parts 32 r)) c.in_default.is ∙ no_more_words c.args.fields.now c.loop-field.field-index c.loop-field-test.true)

pub returns : goal.returns
returns c =
    sym (sym c.loop-field.invariant ∙ ap (λ l. are l (rest_parts 32 c.loop-field.rest)) (past c.args.fields.now c.loop-field.field-index c.loop-field-test.false) ∙ all_read c.loop-field.rest c.is_none.result c.is_none.ensures)
