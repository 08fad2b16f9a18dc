use Rattle.std.proofs.Common.{◌∙◌, ◌∷◌, ap}
use Rattle.mesh_base.specs.Parts.{rest_parts}
use Rattle.mesh_blocks.proofs.Lined.{line_first, line_none}
use Rattle.mesh_blocks.proofs.changes.next_line.Goals as goal

pub returns-in-Some-clause-lines : goal.returns-in-Some-clause-lines
returns-in-Some-clause-lines c = line_first c.args.text.now _ c.in-Some.rest.now (c.cut.ensures.parts ∙ ap (λ o. c.cut.result.0.now ∷ rest_parts 10 o) c.in-Some.is)

pub returns-in-None-clause-lines : goal.returns-in-None-clause-lines
returns-in-None-clause-lines c = line_none c.args.text.now _ (c.cut.ensures.parts ∙ ap (λ o. c.cut.result.0.now ∷ rest_parts 10 o) c.in-None.is)
