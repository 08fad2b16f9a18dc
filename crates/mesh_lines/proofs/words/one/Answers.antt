use Rattle.mesh_lines.proofs.WordLaws.{not_one}
use Rattle.mesh_lines.proofs.words.one.Goals as goal

pub returns-in_default-Some-clause-none : goal.returns-in_default-Some-clause-none
returns-in_default-Some-clause-none c = rw (c.in-Some.is, c.cut.ensures.parts, c.in_default-Some.is-1) (not_one _ _ c.in_default-Some.field-0-1.now)
