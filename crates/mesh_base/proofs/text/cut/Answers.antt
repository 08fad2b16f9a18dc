use Rattle.std.proofs.Common.{rules}
use Rattle.mesh_base.proofs.PartLaws.{split_at_position, split_nowhere}
use Rattle.mesh_base.proofs.text.cut.Goals as goal

pub returns-in-None-clause-parts : goal.returns-in-None-clause-parts
returns-in-None-clause-parts c = search (rules, split_nowhere)

pub returns-in-Some-clause-parts : goal.returns-in-Some-clause-parts
returns-in-Some-clause-parts c = split_at_position _ _ _ (search rules)
