use Rattle.std.proofs.Common.{◌∙◌, ap, ◌++◌, length, length-append}
use Rattle.mesh_base.proofs.TableLaws.{pair_is}
use Rattle.mesh_base.proofs.text.push_pair.Goals as goal

pub returns-clause-text : goal.returns-clause-text
returns-clause-text c = c.push_array.ensures.text ∙ ap (λ ds. (c.args.out.now).items ++ ds) (pair_is c.args.n c.requires.low)

pub returns-clause-length : goal.returns-clause-length
returns-clause-length c = ap length (returns-clause-text c) ∙ length-append (c.args.out.now).items _
