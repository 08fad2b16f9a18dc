use Rattle.std.proofs.Common.{length, ap, ◌∙◌}
use Rattle.mesh_base.specs.Members.{NodeIds, member_list}
use Rattle.mesh_base.proofs.BitCounts.{count-all}
use Rattle.mesh_base.proofs.set.NodeSet.count.Goals as goal

pub returns-clause-value : goal.returns-clause-value
returns-clause-value c = count-all c.self.inside.words c.self.invariant ∙ ap (λ (s : NodeIds). length (member_list s)) c.self.view_is
