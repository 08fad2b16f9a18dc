use Rattle.std.proofs.Common.{ap, ◌∙◌}
use Rattle.std.specs.FinSet as set
use Rattle.mesh_base.proofs.Ops.{remove_are, remove_is}
use Rattle.mesh_base.proofs.set.NodeSet.remove.Goals as goal

pub invariant_of-self : goal.invariant_of-self
invariant_of-self c = remove_are c.self.inside.words c.args.i c.self.invariant c.requires

pub returns : goal.returns
returns c = remove_is c.self.inside.words c.args.i c.self.invariant c.requires ∙ ap (λ s. set.remove s c.args.i) c.self.view_is
