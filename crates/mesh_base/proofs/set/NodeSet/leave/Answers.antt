use Rattle.std.proofs.Common.{ap, ◌∙◌}
use Rattle.std.specs.FinSet as set
use Rattle.mesh_base.specs.Members.{members}
use Rattle.mesh_base.proofs.Ops.{leave_are, leave_is}
use Rattle.mesh_base.proofs.set.NodeSet.leave.Goals as goal

pub invariant_of-self : goal.invariant_of-self
invariant_of-self c = leave_are c.self.inside.words c.o.inside.words c.self.invariant c.o.invariant

pub returns : goal.returns
returns c =
    leave_is c.self.inside.words c.o.inside.words c.self.invariant c.o.invariant
    ∙ ap (λ s. set.difference s (members c.o.inside.words)) c.self.view_is
    ∙ ap (λ s. set.difference c.args.self.now s) c.o.view_is
