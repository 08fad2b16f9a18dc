use Rattle.std.proofs.Common.{ap, ◌∙◌}
use Rattle.aodv_node.specs.Seen.{NodeSeen}
use Rattle.aodv_node.proofs.Nodes.{sent}
use Rattle.aodv_node.proofs.node.Node.send.Goals as goal

pub invariant_of-self : goal.invariant_of-self
invariant_of-self c =
    (sent c.args.mesh.now c.args.range.now c.args.dest c.self.inside.core c.try_send.new.core c.self.inside.inbox c.try_send.result c.try_send.new.out.items c.args.self.now
    c.requires.mesh c.self.view_is c.self.invariant c.try_send.ensures.order c.try_send.ensures.does).kept

pub returns-clause-me : goal.returns-clause-me
returns-clause-me c = (sent c.args.mesh.now c.args.range.now c.args.dest c.self.inside.core c.try_send.new.core c.self.inside.inbox c.try_send.result c.try_send.new.out.items c.args.self.now
    c.requires.mesh c.self.view_is c.self.invariant c.try_send.ensures.order c.try_send.ensures.does).me ∙ ap (λ (n : NodeSeen). (n.core).ip) c.self.view_is
