use Rattle.std.proofs.Common.{ap, ◌∙◌}
use Rattle.aodv_node.specs.Seen.{NodeSeen}
use Rattle.aodv_node.proofs.Nodes.{asked_for}
use Rattle.aodv_node.proofs.node.Node.ask.Goals as goal

pub invariant_of-self : goal.invariant_of-self
invariant_of-self c =
    (asked_for c.args.mesh.now c.args.dest c.self.inside.core c.try_ask.new.core c.self.inside.inbox c.try_ask.result c.try_ask.new.out.items c.args.self.now
    c.requires.mesh c.self.view_is c.self.invariant c.try_ask.ensures.order c.try_ask.ensures.does).kept

pub returns-clause-me : goal.returns-clause-me
returns-clause-me c = (asked_for c.args.mesh.now c.args.dest c.self.inside.core c.try_ask.new.core c.self.inside.inbox c.try_ask.result c.try_ask.new.out.items c.args.self.now
    c.requires.mesh c.self.view_is c.self.invariant c.try_ask.ensures.order c.try_ask.ensures.does).me ∙ ap (λ (n : NodeSeen). (n.core).ip) c.self.view_is
