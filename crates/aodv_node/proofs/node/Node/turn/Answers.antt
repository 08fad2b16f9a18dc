use Rattle.std.proofs.Common.{sym, ap, ◌∙◌}
use Rattle.aodv_table.proofs.IndexLaws.{has_row}
use Rattle.aodv_node.specs.Seen.{NodeSeen}
use Rattle.aodv_node.proofs.Nodes.{turned}
use Rattle.aodv_node.proofs.node.Node.turn.Goals as goal

pub take_turn-requires-clause-rows : goal.take_turn-requires-clause-rows
take_turn-requires-clause-rows c = λ d lt. has_row c.self.inside.core.table.nodes d c.self.inside.core.table.rooms (sym c.nodes-nodes.ensures.rooms) lt

pub invariant_of-self : goal.invariant_of-self
invariant_of-self c =
    (turned c.args.mesh.now c.args.range.now c.self.inside.core c.take_turn.new.core c.self.inside.inbox c.take_turn.new.inbox c.take_turn.result c.take_turn.new.out.items c.args.self.now
    c.requires.mesh c.self.view_is c.self.invariant c.take_turn.ensures.order c.take_turn.ensures.turn).kept

pub returns-clause-me : goal.returns-clause-me
returns-clause-me c = (turned c.args.mesh.now c.args.range.now c.self.inside.core c.take_turn.new.core c.self.inside.inbox c.take_turn.new.inbox c.take_turn.result c.take_turn.new.out.items c.args.self.now
    c.requires.mesh c.self.view_is c.self.invariant c.take_turn.ensures.order c.take_turn.ensures.turn).me ∙ ap (λ (n : NodeSeen). (n.core).ip) c.self.view_is

pub returns-clause-size : goal.returns-clause-size
returns-clause-size c = (turned c.args.mesh.now c.args.range.now c.self.inside.core c.take_turn.new.core c.self.inside.inbox c.take_turn.new.inbox c.take_turn.result c.take_turn.new.out.items c.args.self.now
    c.requires.mesh c.self.view_is c.self.invariant c.take_turn.ensures.order c.take_turn.ensures.turn).nodes ∙ ap (λ (n : NodeSeen). n.size) c.self.view_is
