use Rattle.std.proofs.Common.{sym, ap, ◌∙◌}
use Rattle.aodv_table.proofs.IndexLaws.{has_row}
use Rattle.aodv_node.specs.Seen.{NodeSeen}
use Rattle.aodv_node.proofs.Nodes.{takes_heard}
use Rattle.aodv_node.proofs.node.Node.turn_on.Goals as goal

pub handle-requires-clause-rows : goal.handle-requires-clause-rows
handle-requires-clause-rows c = λ d lt. has_row c.self.inside.core.table.nodes d c.self.inside.core.table.rooms (sym c.nodes-nodes.ensures.rooms) lt

pub invariant_of-self : goal.invariant_of-self
invariant_of-self c =
    (takes_heard c.args.mesh.now c.args.range.now c.args.from c.args.bytes.now c.self.inside.core c.handle.new.core c.self.inside.inbox c.handle.result c.handle.new.out.items c.args.self.now
    c.requires.mesh c.requires.from c.requires.other c.requires.empty c.self.view_is c.self.invariant c.handle.ensures.order c.handle.ensures.does).left.kept

pub returns-clause-turn : goal.returns-clause-turn
returns-clause-turn c =
    (takes_heard c.args.mesh.now c.args.range.now c.args.from c.args.bytes.now c.self.inside.core c.handle.new.core c.self.inside.inbox c.handle.result c.handle.new.out.items c.args.self.now
    c.requires.mesh c.requires.from c.requires.other c.requires.empty c.self.view_is c.self.invariant c.handle.ensures.order c.handle.ensures.does).did

pub returns-clause-me : goal.returns-clause-me
returns-clause-me c =
    (takes_heard c.args.mesh.now c.args.range.now c.args.from c.args.bytes.now c.self.inside.core c.handle.new.core c.self.inside.inbox c.handle.result c.handle.new.out.items c.args.self.now
    c.requires.mesh c.requires.from c.requires.other c.requires.empty c.self.view_is c.self.invariant c.handle.ensures.order c.handle.ensures.does).left.me ∙ ap (λ (n : NodeSeen). (n.core).ip) c.self.view_is
