use Rattle.aodv_handlers.specs.Shown.{core_of}
use Rattle.aodv_node.proofs.Choices.{asks_are}
use Rattle.aodv_node.proofs.node.Node.askable.Goals as goal

pub returns : goal.returns
returns c = rw (← c.self.view_is) (asks_are (core_of (λ t. t.entries) c.self.inside.core) _ c.needing-dests.result c.valid.result c.leave.new.self (c.self.invariant.1).store c.needing-dests.ensures c.valid.ensures c.leave.ensures)
