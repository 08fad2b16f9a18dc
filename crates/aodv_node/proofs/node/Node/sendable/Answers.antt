use Rattle.aodv_handlers.specs.Shown.{core_of}
use Rattle.aodv_node.proofs.Choices.{sends_are}
use Rattle.aodv_node.proofs.node.Node.sendable.Goals as goal

pub returns : goal.returns
returns c = rw (← c.self.view_is) (sends_are (core_of (λ t. t.entries) c.self.inside.core) c.dests-dests.result c.valid.result c.meet.new.self c.dests-dests.ensures.value c.valid.ensures c.meet.ensures)
