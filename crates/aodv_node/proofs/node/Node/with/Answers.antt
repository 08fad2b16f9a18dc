use Rattle.aodv_node.proofs.Nodes.{opens}
use Rattle.aodv_node.proofs.node.Node.with.Goals as goal

pub invariant_of-result : goal.invariant_of-result
invariant_of-result c =
    opens _ c.in_ok-new-4.field-0 c.len-nodes.result (rw c.len-nodes.ensures.value c.requires) c.first.ensures.positive c.in_ok-new.ensures c.in_ok-new-2.ensures.pairs c.in_ok-new-2.ensures.nodes c.in_ok-new-3.ensures.store c.in_ok-new-3.ensures.nodes c.in_ok-new-4.ensures
