use Rattle.aodv_node.specs.Seen.{IsItemAt}
use Rattle.aodv_node.proofs.SoundParts.{AreBefore}
use Rattle.aodv_node.proofs.sound.are_items_at.Given as goal

abbrev pub invariant-loop-k : goal.invariant-loop-k
invariant-loop-k l = AreBefore (IsItemAt l.nodes l.me) l.k l.inbox.items
