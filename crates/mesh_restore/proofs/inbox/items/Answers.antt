use Rattle.std.proofs.Common.{arith}
use Rattle.mesh_checkpoint.specs.Checkpoint as model
use Rattle.mesh_checkpoint.proofs.Loop.{begins, one_more}
use Rattle.mesh_restore.proofs.inbox.items.Goals as goal

pub loop-init : goal.loop-init
loop-init c = rw c.in_ok-inbox.ensures (begins (model.item c.args.nodes).get c.args.count c.args.bytes.now)

pub loop-preserved : goal.loop-preserved
loop-preserved c =
    rw (c.push.ensures.items, c.make_room.ensures.items)
    (one_more (model.item c.args.nodes).get c.args.count c.loop.counter c.args.bytes.now (c.loop.inbox).items c.loop.rest.now c.in_ok-item.item c.in_ok-item.behind.now (omega arith) c.in_ok-item.ensures.value c.loop.invariant)
