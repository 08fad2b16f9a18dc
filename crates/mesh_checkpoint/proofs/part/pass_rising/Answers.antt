use Rattle.std.proofs.Common.{arith}
use Rattle.mesh_checkpoint.proofs.Loop.{one_passed}
use Rattle.mesh_checkpoint.proofs.part.pass_rising.Goals as goal

pub loop-preserved : goal.loop-preserved
loop-preserved g c = one_passed g.P.KeyedPart.key g.P.KeyedPart.amount (g.P.KeyedPart.format c.args.part.now) c.args.count c.loop.counter c.loop.low c.args.bytes.now c.loop.sum c.loop.rest.now c.in_ok-key.key c.in_ok-key.amount c.in_ok-key.behind.now _ (omega arith) c.loop.invariant c.in_ok-key.ensures c.in_ok-low.ensures.order c.in_ok-low.ensures.next
