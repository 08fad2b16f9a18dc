use Rattle.std.proofs.Common.{arith}
use Rattle.mesh_checkpoint.proofs.Loop.{next_passed}
use Rattle.mesh_checkpoint.proofs.part.pass_all.Goals as goal

pub loop-preserved : goal.loop-preserved
loop-preserved g c = next_passed g.P.Part.amount (g.P.Part.format c.args.part.now) c.args.count c.loop.counter c.args.bytes.now c.loop.sum c.loop.rest.now c.in_ok-amount.amount c.in_ok-amount.behind.now (omega arith) c.loop.invariant c.in_ok-amount.ensures
