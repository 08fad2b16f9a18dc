use Rattle.std.proofs.Common.{arith}
use Rattle.mesh_restore.proofs.CopyLists.{copies_fall, before_copy, one_flown}
use Rattle.mesh_restore.proofs.copies.fly_all.Goals as goal

pub returns-then-copy-low : goal.returns-then-copy-low
returns-then-copy-low c =
    copies_fall c.args.nodes c.args.next c.args.count c.loop.counter c.loop.low c.args.bytes.now c.args.radio.now c.loop.radio c.loop.apart c.loop.rest.now c.in_ok-copy.copy c.in_ok-copy.behind.now (omega arith) c.in_ok-copy.ensures.value (omega arith) c.loop.invariant

pub fly-requires-clause-last : goal.fly-requires-clause-last
fly-requires-clause-last c = before_copy c.loop.low c.in_ok-copy.copy.id (c.loop.radio).flying c.loop.invariant.before (omega arith)

pub loop-preserved : goal.loop-preserved
loop-preserved c =
    rw c.both-apart.ensures (one_flown c.args.nodes c.args.next c.args.count c.loop.counter c.loop.low c.args.bytes.now c.args.radio.now c.loop.radio c.fly.new.radio c.loop.apart c.in_ok-between.between c.loop.rest.now c.in_ok-copy.copy c.in_ok-copy.behind.now _ (omega arith) c.in_ok-copy.ensures.value (omega arith) (omega arith) c.in_ok-between.ensures c.loop.invariant)
