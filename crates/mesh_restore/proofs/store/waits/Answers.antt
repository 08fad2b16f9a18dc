use Rattle.std.proofs.Common.{arith}
use Rattle.mesh_restore.proofs.StoreLists.{kept}
use Rattle.mesh_restore.proofs.store.waits.Goals as goal

pub returns-clause-read : goal.returns-clause-read
returns-clause-read c =
    kept c.args.nodes c.args.low c.in-Some.head c.args.bytes.now c.in-Some.rest.now c.in_ok-rest.rest.now
    (c.args.waiting.now).store (c.bodies.new.waiting).store (c.settle.new.waiting).store c.requires.below (omega arith) c.in-Some.ensures.some c.in-Some.ensures.value c.in_ok-rest.ensures.data c.settle.ensures.store
