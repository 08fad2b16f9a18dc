use Rattle.std.proofs.Common.{arith}
use Rattle.mesh_checkpoint.specs.Views.{link_of}
use Rattle.mesh_restore.proofs.LinkLists.{one_passed, not_there, not_rising}
use Rattle.mesh_restore.proofs.links.behind_links.Goals as goal

pub returns-in_err-link : goal.returns-in_err-link
returns-in_err-link c =
    rw c.from_residual.ensures (not_there c.args.nodes c.args.count c.loop.counter c.loop.low c.args.bytes.now c.loop.rest.now (omega arith) c.in_err-link.ensures.value c.loop.invariant)

pub returns-in_err-low : goal.returns-in_err-low
returns-in_err-low c =
    rw c.from_residual-in_err-low.ensures (not_rising c.args.nodes c.args.count c.loop.counter c.loop.low c.args.bytes.now c.loop.rest.now (link_of c.in_ok-link.link) c.in_ok-link.behind.now (omega arith) c.in_ok-link.ensures.value (omega (arith, c.in_err-low.ensures.order)) c.loop.invariant)

pub loop-preserved : goal.loop-preserved
loop-preserved c =
    one_passed c.args.nodes c.args.count c.loop.counter c.loop.low c.args.bytes.now c.loop.rest.now (link_of c.in_ok-link.link) c.in_ok-link.behind.now _ (omega arith) c.in_ok-link.ensures.value (omega (arith, c.in_ok-low.ensures.order)) (omega (arith, c.in_ok-low.ensures.next)) c.loop.invariant
