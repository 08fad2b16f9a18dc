use Rattle.std.proofs.Common.{◌≤◌, ◌<◌, length, arith}
use Rattle.std.specs.FinMap as maps
use Rattle.aodv_handlers.proofs.RouteErrors.{dest_below, found_none, found_more, found_all}
use Rattle.aodv_handlers.proofs.errors.members.Goals as goal

pub loop-k-init : goal.loop-k-init
loop-k-init c = found_none c.args.dests.now c.new-found.result c.new-found.ensures

pub prove-unreachable-requires : goal.prove-unreachable-requires
prove-unreachable-requires c =
    let below : c.pair-d.result.0 < length c.args.mesh.now = dest_below (length c.args.mesh.now) c.args.dests.now c.loop-k.k c.pair-d.result c.requires c.pair-d.ensures in
    omega (arith, c.len-nodes.ensures.value, c.if-prove.true)

pub loop-k-preserved : goal.loop-k-preserved
loop-k-preserved c = found_more c.args.dests.now c.loop-k.k c.loop-k.found c.add.new.self c.pair-d.result c.loop-k.invariant c.pair-d.ensures c.add.ensures

pub returns : goal.returns
returns c =
    let end : length (maps.entries c.args.dests.now) ≤ c.loop-k.k = omega (arith, c.len-k-end.ensures.value, c.loop-k-test.false) in
    found_all c.args.dests.now c.loop-k.k c.loop-k.found c.loop-k.invariant end
