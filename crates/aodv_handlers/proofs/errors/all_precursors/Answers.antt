use Rattle.std.proofs.Common.{◌≤◌, length, arith}
use Rattle.std.specs.FinMap as maps
use Rattle.aodv_handlers.proofs.RouteErrors.{dest_below, joined_none, joined_more, joined_all}
use Rattle.aodv_handlers.proofs.errors.all_precursors.Goals as goal

pub loop-k-init : goal.loop-k-init
loop-k-init g c = joined_none (g.T.Table.entries c.args.table.now) c.args.dests.now c.new-all.result c.new-all.ensures

pub precursors-requires : goal.precursors-requires
precursors-requires g c = dest_below (g.T.Table.nodes c.args.table.now) c.args.dests.now c.loop-k.k c.pair-d.result c.requires c.pair-d.ensures

pub loop-k-preserved : goal.loop-k-preserved
loop-k-preserved g c =
    joined_more (g.T.Table.entries c.args.table.now) c.args.dests.now c.loop-k.k c.loop-k.all c.join.new.self c.precursors.result c.pair-d.result c.loop-k.invariant c.pair-d.ensures c.precursors.ensures c.join.ensures

pub returns : goal.returns
returns g c =
    let end : length (maps.entries c.args.dests.now) ≤ c.loop-k.k = omega (arith, c.len-k-end.ensures.value, c.loop-k-test.false) in
    joined_all (g.T.Table.entries c.args.table.now) c.args.dests.now c.loop-k.k c.loop-k.all c.loop-k.invariant end
