use Rattle.std.proofs.Common.{◌≤◌, length, arith}
use Rattle.aodv_handlers.proofs.Stated.{known_at, stated_none, stated_more, stated_all}
use Rattle.aodv_handlers.proofs.rerr.state_numbers.Goals as goal

pub loop-k-init : goal.loop-k-init
loop-k-init c = stated_none c.args.mesh.now c.args.m.now c.args.numbers.now c.requires.size c.requires.none

pub index_in-d-requires : goal.index_in-d-requires
index_in-d-requires c = known_at c.args.mesh.now c.args.m.now c.loop-k.k c.pair-number.result c.requires.known c.pair-number.ensures

pub loop-k-preserved : goal.loop-k-preserved
loop-k-preserved c =
    stated_more c.args.mesh.now c.args.m.now c.loop-k.k c.index_in-d.result c.pair-number.result c.loop-k.numbers c.state_number.new.numbers c.loop-k.invariant c.pair-number.ensures c.index_in-d.ensures.value c.state_number.auto.numbers c.state_number.ensures

pub returns-clause-size : goal.returns-clause-size
returns-clause-size c = c.loop-k.invariant.size

pub returns-clause-numbers : goal.returns-clause-numbers
returns-clause-numbers c =
    let end : length c.args.m.now ≤ c.loop-k.k = omega (arith, c.len-k-end.ensures.count, c.loop-k-test.false) in
    λ d. stated_all c.args.mesh.now c.args.m.now c.loop-k.k c.loop-k.numbers d c.loop-k.invariant end
