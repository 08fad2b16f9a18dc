use Rattle.std.proofs.Common.{◌≤◌, length, arith}
use Rattle.aodv_handlers.proofs.Stated.{known_at}
use Rattle.aodv_handlers.proofs.Refused.{refused_none, none_accepted}
use Rattle.aodv_handlers.proofs.rerr.may_accept.Goals as goal

pub loop-k-init : goal.loop-k-init
loop-k-init g c = refused_none c.args.mesh.now (g.T.Table.entries c.args.table.now) c.args.from c.args.m.now

pub index_in-d-requires : goal.index_in-d-requires
index_in-d-requires g c = known_at c.args.mesh.now c.args.m.now c.loop-k.k c.pair-number.result c.requires.known c.pair-number.ensures

pub returns : goal.returns
returns g c =
    let end : length c.args.m.now ≤ c.loop-k.k = omega (arith, c.len-k-end.ensures.count, c.loop-k-test.false) in
    none_accepted c.args.mesh.now (g.T.Table.entries c.args.table.now) c.args.from c.loop-k.k c.args.m.now c.loop-k.invariant end
