use Rattle.std.proofs.Common.{sym, ◌∙◌}
use Rattle.aodv_handlers.specs.Shown.{core_of}
use Rattle.aodv_handlers.proofs.Delivered.{data_here, data_lost}
use Rattle.aodv_handlers.proofs.data.take_datum.Goals as goal

pub returns-then-m-core-clause-does : goal.returns-then-m-core-clause-does
returns-then-m-core-clause-does g c =
    let m = c.args.m.now in
    data_here c.args.mesh.now (core_of g.T.Table.entries c.args.core.now) c.args.range.now m.body.now m.dip m.oip c.clear.new.self.items c.if-m-core.true c.clear.ensures

pub returns-then-not-has_route-clause-does : goal.returns-then-not-has_route-clause-does
returns-then-not-has_route-clause-does g c =
    let m = c.args.m.now in
    data_lost c.args.mesh.now (core_of g.T.Table.entries c.args.core.now) c.args.range.now m.body.now m.dip m.oip c.data_error-cast.result c.data_error-cast.new.out.items
    c.if-m-core.false (sym c.has_route.ensures ∙ c.if-not-has_route.true) c.data_error-cast.ensures.cast c.data_error-cast.ensures.packet
