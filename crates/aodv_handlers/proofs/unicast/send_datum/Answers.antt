use Rattle.std.proofs.Common.{sym, ◌∙◌}
use Rattle.aodv_handlers.specs.Shown.{core_of, parcel_of}
use Rattle.aodv_handlers.proofs.Unicasts.{near_made, sent_datum}
use Rattle.aodv_handlers.proofs.unicast.send_datum.Goals as goal

pub returns-clause-does : goal.returns-clause-does
returns-clause-does g c =
    near_made c.args.mesh.now (core_of g.T.Table.entries c.args.core.now) (parcel_of c.args.m.now) c.args.y c.args.range.now c.casting.result c.write_data.new.out.items
    (sym c.has.ensures.value ∙ c.if-not-has.false) c.casting.ensures
    (sent_datum c.args.mesh.now c.write_data.new.out.items c.args.m.now.body.now c.args.m.now.dip c.args.m.now.oip c.at.result c.at-2.result c.at.ensures c.at-2.ensures c.write_data.ensures.written c.write_data.ensures.encodes)
