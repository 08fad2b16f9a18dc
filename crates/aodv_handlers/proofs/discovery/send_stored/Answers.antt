use Rattle.std.proofs.Common.{sym, ◌∙◌}
use Rattle.aodv_handlers.specs.Shown.{core_of}
use Rattle.aodv_handlers.proofs.Unicasts.{sent_datum}
use Rattle.aodv_handlers.proofs.Delivered.{stored_made}
use Rattle.aodv_handlers.proofs.discovery.send_stored.Goals as goal

pub returns-clause-does : goal.returns-clause-does
returns-clause-does g c =
    stored_made c.args.mesh.now (core_of g.T.Table.entries c.args.core.now) c.args.range.now c.args.dest c.next_hop-towards.result c.in-Some.body.now c.drop_first.new.self.store c.casting.result c.write_data.new.out.items
    (sym c.has.ensures.value ∙ c.if-not-has.false) c.next_hop-towards.ensures c.in-Some.ensures.value c.drop_first.ensures.store c.casting.ensures
    (sent_datum c.args.mesh.now c.write_data.new.out.items c.in-Some.body.now c.args.dest c.args.core.now.me c.at.result c.at-in-Some.result c.at.ensures c.at-in-Some.ensures c.write_data.ensures.written c.write_data.ensures.encodes)
