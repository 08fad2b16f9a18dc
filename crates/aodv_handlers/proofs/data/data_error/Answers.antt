use Rattle.std.proofs.Common.{sym, ◌∙◌}
use Rattle.aodv_handlers.specs.Shown.{core_of}
use Rattle.aodv_handlers.proofs.Delivered.{error_packet}
use Rattle.aodv_handlers.proofs.data.data_error.Goals as goal

pub returns-then-is_broadcast-clause-packet : goal.returns-then-is_broadcast-clause-packet
returns-then-is_broadcast-clause-packet g c =
    error_packet c.args.mesh.now (core_of g.T.Table.entries c.args.core.now) c.args.d c.in-Some.e c.at.result c.write_rerr.new.out.items (sym c.get.ensures.value ∙ c.in-Some.is) (sym c.makes_an_error.ensures ∙ c.if-makes_an_error.true) c.at.ensures c.write_rerr.ensures.written c.write_rerr.ensures.encodes

pub returns-else-is_broadcast-clause-packet : goal.returns-else-is_broadcast-clause-packet
returns-else-is_broadcast-clause-packet g c =
    error_packet c.args.mesh.now (core_of g.T.Table.entries c.args.core.now) c.args.d c.in-Some.e c.at.result c.write_rerr.new.out.items (sym c.get.ensures.value ∙ c.in-Some.is) (sym c.makes_an_error.ensures ∙ c.if-makes_an_error.true) c.at.ensures c.write_rerr.ensures.written c.write_rerr.ensures.encodes
