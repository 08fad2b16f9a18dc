use Rattle.std.proofs.Common.{sym, ◌∙◌}
use Rattle.aodv_model.specs.Cores.{Rrep}
use Rattle.aodv_handlers.specs.Shown.{core_of, reply_of}
use Rattle.aodv_handlers.proofs.Unicasts.{near_made, sent_reply}
use Rattle.aodv_handlers.proofs.unicast.send_reply.Goals as goal

pub returns-clause-does : goal.returns-clause-does
returns-clause-does g c =
    near_made c.args.mesh.now (core_of g.T.Table.entries c.args.core.now) (Rrep (reply_of c.args.m)) c.args.y c.args.range.now c.casting.result c.write_rrep.new.out.items
    (sym c.has.ensures.value ∙ c.if-not-has.false) c.casting.ensures
    (sent_reply c.args.mesh.now c.write_rrep.new.out.items (reply_of c.args.m) c.at.result c.at-2.result c.at.ensures c.at-2.ensures c.write_rrep.ensures.written c.write_rrep.ensures.encodes)
