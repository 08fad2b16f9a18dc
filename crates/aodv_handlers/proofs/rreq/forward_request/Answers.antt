use Rattle.std.proofs.Common.{ap, max, ◌∙◌}
use Rattle.std.specs.Prelude.{◌+◌}
use Rattle.aodv_model.specs.Tables.{sqn}
use Rattle.aodv_model.specs.Handlers.{forward_request}
use Rattle.aodv_handlers.specs.Shown.{core_of, request_of}
use Rattle.aodv_handlers.proofs.Unicasts.{sent_request}
use Rattle.aodv_handlers.proofs.Requests.{forward_made}
use Rattle.aodv_handlers.proofs.rreq.forward_request.Goals as goal

pub returns : goal.returns
unfolding forward_request
returns g c =
    let m = c.args.m.now in
    forward_made c.args.mesh.now (core_of g.T.Table.entries c.args.core.now) (request_of m) c.casting.result c.write_rreq.new.out.items c.casting.ensures
    (sent_request c.args.mesh.now c.write_rreq.new.out.items (m.hops + 1) m.id m.dip (max (sqn (g.T.Table.entries c.args.core.now.table) m.dip) m.dsn) c.larger.result m.oip m.osn m.known c.at.result c.at-2.result c.at.ensures c.at-2.ensures
    (c.larger.ensures ∙ ap (λ n. max n m.dsn) c.number-mine.ensures) c.write_rreq.ensures.written c.write_rreq.ensures.encodes)
