use Rattle.std.proofs.Common.{refl, ap, sym, ◌∙◌}
use Rattle.mesh_base.specs.declared.events.Kind.TheVariants as kinds
use Rattle.aodv_model.specs.Cores.{Rreq, Rrep, Rerr}
use Rattle.aodv_meaning.specs.Meaning.{dests_in, in_mesh, stranger}
use Rattle.aodv_handlers.specs.Shown.{core_of, request_of, reply_of, parcel_of}
use Rattle.aodv_node.specs.declared.meaning.Meaning.TheVariants as meanings
use Rattle.aodv_node.proofs.Readings.{heard_as, means_as, says}
use Rattle.aodv_node.proofs.heard.handle.Goals as goal

pub handle_request-requires-clause-says : goal.handle_request-requires-clause-says
handle_request-requires-clause-says g c =
    says c.args.mesh.now c.args.bytes.now c.in-Ok.message (Rreq (request_of c.in-Ok-Request.m)) c.in-Ok.ensures.exact c.in-Ok-Request.ensures.known
    (means_as c.args.mesh.now c.in-Ok.message c.in-Ok-Request.field-0 (meanings.Request c.in-Ok-Request.m) c.in-Ok-Request.field-0-is c.in-Ok-Request.ensures.means)

pub handle_reply-requires-clause-says : goal.handle_reply-requires-clause-says
handle_reply-requires-clause-says g c =
    says c.args.mesh.now c.args.bytes.now c.in-Ok.message (Rrep (reply_of c.in-Ok-Reply.m)) c.in-Ok.ensures.exact c.in-Ok-Reply.ensures.known
    (means_as c.args.mesh.now c.in-Ok.message c.in-Ok-Reply.field-0 (meanings.Reply c.in-Ok-Reply.m) c.in-Ok-Reply.field-0-is c.in-Ok-Reply.ensures.means)

pub handle_datum-requires-clause-says : goal.handle_datum-requires-clause-says
handle_datum-requires-clause-says g c =
    says c.args.mesh.now c.args.bytes.now c.in-Ok.message (parcel_of c.in-Ok-Datum.m) c.in-Ok.ensures.exact c.in-Ok-Datum.ensures.known
    (means_as c.args.mesh.now c.in-Ok.message c.in-Ok-Datum.field-0 (meanings.Datum c.in-Ok-Datum.m) c.in-Ok-Datum.field-0-is c.in-Ok-Datum.ensures.means)

pub handle_error-requires-clause-known : goal.handle_error-requires-clause-known
handle_error-requires-clause-known g c =
    let is = means_as c.args.mesh.now c.in-Ok.message c.in-Ok-Error.field-0 (meanings.Error c.in-Ok-Error.m) c.in-Ok-Error.field-0-is c.in-Ok-Error.ensures.means in
    ap (stranger c.args.mesh.now) (sym is) ∙ c.in-Ok-Error.ensures.known

pub returns-in-Ok-Request-clause-does : goal.returns-in-Ok-Request-clause-does
returns-in-Ok-Request-clause-does g c =
    heard_as c.args.mesh.now (core_of g.T.Table.entries c.args.core.now) c.args.range.now c.args.from c.args.bytes.now c.in-Ok.message (Rreq (request_of c.in-Ok-Request.m)) kinds.Rreq c.handle_request.result c.with_kind.result (core_of g.T.Table.entries c.handle_request.new.core) c.handle_request.new.out.items
    c.in-Ok.ensures.exact c.in-Ok-Request.ensures.known (means_as c.args.mesh.now c.in-Ok.message c.in-Ok-Request.field-0 (meanings.Request c.in-Ok-Request.m) c.in-Ok-Request.field-0-is c.in-Ok-Request.ensures.means)
    refl c.handle_request.ensures.does c.with_kind.ensures

pub returns-in-Ok-Reply-clause-does : goal.returns-in-Ok-Reply-clause-does
returns-in-Ok-Reply-clause-does g c =
    heard_as c.args.mesh.now (core_of g.T.Table.entries c.args.core.now) c.args.range.now c.args.from c.args.bytes.now c.in-Ok.message (Rrep (reply_of c.in-Ok-Reply.m)) kinds.Rrep c.handle_reply.result c.with_kind-in-Ok-Reply.result (core_of g.T.Table.entries c.handle_reply.new.core) c.handle_reply.new.out.items
    c.in-Ok.ensures.exact c.in-Ok-Reply.ensures.known (means_as c.args.mesh.now c.in-Ok.message c.in-Ok-Reply.field-0 (meanings.Reply c.in-Ok-Reply.m) c.in-Ok-Reply.field-0-is c.in-Ok-Reply.ensures.means)
    refl c.handle_reply.ensures.does c.with_kind-in-Ok-Reply.ensures

pub returns-in-Ok-Datum-clause-does : goal.returns-in-Ok-Datum-clause-does
returns-in-Ok-Datum-clause-does g c =
    heard_as c.args.mesh.now (core_of g.T.Table.entries c.args.core.now) c.args.range.now c.args.from c.args.bytes.now c.in-Ok.message (parcel_of c.in-Ok-Datum.m) kinds.Data c.handle_datum.result c.with_kind-in-Ok-Datum.result (core_of g.T.Table.entries c.handle_datum.new.core) c.handle_datum.new.out.items
    c.in-Ok.ensures.exact c.in-Ok-Datum.ensures.known (means_as c.args.mesh.now c.in-Ok.message c.in-Ok-Datum.field-0 (meanings.Datum c.in-Ok-Datum.m) c.in-Ok-Datum.field-0-is c.in-Ok-Datum.ensures.means)
    refl c.handle_datum.ensures.does c.with_kind-in-Ok-Datum.ensures

pub returns-in-Ok-Error-clause-does : goal.returns-in-Ok-Error-clause-does
returns-in-Ok-Error-clause-does g c =
    let is = means_as c.args.mesh.now c.in-Ok.message c.in-Ok-Error.field-0 (meanings.Error c.in-Ok-Error.m) c.in-Ok-Error.field-0-is c.in-Ok-Error.ensures.means in
    heard_as c.args.mesh.now (core_of g.T.Table.entries c.args.core.now) c.args.range.now c.args.from c.args.bytes.now c.in-Ok.message (Rerr (dests_in c.args.mesh.now c.in-Ok-Error.m)) kinds.Rerr c.handle_error.result c.with_kind-in-Ok-Error.result (core_of g.T.Table.entries c.handle_error.new.core) c.handle_error.new.out.items
    c.in-Ok.ensures.exact c.in-Ok-Error.ensures.known (ap (in_mesh c.args.mesh.now) is) refl c.handle_error.ensures.does c.with_kind-in-Ok-Error.ensures
