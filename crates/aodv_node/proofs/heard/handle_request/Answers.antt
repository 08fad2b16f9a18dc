use Rattle.std.proofs.Common.{subst, sym, ◌∙◌}
use Rattle.aodv_model.specs.Cores.{Core, Heard, Rreq}
use Rattle.aodv_model.specs.Handlers.{turn}
use Rattle.aodv_model.specs.Fullness.{turn_full}
use Rattle.aodv_handlers.specs.Made.{IsMade}
use Rattle.aodv_handlers.specs.Shown.{core_of, request_of}
use Rattle.aodv_node.proofs.heard.handle_request.Goals as goal

pub returns-then-has_seen-clause-does : goal.returns-then-has_seen-clause-does
returns-then-has_seen-clause-does g c =
    let mesh = c.args.mesh.now in
    let range = c.args.range.now in
    let m = request_of c.args.m.now in
    let i = Heard c.args.from (Rreq m) in
    let did = c.take_seen_request.ensures.does mesh range m (sym c.has_seen.ensures ∙ c.if-has_seen.true) in
    subst (λ (k : Core). IsMade mesh (turn_full k range i) (turn k range i) c.take_seen_request.result (core_of g.T.Table.entries c.take_seen_request.new.core) c.take_seen_request.new.out.items) c.make_row.ensures.shown did
