use Rattle.std.proofs.Common.{sym, ap, subst, ◌∙◌}
use Rattle.aodv_model.specs.Handlers.{Cast, is_empty}
use Rattle.aodv_meaning.specs.Sent.{IsPacket}
use Rattle.aodv_meaning.specs.Effects.{cast_of}
use Rattle.aodv_handlers.proofs.RouteErrors.{some_told, all_told, none_there, all_there}
use Rattle.aodv_handlers.proofs.errors.error_cast.Goals as goal

pub returns-then-is_empty-clause-cast : goal.returns-then-is_empty-clause-cast
returns-then-is_empty-clause-cast g c =
    sym (ap cast_of (none_there c.args.variant (g.T.Table.entries c.args.table.now) c.args.dests.now c.is_empty.result (sym c.is_broadcast.ensures ∙ c.if-is_broadcast.true) c.is_empty.ensures c.if-is_empty.true))

pub returns-then-is_empty-clause-packet : goal.returns-then-is_empty-clause-packet
returns-then-is_empty-clause-packet g c =
    subst (λ (x : Cast). IsPacket c.args.mesh.now c.clear.new.self.items x)
    (sym (none_there c.args.variant (g.T.Table.entries c.args.table.now) c.args.dests.now c.is_empty.result (sym c.is_broadcast.ensures ∙ c.if-is_broadcast.true) c.is_empty.ensures c.if-is_empty.true)) c.clear.ensures

pub write_error-requires-clause-some : goal.write_error-requires-clause-some
write_error-requires-clause-some g c =
    all_told c.args.variant (g.T.Table.entries c.args.table.now) c.args.dests.now c.is_empty.result (sym c.is_broadcast.ensures ∙ c.if-is_broadcast.true) c.is_empty.ensures c.if-is_empty.false

pub returns-then-is_broadcast-clause-cast : goal.returns-then-is_broadcast-clause-cast
returns-then-is_broadcast-clause-cast g c =
    sym (ap cast_of (all_there c.args.variant (g.T.Table.entries c.args.table.now) c.args.dests.now c.is_empty.result (sym c.is_broadcast.ensures ∙ c.if-is_broadcast.true) c.is_empty.ensures c.if-is_empty.false))

pub returns-then-is_broadcast-clause-packet : goal.returns-then-is_broadcast-clause-packet
returns-then-is_broadcast-clause-packet g c =
    subst (λ (x : Cast). IsPacket c.args.mesh.now c.write_error.new.out.items x)
    (sym (all_there c.args.variant (g.T.Table.entries c.args.table.now) c.args.dests.now c.is_empty.result (sym c.is_broadcast.ensures ∙ c.if-is_broadcast.true) c.is_empty.ensures c.if-is_empty.false)) c.write_error.ensures

pub write_error-requires-2-clause-some : goal.write_error-requires-2-clause-some
write_error-requires-2-clause-some g c =
    some_told c.args.variant (g.T.Table.entries c.args.table.now) c.args.dests.now (sym c.is_broadcast.ensures ∙ c.if-is_broadcast.false)
    (ap is_empty (sym c.all_precursors-to.ensures) ∙ sym c.is_empty-2.ensures ∙ c.if-is_empty-2.false)
