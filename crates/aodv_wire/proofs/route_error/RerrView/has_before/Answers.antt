use Rattle.std.proofs.Common.{sym, ◌∙◌}
use Rattle.std.proofs.lemmas.Bool.{eqb-true, eqb-false}
use Rattle.aodv_wire.specs.RouteError.{addresses}
use Rattle.aodv_wire.proofs.Repeats.{any_found, any_missed}
use Rattle.aodv_wire.proofs.route_error.RerrView.has_before.Goals as goal

pub returns-then-eq : goal.returns-then-eq
returns-then-eq c =
    sym (any_found (addresses c.args.self.now) c.args.k c.loop-j.j c.args.a.0 c.address.result c.loop-j-test.true c.address.ensures (eqb-true _ _ (sym c.eq.ensures ∙ c.if-eq.true)))
    ∙ c.loop-j.invariant

pub loop-j-preserved : goal.loop-j-preserved
loop-j-preserved c =
    sym (any_missed (addresses c.args.self.now) c.args.k c.loop-j.j c.args.a.0 c.address.result c.loop-j-test.true c.address.ensures (eqb-false _ _ (sym c.eq.ensures ∙ c.if-eq.false)))
    ∙ c.loop-j.invariant
