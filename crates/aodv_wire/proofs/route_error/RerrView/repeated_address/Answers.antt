use Rattle.std.proofs.Common.{sym, ◌∙◌, arith}
use Rattle.aodv_wire.specs.RouteError.{addresses}
use Rattle.aodv_wire.proofs.Repeats.{repeated_found, repeated_missed, below_goes_on, not_seen}
use Rattle.aodv_wire.proofs.route_error.RerrView.repeated_address.Goals as goal
use Rattle.aodv_wire.proofs.route_error.RerrView.repeated_address.Goals.{then-number-above, else-number-above+else-has_before}

pub returns-then-has_before : goal.returns-then-has_before
returns-then-has_before c =
    sym (repeated_found (addresses c.args.self.now) c.loop-k.k c.address-a.result c.address-a.ensures (sym c.has_before.ensures ∙ c.if-has_before.true))
    ∙ c.loop-k.invariant.so_far

pub loop-k-preserved : goal.loop-k-preserved
loop-k-preserved c =
    let seen = addresses c.args.self.now in
    let k = c.loop-k.k in
    let a = c.address-a.result in
    let here = c.address-a.ensures in
    let before = c.loop-k.invariant in
    elim c.if-number-above.branch [
      | then-number-above w ↦
          record {
            below = below_goes_on seen k a c.loop-k.above c.if-number-above.above here (omega (arith, w.above-is, w.if-number-above.true)) (omega (arith, w.above-is)) before.below;
            so_far = sym (repeated_missed seen k a here (not_seen _ c.loop-k.above a.0 (omega (arith, w.if-number-above.true)) before.below)) ∙ before.so_far;
          }
      | else-number-above+else-has_before w ↦
          record {
            below = below_goes_on seen k a c.loop-k.above c.if-number-above.above here (omega (arith, w.above-is)) (omega (arith, w.above-is, w.if-number-above.false)) before.below;
            so_far = sym (repeated_missed seen k a here (sym w.has_before.ensures ∙ w.if-has_before.false)) ∙ before.so_far;
          }
    ]
