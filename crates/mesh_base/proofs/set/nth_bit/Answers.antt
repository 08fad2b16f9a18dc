use Rattle.std.proofs.Common.{◌≤◌, ◌/◌, ◌%◌, ◌^◌, ap, arith}
use Rattle.std.specs.Int.RustNames.{count_ones}
use Rattle.mesh_base.proofs.BitCounts.{mask-is, split-ones, halves-high}
use Rattle.mesh_base.proofs.set.nth_bit.Goals as goal

pub halves-preserved-then-rest-low : goal.halves-preserved-then-rest-low
halves-preserved-then-rest-low c =
    let h = c.halves in
    let inv = h.invariant in
    let within = inv.within in
    let mask = ap count_ones (mask-is (c.args.word / 2 ^ h.base) (h.width / 2) (omega (arith, c.halves-test.true))) in
    record {
      some = omega (arith, c.halves-test.true);
      within = omega (arith, c.halves-test.true);
      below = inv.below;
      more = omega (arith, c.if-rest-low.true);
    }

pub halves-preserved : goal.halves-preserved
halves-preserved c =
    let h = c.halves in
    let inv = h.invariant in
    let within = inv.within in
    let below = inv.below in
    let half = h.width / 2 in
    let mask = ap count_ones (mask-is (c.args.word / 2 ^ h.base) half (omega (arith, c.halves-test.true))) in
    let split = split-ones c.args.word h.base half in
    let up : count_ones (c.args.word / 2 ^ h.base % 2 ^ half) ≤ h.rest = omega (arith, c.if-rest-low.false) in
    let high = halves-high c.args.word h.base half h.rest h.width (omega arith) inv.more up in
    record {
      some = omega (arith, c.halves-test.true);
      within = omega arith;
      below = omega arith;
      more = omega arith;
    }
