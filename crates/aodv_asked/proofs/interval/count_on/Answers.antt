use Rattle.std.proofs.Common.{◌≡◌, ◌+◌, ◌-◌, take, ap, ◌∙◌, arith}
use Rattle.aodv_asked.specs.Insertions.{interval_at}
use Rattle.aodv_asked.specs.Spots.{total, width}
use Rattle.aodv_asked.proofs.Counts.{whole_interval, total_before, total_step, total_whole}
use Rattle.aodv_asked.proofs.interval.count_on.Goals as goal

pub overflow_sub-v : goal.overflow_sub-v
overflow_sub-v c = whole_interval c.args.count c.args.intervals.now c.loop-v.v-index c.requires c.loop-v-test.true

pub overflow_add-count-in-loop-v : goal.overflow_add-count-in-loop-v
overflow_add-count-in-loop-v c =
    let xs = c.args.intervals.now in
    let k = c.loop-v.v-index in
    let low = total_before c.args.count xs k c.requires c.loop-v-test.true in
    let some = whole_interval c.args.count xs k c.requires c.loop-v-test.true in
    let so_far : c.loop-v.count ≡ c.args.count + total (take k xs) = c.loop-v.invariant in
    let more : c.from.result ≡ (interval_at xs k).last - (interval_at xs k).first = c.from.ensures in
    omega (arith, low, some)

pub loop-v-preserved : goal.loop-v-preserved
loop-v-preserved c =
    let xs = c.args.intervals.now in
    let k = c.loop-v.v-index in
    let some = whole_interval c.args.count xs k c.requires c.loop-v-test.true in
    let so_far : c.loop-v.count ≡ c.args.count + total (take k xs) = c.loop-v.invariant in
    let more : c.from.result ≡ (interval_at xs k).last - (interval_at xs k).first = c.from.ensures in
    let step : total (take (k + 1) xs) ≡ total (take k xs) + width (interval_at xs k) = total_step xs k c.loop-v-test.true in
    omega (arith, some, step)

pub returns : goal.returns
returns c = c.loop-v.invariant ∙ ap (λ n. c.args.count + n) (total_whole c.args.intervals.now c.loop-v.v-index c.loop-v-test.false)
