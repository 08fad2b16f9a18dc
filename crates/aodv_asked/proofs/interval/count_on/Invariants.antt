use Rattle.std.proofs.Common.{◌≡◌, ◌+◌, take}
use Rattle.aodv_asked.specs.Spots.{total}
use Rattle.aodv_asked.proofs.interval.count_on.Given as goal

abbrev pub invariant-loop-v : goal.invariant-loop-v
invariant-loop-v l = l.count ≡ l.fn.count + total (take l.v-index l.intervals)
