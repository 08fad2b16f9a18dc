use Rattle.std.proofs.Common.{◌≡◌, ◌<◌, ◌≤◌, ◌+◌, ◌/◌, ◌%◌, ◌^◌}
use Rattle.std.specs.Int.RustNames.{count_ones}
use Rattle.mesh_base.proofs.set.nth_bit.Given as goal

-- the bit is among `width` from `base` on, of which it is the one of rank `rest`
abbrev pub invariant-halves : goal.invariant-halves
invariant-halves l = record {
  some : 1 ≤ l.width;
  within : l.base + l.width ≤ 64;
  below : count_ones (l.word % 2 ^ l.base) + l.rest ≡ l.k;
  more : l.rest < count_ones (l.word / 2 ^ l.base % 2 ^ l.width);
}

abbrev pub decreases-halves : goal.decreases-halves
decreases-halves l = l.width
