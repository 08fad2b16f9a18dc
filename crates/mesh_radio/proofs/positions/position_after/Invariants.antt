use Rattle.std.proofs.Common.{ℕ, ◌≤◌, ◌<◌, ◌-◌, length}
use Rattle.std.specs.Prelude.{slice_index}
use Rattle.mesh_radio.proofs.positions.position_after.Given as goal

abbrev pub invariant-halves : goal.invariant-halves
invariant-halves l = record {
  le : l.low ≤ l.high;
  within : l.high ≤ length l.firsts;
  below : (j : ℕ) → j < l.low → slice_index l.firsts j ≤ l.id;
  above : (j : ℕ) → l.high ≤ j → j < length l.firsts → l.id < slice_index l.firsts j;
}

abbrev pub decreases-halves : goal.decreases-halves
decreases-halves l = l.high - l.low
