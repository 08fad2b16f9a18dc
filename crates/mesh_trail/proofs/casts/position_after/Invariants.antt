use Rattle.std.proofs.Common.{◌≡◌, ℕ, ◌≤◌, ◌<◌, ◌-◌, length, Some}
use Rattle.std.specs.Prelude.{slice_get}
use Rattle.mesh_trail.specs.declared.casts.Cast.{Cast}
use Rattle.mesh_trail.proofs.casts.position_after.Given as goal

abbrev pub invariant-halves : goal.invariant-halves
invariant-halves l = record {
  le : l.low ≤ l.high;
  within : l.high ≤ length l.casts;
  below : (j : ℕ) (c : Cast) → j < l.low → slice_get l.casts j ≡ Some c → c.end ≤ l.id;
  above : (j : ℕ) (c : Cast) → l.high ≤ j → slice_get l.casts j ≡ Some c → l.id < c.end;
}

abbrev pub decreases-halves : goal.decreases-halves
decreases-halves l = l.high - l.low
