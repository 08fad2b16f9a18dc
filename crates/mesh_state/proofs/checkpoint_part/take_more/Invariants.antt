-- What was taken stands behind the bytes, and no fault came.
use Rattle.std.proofs.Common.{◌≡◌, ◌≤◌, ◌+◌, vec_len}
use Rattle.mesh_state.proofs.Taking.{HasTaken}
use Rattle.mesh_state.proofs.checkpoint_part.take_more.Given as goal

abbrev pub invariant-loop-left : goal.invariant-loop-left
invariant-loop-left g l = record {
  taken : HasTaken l.count l.left (g.I.Source.left l.initial.input) (g.I.Source.left l.input) l.initial.bytes.items l.bytes.items;
  few : l.left ≤ l.count;
  room : vec_len l.bytes + l.left ≤ vec_len l.initial.bytes + l.count;
  none : g.I.Source.faults l.input ≡ g.I.Source.faults l.initial.input;
}

abbrev pub decreases-loop-left : goal.decreases-loop-left
decreases-loop-left g l = l.left
