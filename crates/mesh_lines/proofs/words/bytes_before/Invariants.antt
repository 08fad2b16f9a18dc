use Rattle.std.proofs.Common.{◌≡◌, ◌+◌, ◌-◌, ◌≤◌, eqb, drop, length}
use Rattle.std.specs.List.{position_or_len}
use Rattle.mesh_lines.proofs.words.bytes_before.Given as goal

abbrev pub invariant-bytes : goal.invariant-bytes
invariant-bytes l = record {
  value : l.at + position_or_len (λ b. eqb b l.sep) (drop l.at l.bytes) ≡ position_or_len (λ b. eqb b l.sep) l.bytes;
  within : l.at ≤ length l.bytes;
}

abbrev pub decreases-bytes : goal.decreases-bytes
decreases-bytes l = length l.bytes - l.at
