use Rattle.std.proofs.Common.{◌≡◌, ◌+◌, ◌*◌, ◌≤◌, length}
use Rattle.mesh_capture.specs.declared.frame.TheConstants.{CAPACITY}
use Rattle.mesh_capture.specs.Frames.{words_sum}
use Rattle.mesh_capture.proofs.frame.words_sum.Given as goal

abbrev pub invariant-words : goal.invariant-words
invariant-words l = record {
  sum : l.sum + words_sum l.rest ≡ words_sum l.fn.bytes;
  fits : l.sum + 65535 * length l.rest ≤ 65535 * CAPACITY;
}

abbrev pub decreases-words : goal.decreases-words
decreases-words l = length l.rest
