-- The line stands among those that are left where it stands among all.
use Rattle.std.proofs.Common.{◌≡◌, length}
use Rattle.mesh_blocks.specs.Changes.{lines_of, stands_in}
use Rattle.mesh_blocks.proofs.changes.stands_in.Given as goal

abbrev pub invariant-lines : goal.invariant-lines
invariant-lines l = stands_in l.line (lines_of l.initial.rest) ≡ stands_in l.line (lines_of l.rest)

abbrev pub decreases-lines : goal.decreases-lines
decreases-lines l = length l.rest
