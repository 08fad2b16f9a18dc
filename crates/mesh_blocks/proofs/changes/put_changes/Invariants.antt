-- However the changes that are left are written, all of them then are.
use Rattle.std.proofs.Common.{◌≡◌, ℕ, List, Option, Result, length}
use Rattle.mesh_io.specs.Puts.{Puts}
use Rattle.mesh_io.specs.declared.put.PutFault.{PutFault}
use Rattle.mesh_blocks.specs.Changes.{lines_of}
use Rattle.mesh_blocks.proofs.ChangeTexts.{text_of}
use Rattle.mesh_blocks.proofs.changes.put_changes.Given as goal

abbrev pub invariant-lines : goal.invariant-lines
invariant-lines g l = record {
  text : (now : Option (List ℕ)) (r : Result (Unit {0}) PutFault)
      → Puts (g.O.Sink.held l.out) now (text_of (lines_of l.rest) (lines_of l.left)) r
      → Puts (g.O.Sink.held l.initial.out) now (text_of (lines_of l.initial.rest) (lines_of l.initial.left)) r;
  faults : g.O.Sink.faults l.out ≡ g.O.Sink.faults l.initial.out;
}

abbrev pub decreases-lines : goal.decreases-lines
decreases-lines g l = length l.rest
