-- However the digits of the bytes that are left are put, those of all then are.
use Rattle.std.proofs.Common.{◌≡◌, ℕ, List, Option, Result, length}
use Rattle.mesh_io.specs.Puts.{Puts}
use Rattle.mesh_io.specs.declared.put.PutFault.{PutFault}
use Rattle.mesh_text.specs.Lines.{hex}
use Rattle.mesh_report.proofs.text.put_hex.Given as goal

abbrev pub invariant-loop-rest : goal.invariant-loop-rest
invariant-loop-rest g l = record {
  text : (now : Option (List ℕ)) (r : Result (Unit {0}) PutFault) → Puts (g.O.Sink.held l.out) now (hex l.rest) r → Puts (g.O.Sink.held l.initial.out) now (hex l.bytes) r;
  none : g.O.Sink.faults l.out ≡ g.O.Sink.faults l.initial.out;
}

abbrev pub decreases-loop-rest : goal.decreases-loop-rest
decreases-loop-rest g l = length l.rest
