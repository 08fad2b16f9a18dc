-- However the texts of the bytes that are left are put, all of them then are.
use Rattle.std.proofs.Common.{◌≡◌, ℕ, List, Option, Result, drop}
use Rattle.std.specs.List.{flat_map}
use Rattle.mesh_io.specs.Puts.{Puts}
use Rattle.mesh_io.specs.declared.put.PutFault.{PutFault}
use Rattle.mesh_text.specs.Effects.{shown_byte}
use Rattle.mesh_report.proofs.text.put_shown.Given as goal

abbrev pub invariant-loop-b : goal.invariant-loop-b
invariant-loop-b g l = record {
  text : (now : Option (List ℕ)) (r : Result (Unit {0}) PutFault)
      → Puts (g.O.Sink.held l.out) now (flat_map shown_byte (drop l.b-index l.body)) r
      → Puts (g.O.Sink.held l.initial.out) now (flat_map shown_byte l.body) r;
  none : g.O.Sink.faults l.out ≡ g.O.Sink.faults l.initial.out;
}
