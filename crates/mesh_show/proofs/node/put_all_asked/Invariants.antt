-- However the texts that are left are written, all of them then are.
use Rattle.std.proofs.Common.{◌≡◌, ◌-◌, ℕ, List, Option, Result, length}
use Rattle.mesh_io.specs.Puts.{Puts}
use Rattle.mesh_io.specs.declared.put.PutFault.{PutFault}
use Rattle.mesh_text.specs.Tables.{asked_text}
use Rattle.mesh_show.proofs.Listed.{asked_of}
use Rattle.mesh_show.proofs.Tables.{each_from}
use Rattle.mesh_show.proofs.node.put_all_asked.Given as goal

abbrev pub invariant-loop-o : goal.invariant-loop-o
invariant-loop-o g l = record {
  text : (now : Option (List ℕ)) (r : Result (Unit {0}) PutFault)
      → Puts (g.O.Sink.held l.out) now (each_from (length l.mesh - l.o) l.o (asked_of l.mesh l.asked.pairs)) r
      → Puts (g.O.Sink.held l.initial.out) now (asked_text l.mesh l.asked.pairs) r;
  faults : g.O.Sink.faults l.out ≡ g.O.Sink.faults l.initial.out;
}
