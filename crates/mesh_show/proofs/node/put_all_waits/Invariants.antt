-- However the texts that are left are written, all of them then are.
use Rattle.std.proofs.Common.{◌≡◌, ◌-◌, ℕ, List, Option, Result, length}
use Rattle.mesh_io.specs.Puts.{Puts}
use Rattle.mesh_io.specs.declared.put.PutFault.{PutFault}
use Rattle.std.specs.FinMap as maps
use Rattle.mesh_text.specs.Tables.{store_text}
use Rattle.mesh_show.specs.Destinations.{waits_of}
use Rattle.mesh_show.proofs.Tables.{each_from}
use Rattle.mesh_show.proofs.node.put_all_waits.Given as goal

abbrev pub invariant-loop-d : goal.invariant-loop-d
invariant-loop-d g l = record {
  text : (now : Option (List ℕ)) (r : Result (Unit {0}) PutFault)
      → Puts (g.O.Sink.held l.out) now (each_from (length l.mesh - l.d) l.d (λ d. waits_of l.mesh d (maps.get l.waiting.store d))) r
      → Puts (g.O.Sink.held l.initial.out) now (store_text l.mesh l.waiting.store) r;
  faults : g.O.Sink.faults l.out ≡ g.O.Sink.faults l.initial.out;
}
