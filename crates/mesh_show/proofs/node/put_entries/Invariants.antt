-- However the texts that are left are written, all of them then are.
use Rattle.std.proofs.Common.{◌≡◌, ◌-◌, ℕ, List, Option, Result, length}
use Rattle.std.specs.FinMap as maps
use Rattle.mesh_io.specs.Puts.{Puts}
use Rattle.mesh_io.specs.declared.put.PutFault.{PutFault}
use Rattle.mesh_text.specs.Tables.{routes_text}
use Rattle.mesh_show.specs.Destinations.{entry_of}
use Rattle.mesh_show.proofs.Tables.{each_from}
use Rattle.mesh_show.proofs.node.put_entries.Given as goal

abbrev pub invariant-loop-d : goal.invariant-loop-d
invariant-loop-d g l = record {
  text : (now : Option (List ℕ)) (r : Result (Unit {0}) PutFault)
      → Puts (g.O.Sink.held l.out) now (each_from (length l.mesh - l.d) l.d (λ d. entry_of l.mesh d (maps.get (l.node.core).rt d))) r
      → Puts (g.O.Sink.held l.initial.out) now (routes_text l.mesh (l.node.core).rt) r;
  faults : g.O.Sink.faults l.out ≡ g.O.Sink.faults l.initial.out;
}
