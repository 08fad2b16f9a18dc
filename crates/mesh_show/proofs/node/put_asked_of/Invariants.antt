-- However the ids that are left are written, all of them then are.
use Rattle.std.proofs.Common.{◌≡◌, ℕ, List, Option, Result}
use Rattle.std.specs.List.{flat_map}
use Rattle.mesh_io.specs.Puts.{Puts}
use Rattle.mesh_io.specs.declared.put.PutFault.{PutFault}
use Rattle.aodv_asked.specs.Requests.{ids_beside}
use Rattle.mesh_text.specs.Tables.{asked_line}
use Rattle.mesh_show.proofs.Asked.{left_text, left_count, IsThere}
use Rattle.mesh_show.proofs.node.put_asked_of.Given as goal

abbrev pub invariant-ids : goal.invariant-ids
invariant-ids g l = record {
  text : (now : Option (List ℕ)) (r : Result (Unit {0}) PutFault)
      → Puts (g.O.Sink.held l.out) now (left_text l.mesh l.asked.pairs l.o l.next) r
      → Puts (g.O.Sink.held l.initial.out) now (flat_map (asked_line l.mesh l.o) (ids_beside l.asked.pairs l.o)) r;
  there : IsThere l.asked.pairs l.o l.next;
  faults : g.O.Sink.faults l.out ≡ g.O.Sink.faults l.initial.out;
}

abbrev pub decreases-ids : goal.decreases-ids
decreases-ids g l = left_count l.asked.pairs l.o l.next
