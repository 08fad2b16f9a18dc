-- However the copies that are left are written, all of them then are.
use Rattle.std.proofs.Common.{◌≡◌, ◌-◌, ℕ, List, Option, Result, map}
use Rattle.mesh_io.specs.Puts.{Puts}
use Rattle.mesh_io.specs.declared.put.PutFault.{PutFault}
use Rattle.mesh_meaning.specs.Packets.{copy_in}
use Rattle.mesh_radio.specs.Copies.{from_id}
use Rattle.mesh_text.specs.Tables.{flight_text}
use Rattle.mesh_run.proofs.show.put_copies.Given as goal

abbrev pub invariant-loop-flying : goal.invariant-loop-flying
invariant-loop-flying g l = record {
  text : (now : Option (List ℕ)) (r : Result (Unit {0}) PutFault)
      → Puts (g.O.Sink.held l.out) now (flight_text l.mesh (map (copy_in l.mesh) (from_id l.radio.flying l.start))) r
      → Puts (g.O.Sink.held l.initial.out) now (flight_text l.mesh (map (copy_in l.mesh) l.radio.flying)) r;
  faults : g.O.Sink.faults l.out ≡ g.O.Sink.faults l.initial.out;
}

abbrev pub decreases-loop-flying : goal.decreases-loop-flying
decreases-loop-flying g l = l.radio.next_copy - l.start
