use Rattle.mesh_save.specs.Bytes.{request_bytes}
use Rattle.mesh_save.proofs.Ids.{AreIdsPut, ids_left}
use Rattle.mesh_save.proofs.requests.put_requests_of.Given as goal

abbrev pub invariant-ids : goal.invariant-ids
invariant-ids g l = AreIdsPut g.P.Encoder.wrote request_bytes l.asked.pairs l.origin l.next l.initial.encoder l.encoder

abbrev pub decreases-ids : goal.decreases-ids
decreases-ids g l = ids_left l.asked.pairs l.origin l.next
