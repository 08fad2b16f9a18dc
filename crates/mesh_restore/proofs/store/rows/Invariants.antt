use Rattle.std.proofs.Common.{◌≡◌, length}
use Rattle.mesh_checkpoint.specs.Checkpoint as model
use Rattle.mesh_checkpoint.specs.Points.{waits_in}
use Rattle.mesh_restore.specs.Stores.{AreBelow}
use Rattle.mesh_checkpoint.proofs.Loop.{IsReadSoFar}
use Rattle.mesh_restore.proofs.store.rows.Given as goal

abbrev pub invariant-loop : goal.invariant-loop
invariant-loop l = record {
  so_far : IsReadSoFar (λ w. w.dest) (model.waits l.nodes).get l.count l.counter l.low l.bytes (waits_in (l.waiting).store) l.rest;
  below : AreBelow l.low (l.waiting).store;
  nodes : length (l.waiting).rooms ≡ l.nodes;
}
