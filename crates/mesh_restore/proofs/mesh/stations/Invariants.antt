use Rattle.std.proofs.Common.{◌≡◌, length}
use Rattle.mesh_checkpoint.specs.Checkpoint as model
use Rattle.mesh_restore.proofs.MeshLists.{AreAddressesBelow}
use Rattle.mesh_checkpoint.proofs.Loop.{IsReadSoFar}
use Rattle.mesh_restore.proofs.mesh.stations.Given as goal

abbrev pub invariant-loop : goal.invariant-loop
invariant-loop l = record {
  so_far : IsReadSoFar (λ p. p.0) model.station.get l.count l.counter l.low l.bytes l.mesh l.rest;
  below : AreAddressesBelow l.low l.mesh;
  many : length l.mesh ≡ l.counter;
}
