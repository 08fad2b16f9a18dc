use Rattle.std.proofs.Common.{◌≡◌}
use Rattle.mesh_checkpoint.specs.Checkpoint as model
use Rattle.mesh_checkpoint.specs.Points.{routes_in}
use Rattle.mesh_restore.specs.Nodes.{ArePrecursorsBelow}
use Rattle.mesh_restore.specs.Stores.{AreBelow}
use Rattle.mesh_checkpoint.proofs.Loop.{IsReadSoFar}
use Rattle.mesh_restore.proofs.routes.rows.Given as goal

abbrev pub invariant-loop : goal.invariant-loop
invariant-loop l = record {
  so_far : IsReadSoFar (λ r. r.dest) (model.route l.nodes).get l.count l.counter l.low l.bytes (routes_in (l.table).entries) l.rest;
  below : AreBelow l.low (l.table).entries;
  nodes : (l.table).nodes ≡ l.nodes;
  precursors : ArePrecursorsBelow l.nodes (l.table).entries;
}
