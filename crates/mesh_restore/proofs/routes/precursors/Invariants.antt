use Rattle.std.proofs.Common.{◌≤◌}
use Rattle.mesh_base.specs.Members.{member_list}
use Rattle.mesh_checkpoint.specs.Checkpoint as model
use Rattle.mesh_restore.proofs.Listings.{AreMembersBelow}
use Rattle.mesh_checkpoint.proofs.Loop.{IsReadSoFar}
use Rattle.mesh_restore.proofs.routes.precursors.Given as goal

abbrev pub invariant-loop : goal.invariant-loop
invariant-loop l = record {
  so_far : IsReadSoFar (λ i. i) (model.index l.nodes).get l.count l.counter l.low l.bytes (member_list l.found) l.rest;
  below : AreMembersBelow l.low l.found;
  within : l.low ≤ l.nodes;
}
