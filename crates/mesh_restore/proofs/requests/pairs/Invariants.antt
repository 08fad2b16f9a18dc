use Rattle.std.proofs.Common.{◌≡◌, length}
use Rattle.mesh_checkpoint.specs.Checkpoint as model
use Rattle.aodv_model.specs.Pairs.{pairs_in}
use Rattle.mesh_restore.proofs.PairLists.{ArePairsBelow}
use Rattle.mesh_checkpoint.proofs.Loop.{IsReadSoFar}
use Rattle.mesh_restore.proofs.requests.pairs.Given as goal

abbrev pub invariant-loop : goal.invariant-loop
invariant-loop l = record {
  so_far : IsReadSoFar model.request_key (model.request l.nodes).get l.count l.counter l.low l.bytes (pairs_in (l.asked).pairs) l.rest;
  below : ArePairsBelow l.low (l.asked).pairs;
  nodes : length (l.asked).rooms ≡ l.nodes;
}
