use Rattle.mesh_checkpoint.specs.Checkpoint as model
use Rattle.mesh_checkpoint.proofs.Loop.{IsReadInTurn}
use Rattle.mesh_restore.proofs.inbox.items.Given as goal

abbrev pub invariant-loop : goal.invariant-loop
invariant-loop l = IsReadInTurn (model.item l.nodes).get l.count l.counter l.bytes (l.inbox).items l.rest
