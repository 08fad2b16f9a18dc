use Rattle.std.proofs.Common.{◌≡◌, length}
use Rattle.mesh_restore.proofs.StoreLists.{AreAdded}
use Rattle.mesh_restore.proofs.store.bodies.Given as goal

abbrev pub invariant-loop : goal.invariant-loop
invariant-loop l = record {
  added : AreAdded (l.fn.waiting).store l.dest l.count l.counter l.bytes (l.waiting).store l.rest;
  nodes : length (l.waiting).rooms ≡ length (l.fn.waiting).rooms;
}
