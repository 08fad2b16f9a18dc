use Rattle.std.proofs.Common.{◌≡◌}
use Rattle.mesh_checkpoint.specs.Checkpoint as model
use Rattle.mesh_checkpoint.specs.Points.{links_of}
use Rattle.mesh_restore.proofs.LinkLists.{AreLinksBelow, HaveStood}
use Rattle.mesh_checkpoint.proofs.Loop.{IsReadSoFar}
use Rattle.mesh_restore.proofs.links.link_all.Given as goal

abbrev pub invariant-loop : goal.invariant-loop
invariant-loop l = record {
  so_far : IsReadSoFar model.link_key (model.link l.nodes).get l.count l.counter l.low l.bytes (links_of (l.radio).ever (l.radio).links) l.rest;
  below : AreLinksBelow l.low (l.radio).ever;
  stood : HaveStood l.radio;
  others : l.radio ≡ record l.fn.radio { links = (l.radio).links; ever = (l.radio).ever };
}
