use Rattle.std.proofs.Common.{◌≡◌, ◌≤◌, ◌-◌, length}
use Rattle.mesh_model.specs.Worlds.{members_below}
use Rattle.mesh_router.specs.Casts.{sent_to_each}
use Rattle.mesh_router.specs.Outputs.{Adds}
use Rattle.mesh_router.proofs.casts.send_to_each.Given as goal

abbrev pub invariant-loop-x : goal.invariant-loop-x
invariant-loop-x g l = record {
  adds : Adds (g.O.Sink.held l.fn.out, g.L.Link.sent l.fn.link) (g.O.Sink.held l.out, g.L.Link.sent l.link) (sent_to_each l.peers l.packet.items (members_below l.start l.to));
  count : l.count ≡ length (members_below l.start l.to);
  within : l.start ≤ length l.peers.mesh;
  sink : g.O.Sink.faults l.out ≡ g.O.Sink.faults l.fn.out;
  links : g.L.Link.faults l.link ≡ g.L.Link.faults l.fn.link;
  port : g.L.Link.port l.link ≡ g.L.Link.port l.fn.link;
  arrived : g.L.Link.arrived l.link ≡ g.L.Link.arrived l.fn.link;
}

abbrev pub decreases-loop-x : goal.decreases-loop-x
decreases-loop-x g l = length l.peers.mesh - l.start
