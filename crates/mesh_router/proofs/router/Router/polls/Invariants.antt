use Rattle.std.proofs.Common.{◌≡◌, ◌-◌}
use Rattle.mesh_router.specs.Seen.{IsGrown}
use Rattle.mesh_router.proofs.Polling.{ArePolled}
use Rattle.mesh_router.proofs.router.Router.polls.Given as goal

abbrev pub invariant-loop-i : goal.invariant-loop-i
invariant-loop-i g l = record {
  polled : ArePolled l.count (l.count - l._i) l.fn.self l.self (g.L.Link.arrived l.fn.link) (g.L.Link.arrived l.link) (g.O.Sink.held l.fn.out, g.L.Link.sent l.fn.link) (g.O.Sink.held l.out, g.L.Link.sent l.link);
  grown : IsGrown l._i l.fn.self l.self;
  peers : l.self.peers ≡ l.fn.self.peers;
  sink : g.O.Sink.faults l.out ≡ g.O.Sink.faults l.fn.out;
  links : g.L.Link.faults l.link ≡ g.L.Link.faults l.fn.link;
  port : g.L.Link.port l.link ≡ g.L.Link.port l.fn.link;
}
