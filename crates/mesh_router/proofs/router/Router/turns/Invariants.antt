use Rattle.std.proofs.Common.{◌≡◌, ◌≤◌, ◌-◌, ◌*◌}
use Rattle.mesh_base.specs.declared.limits.TheConstants.{MOST_NODES}
use Rattle.mesh_router.specs.Seen.{IsGrown}
use Rattle.mesh_router.specs.Short.{AreTurnsShort}
use Rattle.mesh_router.proofs.Turning.{AreDone}
use Rattle.mesh_router.proofs.router.Router.turns.Given as goal

abbrev pub invariant-loop-i : goal.invariant-loop-i
invariant-loop-i g l = record {
  done : AreDone l.count (l.count - l._i) l.fn.self l.self (g.O.Sink.held l.fn.out, g.L.Link.sent l.fn.link) (g.O.Sink.held l.out, g.L.Link.sent l.link);
  short : AreTurnsShort (l.count - l._i) l.self → AreTurnsShort l.count l.fn.self;
  grown : IsGrown (MOST_NODES * l._i) l.fn.self l.self;
  few : l._i ≤ l.count;
  peers : l.self.peers ≡ l.fn.self.peers;
  sink : g.O.Sink.faults l.out ≡ g.O.Sink.faults l.fn.out;
  links : g.L.Link.faults l.link ≡ g.L.Link.faults l.fn.link;
  port : g.L.Link.port l.link ≡ g.L.Link.port l.fn.link;
  arrived : g.L.Link.arrived l.link ≡ g.L.Link.arrived l.fn.link;
}
