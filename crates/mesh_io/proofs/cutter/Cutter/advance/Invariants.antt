use Rattle.std.proofs.Common.{◌≡◌, true}
use Rattle.std.specs.Io.KnownBytes.{Keeps}
use Rattle.mesh_io.specs.Cutting.{ahead_in, decides_in, reads_to_come}
use Rattle.mesh_io.proofs.cutter.Cutter.advance.Given as goal

-- what is to come stays; a read is asked for only where the pending bytes don't decide
abbrev pub invariant-reads : goal.invariant-reads
invariant-reads g l = record {
  same : (l.self.source).ghost_name ≡ (l.fn.self.source).ghost_name;
  most : l.self.most ≡ l.fn.self.most;
  given : l.self.given ≡ l.fn.self.given;
  ahead : Keeps (ahead_in g.S.Source.left l.fn.self) (ahead_in g.S.Source.left l.self);
  unread : decides_in l.fn.self ≡ true → l.self ≡ l.fn.self;
  faults : g.S.Source.faults (l.self.source).now ≡ g.S.Source.faults (l.fn.self.source).now;
}

abbrev pub decreases-reads : goal.decreases-reads
decreases-reads g l = reads_to_come l.self
