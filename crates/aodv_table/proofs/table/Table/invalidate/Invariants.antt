use Rattle.std.proofs.Common.{◌≡◌, length}
use Rattle.std.specs.FinMap as maps
use Rattle.aodv_table.proofs.Changes.{Left}
use Rattle.aodv_table.proofs.table.Table.invalidate.Given as goal

abbrev pub invariant-loop-k : goal.invariant-loop-k
invariant-loop-k g l = record {
  left : Left (g.Self.Table.entries l.fn.self) (g.Self.Table.entries l.self) l.dests l.k;
  rooms : g.Self.Table.rooms l.self ≡ g.Self.Table.rooms l.fn.self;
  nodes : g.Self.Table.nodes l.self ≡ g.Self.Table.nodes l.fn.self;
  end : l.k-end ≡ length (maps.entries l.dests);
}
