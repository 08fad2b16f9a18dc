use Rattle.std.proofs.Common.{arith}
use Rattle.aodv_table.proofs.Searches.{valid_none, valid_one, valid_all}
use Rattle.aodv_table.proofs.table.Table.valid.Goals as goal

pub loop-d-init : goal.loop-d-init
loop-d-init g c = valid_none (g.Self.Table.entries c.args.self.now) c.new-valid.result c.new-valid.ensures

pub loop-d-preserved : goal.loop-d-preserved
loop-d-preserved g c = valid_one (g.Self.Table.entries c.args.self.now) c.loop-d.d c.get.result c.loop-d.valid c.mark_valid.new.valid c.get.ensures.value c.mark_valid.ensures c.loop-d.invariant

pub returns : goal.returns
returns g c =
    valid_all (g.Self.Table.entries c.args.self.now) (g.Self.Table.nodes c.args.self.now) c.loop-d.d c.loop-d.valid c.nodes-nodes.ensures.below (omega (arith, c.nodes-nodes.ensures.value, c.loop-d-test.false)) c.loop-d.invariant
