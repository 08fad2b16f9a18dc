use Rattle.aodv_table.proofs.Changes.{updated_is, same_is}
use Rattle.std.proofs.Common.{◌∙◌}
use Rattle.aodv_table.proofs.table.Table.update.Goals as goal

pub returns-clause-entries : goal.returns-clause-entries
returns-clause-entries g c =
    c.put.ensures.entries
    ∙ updated_is (g.Self.Table.entries c.args.self.now) c.args.d c.args.r c.entry_after-after.result c.get-before.result c.get-before.ensures.value c.entry_after-after.ensures

pub returns-clause-same : goal.returns-clause-same
returns-clause-same g c =
    same_is (g.Self.Table.entries c.args.self.now) (g.Self.Table.entries c.put.new.self) c.args.d c.entry_after-after.result c.get-before.result c.is_changed.result c.get-before.ensures.value c.put.ensures.entries c.is_changed.ensures
