use Rattle.std.proofs.Common.{ap, sym, ◌∙◌}
use Rattle.std.specs.FinSet as sets
use Rattle.aodv_table.specs.Seen.{TableSeen}
use Rattle.aodv_table.proofs.IndexLaws.{contains-nodes_below}
use Rattle.aodv_table.proofs.rows.RowTableTable.has_room.Goals as goal

pub returns : goal.returns
returns c = sym (contains-nodes_below c.self.inside.nodes c.args.d) ∙ ap (λ (t : TableSeen). sets.contains t.rooms c.args.d) c.self.view_is
