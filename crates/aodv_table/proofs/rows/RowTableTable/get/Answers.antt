use Rattle.std.proofs.Common.{◌≡◌, ap, ◌∙◌, arith}
use Rattle.aodv_table.specs.Seen.{TableSeen}
use Rattle.aodv_table.proofs.IndexLaws.{row_read, has_row}
use Rattle.aodv_table.proofs.rows.RowTableTable.get.Goals as goal

pub returns-clause-value : goal.returns-clause-value
returns-clause-value c =
    c.entry.ensures ∙ row_read c.self.inside.rows c.args.d c.args.self.now.entries (ap (λ (t : TableSeen). t.entries) c.self.view_is)

pub returns-clause-room : goal.returns-clause-room
returns-clause-room c =
    let same : c.self.inside.nodes ≡ c.args.self.now.nodes = ap (λ (t : TableSeen). t.nodes) c.self.view_is in
    λ _. has_row c.self.inside.nodes c.args.d c.args.self.now.rooms (ap (λ (t : TableSeen). t.rooms) c.self.view_is) (omega (arith, c.requires))
