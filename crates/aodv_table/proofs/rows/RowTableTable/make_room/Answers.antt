use Rattle.std.proofs.Common.{◌≡◌, ap, arith}
use Rattle.aodv_table.specs.Seen.{TableSeen}
use Rattle.aodv_table.proofs.IndexLaws.{has_row}
use Rattle.aodv_table.proofs.rows.RowTableTable.make_room.Goals as goal

pub returns-clause-here : goal.returns-clause-here
returns-clause-here c =
    let same : c.self.inside.nodes ≡ c.args.self.now.nodes = ap (λ (t : TableSeen). t.nodes) c.self.view_is in
    has_row c.self.inside.nodes c.args.d c.args.self.now.rooms (ap (λ (t : TableSeen). t.rooms) c.self.view_is) (omega (arith, c.requires))
