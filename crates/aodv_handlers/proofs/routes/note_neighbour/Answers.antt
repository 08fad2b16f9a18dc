use Rattle.aodv_handlers.proofs.Neighbours.{heard_again}
use Rattle.aodv_handlers.proofs.routes.note_neighbour.Goals as goal

pub returns-else-not-is_neighbour-clause-entries : goal.returns-else-not-is_neighbour-clause-entries
returns-else-not-is_neighbour-clause-entries g c =
    heard_again (g.T.Table.entries c.args.table.now) c.args.from c.is_neighbour.result c.is_neighbour.ensures c.if-not-is_neighbour.false
