use Rattle.aodv_handlers.proofs.Delivered.{error_below}
use Rattle.aodv_handlers.proofs.rerr.retract_accepted.Goals as goal

pub retract-requires-clause-below : goal.retract-requires-clause-below
retract-requires-clause-below g c =
    error_below c.args.mesh.now (g.T.Table.entries c.args.core.now.table) c.args.from c.args.m.now c.accept_dests.new.dests c.requires.known c.accept_dests.ensures
