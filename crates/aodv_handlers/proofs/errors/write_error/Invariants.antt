use Rattle.aodv_handlers.proofs.RouteErrors.{HasTold}
use Rattle.aodv_handlers.proofs.errors.write_error.Given as goal

abbrev pub invariant-loop-k : goal.invariant-loop-k
invariant-loop-k g l = HasTold l.mesh l.variant (g.T.Table.entries l.table) l.dests l.k l.pairs.items
