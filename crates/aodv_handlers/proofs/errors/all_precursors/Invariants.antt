use Rattle.aodv_handlers.proofs.RouteErrors.{HasJoined}
use Rattle.aodv_handlers.proofs.errors.all_precursors.Given as goal

abbrev pub invariant-loop-k : goal.invariant-loop-k
invariant-loop-k g l = HasJoined (g.T.Table.entries l.table) l.dests l.k l.all
