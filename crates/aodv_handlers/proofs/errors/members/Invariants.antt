use Rattle.aodv_handlers.proofs.RouteErrors.{HasFound}
use Rattle.aodv_handlers.proofs.errors.members.Given as goal

abbrev pub invariant-loop-k : goal.invariant-loop-k
invariant-loop-k l = HasFound l.dests l.k l.found
