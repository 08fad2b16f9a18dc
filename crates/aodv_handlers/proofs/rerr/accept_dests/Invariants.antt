use Rattle.aodv_model.specs.Tables.{accepted_unreachable}
use Rattle.aodv_meaning.specs.Meaning.{dests_in}
use Rattle.aodv_handlers.proofs.Stated.{HasTaken}
use Rattle.aodv_handlers.proofs.rerr.accept_dests.Given as goal

abbrev pub invariant-loop-d : goal.invariant-loop-d
invariant-loop-d g l = HasTaken (accepted_unreachable (g.T.Table.entries l.table) l.from (dests_in l.mesh l.m)) l.d l.dests
