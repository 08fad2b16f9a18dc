use Rattle.aodv_handlers.proofs.Refused.{AreRefused}
use Rattle.aodv_handlers.proofs.rerr.may_accept.Given as goal

abbrev pub invariant-loop-k : goal.invariant-loop-k
invariant-loop-k g l = AreRefused l.mesh (g.T.Table.entries l.table) l.from l.m l.k
