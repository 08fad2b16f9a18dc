use Rattle.aodv_handlers.proofs.Stated.{HasStated}
use Rattle.aodv_handlers.proofs.rerr.state_numbers.Given as goal

abbrev pub invariant-loop-k : goal.invariant-loop-k
invariant-loop-k l = HasStated l.mesh l.m l.k l.numbers
