use Rattle.mesh_checkpoint.proofs.Loop.{ArePassedRising}
use Rattle.mesh_checkpoint.proofs.part.pass_rising.Given as goal

abbrev pub invariant-loop : goal.invariant-loop
invariant-loop g l = ArePassedRising g.P.KeyedPart.key g.P.KeyedPart.amount (g.P.KeyedPart.format l.part) l.count l.counter l.low l.bytes l.sum l.rest
