use Rattle.mesh_checkpoint.proofs.Loop.{ArePassed}
use Rattle.mesh_checkpoint.proofs.part.pass_all.Given as goal

abbrev pub invariant-loop : goal.invariant-loop
invariant-loop g l = ArePassed g.P.Part.amount (g.P.Part.format l.part) l.count l.counter l.bytes l.sum l.rest
