use Rattle.mesh_world.proofs.ReadySets.{below_of, below_none}
use Rattle.mesh_world.proofs.ready.has_below.Goals as goal

pub returns-in-Some : goal.returns-in-Some
returns-in-Some c = below_of c.args.n c.args.set.now c.in-Some.least (c.in-Some.ensures.least.1, c.in-Some.ensures.least.2)

pub returns-in-None : goal.returns-in-None
returns-in-None c = below_none c.args.n c.args.set.now c.in-None.ensures.least
