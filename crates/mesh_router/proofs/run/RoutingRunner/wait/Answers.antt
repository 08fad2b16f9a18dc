use Rattle.mesh_router.specs.RoutingLaws.{stays_there}
use Rattle.mesh_router.proofs.run.RoutingRunner.wait.Goals as goal

pub returns-clause-goes : goal.returns-clause-goes
returns-clause-goes g c = stays_there g.O.Sink g.L.Link c.args.self.now
