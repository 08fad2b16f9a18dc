use Rattle.mesh_world.proofs.Views.{radio_seen}
use Rattle.mesh_world.proofs.world.World.radio.Goals as goal

pub returns-clause-flying : goal.returns-clause-flying
returns-clause-flying c = let p = c.self.inside.parts in (radio_seen p.mesh p.nodes.items p.radio p.steps c.args.self.now c.self.view_is).0

pub returns-clause-links : goal.returns-clause-links
returns-clause-links c = let p = c.self.inside.parts in (radio_seen p.mesh p.nodes.items p.radio p.steps c.args.self.now c.self.view_is).1

pub returns-clause-next : goal.returns-clause-next
returns-clause-next c = let p = c.self.inside.parts in (radio_seen p.mesh p.nodes.items p.radio p.steps c.args.self.now c.self.view_is).2
