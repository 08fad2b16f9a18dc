use Rattle.mesh_blocks.proofs.Receivers.{receives, receives_within}
use Rattle.mesh_blocks.proofs.block.receiver.Goals as goal

pub returns-clause-value : goal.returns-clause-value
returns-clause-value c = λ x changed. receives c.args.world.now.mesh c.args.world.now.world c.radio.result.now.flying c.args.id x c.receiver.result c.radio.ensures.flying c.receiver.ensures changed

pub returns-clause-within : goal.returns-clause-within
returns-clause-within c = receives_within c.args.world.now c.radio.result.now.flying c.args.id c.receiver.result c.mesh-mesh.ensures.sound c.radio.ensures.flying c.receiver.ensures
