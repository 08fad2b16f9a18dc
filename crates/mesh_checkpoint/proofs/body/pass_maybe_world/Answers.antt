use Rattle.mesh_checkpoint.proofs.Behind.{there_world}
use Rattle.mesh_checkpoint.proofs.body.pass_maybe_world.Goals as goal

pub returns : goal.returns
returns c = there_world c.args.nodes c.args.bytes.now c.in_ok-there.there c.in_ok-there.rest.now _ c.in_ok-there.ensures.value c.if-there-eq0.false c.if-nodes-eq0.false c.in_ok-there.ensures.shorter c.pass_world.ensures
