use Rattle.mesh_run.proofs.Choices.{first_copy_is, first_id_some}
use Rattle.mesh_run.proofs.choice.first_copy_of.Goals as goal

pub returns-clause-value : goal.returns-clause-value
returns-clause-value c = first_copy_is c.args.world.now.world c.args.world.now.mesh c.radio-radio.result.now.flying c.first_id.result c.radio-radio.ensures.flying c.first_id.ensures

pub returns-clause-some : goal.returns-clause-some
returns-clause-some c = first_id_some c.radio-radio.result.now.flying _ c.first_id.result c.count-copies.ensures.numbered c.first_id.ensures
