use Rattle.mesh_model.proofs.Chosen as lemmas
use Rattle.mesh_model.proofs.laws.pick_is_enabled.Goals as goal

pub returns : goal.returns
returns c = lemmas.pick_is_enabled
