use Rattle.mesh_model.proofs.Short as lemmas
use Rattle.mesh_model.proofs.laws.walk_is_short.Goals as goal

pub returns : goal.returns
returns c = lemmas.walk_is_short
