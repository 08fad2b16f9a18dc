use Rattle.mesh_model.proofs.Doublings as lemmas
use Rattle.mesh_model.proofs.laws.doubling_is_counted.Goals as goal

pub returns : goal.returns
returns c = lemmas.doubling_counted
