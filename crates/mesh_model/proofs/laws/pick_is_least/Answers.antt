use Rattle.mesh_model.proofs.LeastPicks as lemmas
use Rattle.mesh_model.proofs.laws.pick_is_least.Goals as goal

pub returns : goal.returns
returns c = lemmas.pick_is_least
