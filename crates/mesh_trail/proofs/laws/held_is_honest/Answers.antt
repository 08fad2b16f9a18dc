use Rattle.mesh_model.proofs.Honest as lemmas
use Rattle.mesh_trail.proofs.laws.held_is_honest.Goals as goal

pub returns : goal.returns
returns c = lemmas.held_is_honest
