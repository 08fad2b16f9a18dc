use Rattle.mesh_model.proofs.Honest as lemmas
use Rattle.mesh_model.proofs.laws.start_has_walks.Goals as goal

pub returns : goal.returns
returns c = lemmas.start_trails
