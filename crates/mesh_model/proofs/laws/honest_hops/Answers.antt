use Rattle.mesh_model.proofs.Honest as lemmas
use Rattle.mesh_model.proofs.laws.honest_hops.Goals as goal

pub returns : goal.returns
returns c = lemmas.honest_hops
