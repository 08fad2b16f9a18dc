use Rattle.mesh_model.proofs.Honest as lemmas
use Rattle.mesh_trail.proofs.laws.start_holds.Goals as goal

pub returns : goal.returns
returns c = lemmas.start_holds
