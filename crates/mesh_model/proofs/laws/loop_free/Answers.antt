use Rattle.mesh_model.proofs.Acyclic as lemmas
use Rattle.mesh_model.proofs.laws.loop_free.Goals as goal

pub returns : goal.returns
returns c = lemmas.loop_free
