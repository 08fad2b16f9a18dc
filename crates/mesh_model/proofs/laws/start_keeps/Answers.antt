use Rattle.mesh_model.proofs.MeshSteps as lemmas
use Rattle.mesh_model.proofs.laws.start_keeps.Goals as goal

pub returns : goal.returns
returns c = lemmas.start_keeps
