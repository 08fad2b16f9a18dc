use Rattle.mesh_model.proofs.MeshSteps as lemmas
use Rattle.mesh_model.proofs.laws.step_keeps.Goals as goal

pub returns : goal.returns
returns c = lemmas.step_keeps
