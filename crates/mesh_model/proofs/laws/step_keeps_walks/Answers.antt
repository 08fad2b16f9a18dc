use Rattle.mesh_model.proofs.TrailSteps as lemmas
use Rattle.mesh_model.proofs.laws.step_keeps_walks.Goals as goal

pub returns : goal.returns
returns c = lemmas.step_trails
