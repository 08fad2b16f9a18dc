use Rattle.mesh_trail.proofs.Steps as lemmas
use Rattle.mesh_trail.proofs.laws.step_holds.Goals as goal

pub returns : goal.returns
returns c = lemmas.step_holds
