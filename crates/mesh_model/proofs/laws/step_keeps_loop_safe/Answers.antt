use Rattle.mesh_model.proofs.Steps as lemmas
use Rattle.mesh_model.proofs.laws.step_keeps_loop_safe.Goals as goal

pub returns : goal.returns
returns c = lemmas.step_kept
