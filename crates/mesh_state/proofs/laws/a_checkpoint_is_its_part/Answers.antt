use Rattle.mesh_state.proofs.Checkpoints as lemmas
use Rattle.mesh_state.proofs.laws.a_checkpoint_is_its_part.Goals as goal

pub returns : goal.returns
returns c = lemmas.checkpoint_is_its_part
