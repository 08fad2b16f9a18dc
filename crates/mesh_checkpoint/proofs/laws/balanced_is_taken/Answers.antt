use Rattle.mesh_checkpoint.proofs.State as lemmas
use Rattle.mesh_checkpoint.proofs.laws.balanced_is_taken.Goals as goal

pub returns : goal.returns
returns c = lemmas.balanced_is_taken
