use Rattle.mesh_checkpoint.proofs.State as lemmas
use Rattle.mesh_checkpoint.proofs.laws.fitting_is_written.Goals as goal

pub returns : goal.returns
returns c = lemmas.fitting_is_written
