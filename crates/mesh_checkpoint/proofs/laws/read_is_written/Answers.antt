use Rattle.mesh_checkpoint.proofs.Checkpoint as lemmas
use Rattle.mesh_checkpoint.proofs.laws.read_is_written.Goals as goal

pub returns : goal.returns
returns c = lemmas.read_is_written
