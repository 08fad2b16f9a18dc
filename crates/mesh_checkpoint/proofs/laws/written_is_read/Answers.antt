use Rattle.mesh_checkpoint.proofs.Checkpoint as lemmas
use Rattle.mesh_checkpoint.proofs.laws.written_is_read.Goals as goal

pub returns : goal.returns
returns c = lemmas.written_is_read
