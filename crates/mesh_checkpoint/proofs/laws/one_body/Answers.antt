use Rattle.mesh_checkpoint.proofs.State as lemmas
use Rattle.mesh_checkpoint.proofs.laws.one_body.Goals as goal

pub returns : goal.returns
returns c = lemmas.one_body
