use Rattle.mesh_load.proofs.RunStates as lemmas
use Rattle.mesh_load.proofs.laws.one_start.Goals as goal

pub returns : goal.returns
returns c = lemmas.one_start c.one_body.ensures
