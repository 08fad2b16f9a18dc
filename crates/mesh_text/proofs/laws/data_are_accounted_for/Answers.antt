use Rattle.mesh_text.proofs.RunStates as lemmas
use Rattle.mesh_text.proofs.laws.data_are_accounted_for.Goals as goal

pub returns : goal.returns
returns c = lemmas.data_are_accounted_for
