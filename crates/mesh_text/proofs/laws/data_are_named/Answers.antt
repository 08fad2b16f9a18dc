use Rattle.mesh_text.proofs.NamedData as lemmas
use Rattle.mesh_text.proofs.laws.data_are_named.Goals as goal

pub returns : goal.returns
returns c = lemmas.data_are_named
