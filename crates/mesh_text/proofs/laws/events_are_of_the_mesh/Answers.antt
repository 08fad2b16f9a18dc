use Rattle.mesh_text.proofs.RunLaws as lemmas
use Rattle.mesh_text.proofs.laws.events_are_of_the_mesh.Goals as goal

pub returns : goal.returns
returns c = lemmas.events_are_of_mesh
