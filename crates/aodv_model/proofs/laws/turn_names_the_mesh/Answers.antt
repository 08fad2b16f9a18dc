use Rattle.aodv_model.proofs.MeshNames as lemmas
use Rattle.aodv_model.proofs.laws.turn_names_the_mesh.Goals as goal

pub returns : goal.returns
returns c = lemmas.turn_names_the_mesh
