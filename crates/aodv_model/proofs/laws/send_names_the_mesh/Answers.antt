use Rattle.aodv_model.proofs.MeshNames as lemmas
use Rattle.aodv_model.proofs.laws.send_names_the_mesh.Goals as goal

pub returns : goal.returns
returns c = lemmas.send_names_the_mesh
