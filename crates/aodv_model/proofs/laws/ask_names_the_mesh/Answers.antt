use Rattle.aodv_model.proofs.MeshNames as lemmas
use Rattle.aodv_model.proofs.laws.ask_names_the_mesh.Goals as goal

pub returns : goal.returns
returns c = lemmas.ask_names_the_mesh
