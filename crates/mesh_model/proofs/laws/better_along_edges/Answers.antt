use Rattle.mesh_model.proofs.Acyclic as lemmas
use Rattle.mesh_model.proofs.laws.better_along_edges.Goals as goal

pub returns : goal.returns
returns c = lemmas.better_along
