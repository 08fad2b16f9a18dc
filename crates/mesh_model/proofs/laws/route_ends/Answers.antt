use Rattle.mesh_model.proofs.RouteEnds as lemmas
use Rattle.mesh_model.proofs.laws.route_ends.Goals as goal

pub returns : goal.returns
returns c = lemmas.route_ends
