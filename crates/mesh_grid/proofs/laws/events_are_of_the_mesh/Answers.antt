use Rattle.mesh_grid.proofs.PlaceRuns as lemmas
use Rattle.mesh_grid.proofs.laws.events_are_of_the_mesh.Goals as goal

pub returns : goal.returns
returns c = lemmas.events_are_of_mesh
