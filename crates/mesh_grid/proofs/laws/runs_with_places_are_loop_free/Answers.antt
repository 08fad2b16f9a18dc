use Rattle.mesh_grid.proofs.PlaceRuns as lemmas
use Rattle.mesh_grid.proofs.laws.runs_with_places_are_loop_free.Goals as goal

pub returns : goal.returns
returns c = lemmas.runs_with_places_are_loop_free
