use Rattle.mesh_grid.proofs.PlaceRuns as lemmas
use Rattle.mesh_grid.proofs.laws.data_are_accounted_for.Goals as goal

pub returns : goal.returns
returns c = lemmas.data_are_accounted_for
