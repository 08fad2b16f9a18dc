use Rattle.mesh_grid.proofs.PlaceRuns as lemmas
use Rattle.mesh_grid.proofs.laws.worlds_are_of_events.Goals as goal

pub returns : goal.returns
returns c = lemmas.worlds_are_of_events
