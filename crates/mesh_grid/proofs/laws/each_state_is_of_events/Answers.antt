use Rattle.mesh_grid.proofs.PlacedRunStates as lemmas
use Rattle.mesh_grid.proofs.laws.each_state_is_of_events.Goals as goal

pub returns : goal.returns
returns c = lemmas.state_is_of_events
