use Rattle.mesh_grid.proofs.PlacedRunStates as lemmas
use Rattle.mesh_grid.proofs.laws.states_are_loop_free.Goals as goal

pub returns : goal.returns
returns c = lemmas.state_is_loop_free
