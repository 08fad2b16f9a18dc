use Rattle.mesh_load.proofs.RunStates as lemmas
use Rattle.mesh_load.proofs.laws.one_run_state.Goals as goal

pub returns : goal.returns
returns c = lemmas.one_run_state
