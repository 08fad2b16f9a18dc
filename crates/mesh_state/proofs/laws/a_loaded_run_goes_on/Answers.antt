use Rattle.mesh_state.proofs.GoneOn as lemmas
use Rattle.mesh_state.proofs.laws.a_loaded_run_goes_on.Goals as goal

pub returns : goal.returns
returns c = lemmas.loaded_run_goes_on c.one_start.ensures
