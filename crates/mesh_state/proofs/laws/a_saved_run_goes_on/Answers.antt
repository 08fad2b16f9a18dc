use Rattle.mesh_state.proofs.WholeLines as lemmas
use Rattle.mesh_state.proofs.laws.a_saved_run_goes_on.Goals as goal

pub returns : goal.returns
returns c = lemmas.saved_run_goes_on
