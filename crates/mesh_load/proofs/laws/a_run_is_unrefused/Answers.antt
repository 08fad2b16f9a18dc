use Rattle.mesh_load.proofs.Unrefused as lemmas
use Rattle.mesh_load.proofs.laws.a_run_is_unrefused.Goals as goal

pub returns : goal.returns
returns c = lemmas.run_is_unrefused c.one_body.ensures c.balanced_is_taken.ensures
