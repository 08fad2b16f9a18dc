use Rattle.mesh_model.proofs.AccountSteps as lemmas
use Rattle.mesh_model.proofs.laws.step_balances.Goals as goal

pub returns : goal.returns
returns c = lemmas.step_balanced
