use Rattle.mesh_model.proofs.AccountSteps as lemmas
use Rattle.mesh_model.proofs.laws.account.Goals as goal

pub returns : goal.returns
returns c = lemmas.account
