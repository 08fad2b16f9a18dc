use Rattle.aodv_model.proofs.FullNumbers as lemmas
use Rattle.aodv_model.proofs.laws.full_number.Goals as goal

pub returns : goal.returns
returns c = lemmas.full_number
