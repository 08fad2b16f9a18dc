use Rattle.aodv_model.proofs.Stale as lemmas
use Rattle.aodv_model.proofs.laws.stale_is_unchanged.Goals as goal

pub returns : goal.returns
returns c = λ rt d n hops from. lemmas.stale_is_unchanged n hops from rt d
