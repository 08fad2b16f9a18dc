use Rattle.aodv_model.proofs.SoundTurns as lemmas
use Rattle.aodv_model.proofs.laws.turn_keeps_core.Goals as goal

pub returns : goal.returns
returns c = lemmas.turn_keeps_core
