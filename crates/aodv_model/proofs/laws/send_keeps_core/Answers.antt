use Rattle.aodv_model.proofs.SoundTurns as lemmas
use Rattle.aodv_model.proofs.laws.send_keeps_core.Goals as goal

pub returns : goal.returns
returns c = lemmas.send_keeps_core
