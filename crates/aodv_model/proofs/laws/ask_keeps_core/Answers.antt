use Rattle.aodv_model.proofs.SoundTurns as lemmas
use Rattle.aodv_model.proofs.laws.ask_keeps_core.Goals as goal

pub returns : goal.returns
returns c = lemmas.ask_keeps_core
