use Rattle.aodv_model.proofs.SoundTurns as lemmas
use Rattle.aodv_model.proofs.laws.opening_is_sound.Goals as goal

pub returns : goal.returns
returns c = lemmas.opening_is_sound
