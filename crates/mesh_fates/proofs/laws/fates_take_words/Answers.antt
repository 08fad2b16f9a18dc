use Rattle.mesh_fates.proofs.Lawful as lemmas
use Rattle.mesh_fates.proofs.laws.fates_take_words.Goals as goal

pub returns : goal.returns
returns c = lemmas.fate_words
