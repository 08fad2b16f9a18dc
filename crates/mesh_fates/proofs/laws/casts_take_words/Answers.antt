use Rattle.mesh_fates.proofs.Lawful as lemmas
use Rattle.mesh_fates.proofs.laws.casts_take_words.Goals as goal

pub returns : goal.returns
returns c = lemmas.cast_words
