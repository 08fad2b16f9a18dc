use Rattle.mesh_fates.proofs.Lawful as lemmas
use Rattle.mesh_fates.proofs.laws.lossless_leaves_nothing.Goals as goal

pub returns : goal.returns
returns c = lemmas.lossless
