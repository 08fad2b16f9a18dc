use Rattle.mesh_blocks.proofs.SameRun as lemmas
use Rattle.mesh_blocks.proofs.laws.data_are_accounted_for.Goals as goal

pub returns : goal.returns
returns c = lemmas.data_are_accounted_for
