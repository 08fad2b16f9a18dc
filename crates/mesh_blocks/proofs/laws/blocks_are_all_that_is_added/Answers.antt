use Rattle.mesh_blocks.proofs.WithBlocks as lemmas
use Rattle.mesh_blocks.proofs.laws.blocks_are_all_that_is_added.Goals as goal

pub returns : goal.returns
returns c = lemmas.blocks_are_all_that_is_added
