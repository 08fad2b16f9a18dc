use Rattle.mesh_grid.proofs.LinkLaws as lemmas
use Rattle.mesh_grid.proofs.laws.lines_are_loop_free.Goals as goal

pub returns : goal.returns
returns c = lemmas.lines_are_loop_free
