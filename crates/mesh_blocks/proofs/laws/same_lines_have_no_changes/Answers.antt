use Rattle.mesh_blocks.proofs.ChangeLaws as lemmas
use Rattle.mesh_blocks.proofs.laws.same_lines_have_no_changes.Goals as goal

pub returns : goal.returns
returns c = lemmas.same_lines_have_no_changes
