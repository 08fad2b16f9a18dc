use Rattle.mesh_text.proofs.RunStateLaws as lemmas
use Rattle.mesh_text.proofs.laws.the_last_line_is_of_the_last_state.Goals as goal

pub returns : goal.returns
returns c = lemmas.last_line_is_of_last_state
