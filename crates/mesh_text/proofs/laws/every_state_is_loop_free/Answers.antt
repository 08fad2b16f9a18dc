use Rattle.mesh_text.proofs.RunStateLaws as lemmas
use Rattle.mesh_text.proofs.laws.every_state_is_loop_free.Goals as goal

pub returns : goal.returns
returns c = lemmas.state_is_loop_free
