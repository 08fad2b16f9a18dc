use Rattle.mesh_fates.proofs.Lawful as lemmas
use Rattle.mesh_fates.proofs.laws.prompt_is_due_next.Goals as goal

pub returns : goal.returns
returns c = lemmas.prompt
