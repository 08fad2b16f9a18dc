use Rattle.mesh_blocks.proofs.ChangeLaws as lemmas
use Rattle.mesh_blocks.proofs.laws.changes_lead_on.Goals as goal

pub returns : goal.returns
returns c = lemmas.changes_lead_on
