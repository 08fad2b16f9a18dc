use Rattle.mesh_make.proofs.Allowed as lemmas
use Rattle.mesh_make.proofs.laws.made_schedules_are_allowed.Goals as goal

pub returns : goal.returns
returns c = lemmas.made_allowed
