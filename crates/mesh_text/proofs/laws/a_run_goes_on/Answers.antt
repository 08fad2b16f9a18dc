use Rattle.mesh_text.proofs.Seams as lemmas
use Rattle.mesh_text.proofs.laws.a_run_goes_on.Goals as goal

pub returns : goal.returns
returns c = lemmas.run_goes_on
