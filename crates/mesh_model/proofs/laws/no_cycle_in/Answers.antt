use Rattle.mesh_model.proofs.Acyclic as lemmas
use Rattle.mesh_model.proofs.laws.no_cycle_in.Goals as goal

pub returns : goal.returns
returns c = lemmas.no_cycle
