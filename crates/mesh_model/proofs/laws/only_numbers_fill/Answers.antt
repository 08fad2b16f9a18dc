use Rattle.mesh_model.proofs.OnlyNumbers as lemmas
use Rattle.mesh_model.proofs.laws.only_numbers_fill.Goals as goal

pub returns : goal.returns
returns c = lemmas.only_numbers_fill
