use Rattle.mesh_text.proofs.RunStates as lemmas
use Rattle.mesh_text.proofs.laws.the_sums_are_in_order.Goals as goal

pub returns : goal.returns
returns c = lemmas.sums_are_in_order
