use Rattle.mesh_fates.proofs.Lawful as lemmas
use Rattle.mesh_fates.proofs.laws.deciding_keeps_order.Goals as goal

pub returns : goal.returns
returns c = lemmas.deciding_ordered
