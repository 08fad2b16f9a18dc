use Rattle.mesh_fates.proofs.Lawful as lemmas
use Rattle.mesh_fates.proofs.laws.doubling_keeps_order.Goals as goal

pub returns : goal.returns
returns c = lemmas.doubling_ordered
