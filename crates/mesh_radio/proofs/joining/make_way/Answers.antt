use Rattle.mesh_radio.proofs.Sweeps.{gone-none}
use Rattle.mesh_radio.proofs.joining.make_way.Goals as goal

pub least_from-requires-clause-gone : goal.least_from-requires-clause-gone
least_from-requires-clause-gone c = gone-none c.free_from.new.casts.entries
