use Rattle.std.proofs.Common.{refl, sym}
use Rattle.mesh_save.proofs.Ids.{after_last}
use Rattle.mesh_save.proofs.requests.end_of.Goals as goal

pub returns-in-None-clause-end : goal.returns-in-None-clause-end
returns-in-None-clause-end c = sym (after_last c.args.asked.now.pairs c.args.origin (c.in-None.ensures.full.0 refl))
