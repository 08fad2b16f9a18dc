use Rattle.aodv_model.proofs.RisingLaws.{empty_tested}
use Rattle.aodv_model.proofs.dests.Dests.is_empty.Goals as goal

pub returns : goal.returns
returns c = empty_tested c.self.inside.pairs.items c.args.self.now c.is_empty.result c.self.invariant c.self.view_is c.is_empty.ensures
