use Rattle.std.proofs.Common.{ap, sym, ◌∙◌, length}
use Rattle.aodv_model.proofs.RisingLaws.{entries_shown}
use Rattle.aodv_model.proofs.dests.Dests.len.Goals as goal

pub returns-clause-value : goal.returns-clause-value
returns-clause-value c = c.len.ensures.value ∙ ap length (sym (entries_shown c.self.inside.pairs.items c.args.self.now c.self.invariant c.self.view_is))
