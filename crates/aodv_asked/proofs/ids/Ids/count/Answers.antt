use Rattle.std.proofs.Common.{ap, ◌∙◌}
use Rattle.aodv_asked.proofs.Counts.{total_is}
use Rattle.aodv_asked.proofs.ids.Ids.count.Goals as goal

pub returns : goal.returns
returns c = λ n below. c.count.ensures ∙ total_is n 0 c.self.inside.intervals.items c.args.self.now.ids c.self.invariant (ap (λ s. s.ids) c.self.view_is) below
