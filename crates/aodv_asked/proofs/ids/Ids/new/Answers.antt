use Rattle.std.proofs.Common.{ap, ◌∙◌}
use Rattle.aodv_asked.specs.Intervals.{ids_in}
use Rattle.aodv_asked.proofs.IntervalLaws.{no_ids_in}
use Rattle.aodv_asked.proofs.ids.Ids.new.Goals as goal

pub returns-clause-ids : goal.returns-clause-ids
returns-clause-ids c = ap ids_in c.new.ensures.items ∙ no_ids_in
