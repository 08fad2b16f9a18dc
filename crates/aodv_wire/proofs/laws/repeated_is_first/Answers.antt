use Rattle.aodv_wire.proofs.Distinct.{repeated_is_first, others_are_distinct}
use Rattle.aodv_wire.proofs.laws.repeated_is_first.Goals as goal

pub returns-clause-some : goal.returns-clause-some
returns-clause-some c = repeated_is_first

pub returns-clause-none : goal.returns-clause-none
returns-clause-none c = others_are_distinct
