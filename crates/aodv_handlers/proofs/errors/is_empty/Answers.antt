use Rattle.aodv_handlers.proofs.Lists.{tests_empty}
use Rattle.aodv_handlers.proofs.errors.is_empty.Goals as goal

pub returns : goal.returns
returns c = tests_empty c.is_empty.result c.args.s.now c.is_empty.ensures
