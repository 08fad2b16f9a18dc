use Rattle.std.proofs.Common.{arith}
use Rattle.aodv_asked.proofs.TopLaws.{greatest_none, greatest_last}
use Rattle.aodv_asked.proofs.interval.Interval.greatest.Goals as goal

pub returns-then-self : goal.returns-then-self
returns-then-self c = greatest_none c.args.self (omega arith)

pub returns : goal.returns
returns c = greatest_last c.args.self (omega arith)
