use Rattle.std.proofs.Common.{arith}
use Rattle.mesh_io.proofs.Counting.{none_past}
use Rattle.mesh_io.proofs.calls.is_planned.Goals as goal

pub returns-in-None : goal.returns-in-None
returns-in-None c = none_past c.args.planned.now _ c.type_inv.planned (let h = c.in-None.ensures in omega arith)
