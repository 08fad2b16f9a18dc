use Rattle.std.proofs.Common.{refl}
use Rattle.mesh_check.specs.Verdicts.{bad_line}
use Rattle.mesh_check.specs.declared.status.CheckStatus.TheVariants.{BadLine}
use Rattle.mesh_check.proofs.top.refuse.Goals as goal

pub returns-in-Err-clause-written : goal.returns-in-Err-clause-written
returns-in-Err-clause-written g c = record { status = BadLine c.args.line; text = bad_line c.args.line; right = (refl, refl); written = c.in-Err.ensures.text }
