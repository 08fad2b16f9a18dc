use Rattle.std.proofs.Common.{refl}
use Rattle.mesh_check.specs.Verdicts.{yes_line, no_line}
use Rattle.mesh_check.specs.declared.status.CheckStatus.TheVariants.{Yes, No}
use Rattle.mesh_check.proofs.top.tell.Goals as goal

pub returns-in-Err-clause-written : goal.returns-in-Err-clause-written
returns-in-Err-clause-written g c =
    record { status = Yes; text = yes_line c.args.tables.now.closed; right = (c.in-None.ensures.first, refl); written = c.in-Err.ensures.text }

pub returns-in-Err-put_no-clause-written : goal.returns-in-Err-put_no-clause-written
returns-in-Err-put_no-clause-written g c =
    record {
      status = No;
      text = no_line c.in-Some.edge;
      right = record { edge = c.in-Some.edge; first = c.in-Some.ensures.first; line_is = refl };
      written = c.in-Err-put_no.ensures.text;
    }
