use Rattle.std.proofs.Common.{◌∙◌, sym}
use Rattle.mesh_base.proofs.OctetLaws.{one_is, first_no_digit}
use Rattle.mesh_base.proofs.addr.of_one.Goals as goal

pub returns-in_err-n-clause-value : goal.returns-in_err-n-clause-value
returns-in_err-n-clause-value c = c.from_residual.ensures ∙ sym (first_no_digit c.args.a _ c.in_err-n.ensures.none)

pub returns-clause-value : goal.returns-clause-value
returns-clause-value c = sym (one_is c.args.a c.in_ok-n.n c.in_ok-n.ensures.some.0 c.in_ok-n.ensures.some.1 c.in_ok-n.ensures.within)
