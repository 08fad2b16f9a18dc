use Rattle.std.proofs.Common.{sym, arith}
use Rattle.mesh_base.proofs.OctetLaws.{long_none}
use Rattle.mesh_base.proofs.addr.octet.Goals as goal

pub returns-in_default-clause-value : goal.returns-in_default-clause-value
returns-in_default-clause-value c =
    sym (long_none c.args.text.now (λ e. omega (arith, c.in_default.len_below)) (λ e. omega (arith, c.in_default.len_below)) (λ e. omega (arith, c.in_default.len_below)))

pub returns-in_default-2-clause-value : goal.returns-in_default-2-clause-value
returns-in_default-2-clause-value c =
    sym (long_none c.args.text.now (λ e. omega (arith, c.in_default.len_at_least)) (λ e. omega (arith, c.in_default.len_at_least)) (λ e. omega (arith, c.in_default.len_at_least)))
