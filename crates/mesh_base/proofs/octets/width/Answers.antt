use Rattle.std.proofs.Common.{◌≤◌, sym, subst, arith}
use Rattle.std.proofs.lemmas.Fmt.{decimal_nonempty}
use Rattle.mesh_base.proofs.NumberLaws.{short}
use Rattle.mesh_base.proofs.TableLaws.{width_is}
use Rattle.mesh_base.proofs.octets.width.Goals as goal

pub returns-clause-value : goal.returns-clause-value
returns-clause-value c = width_is c.args.n c.requires

pub returns-clause-some : goal.returns-clause-some
returns-clause-some c = subst (λ w. 2 ≤ w) (sym (width_is c.args.n c.requires)) (omega (arith, decimal_nonempty c.args.n (omega (arith, c.requires))))

pub returns-clause-short : goal.returns-clause-short
returns-clause-short c = subst (λ w. w ≤ 4) (sym (width_is c.args.n c.requires)) (omega (arith, short c.args.n c.requires))
