use Rattle.std.proofs.Common.{ap, sym, subst, List, ℕ, Option}
use Rattle.std.specs.Io.KnownBytes.{append_known}
use Rattle.mesh_io.specs.Puts.{AppendsPrefix}
use Rattle.mesh_io.proofs.Writing.{AppendsPrefix-handed}
use Rattle.mesh_io.proofs.buffered.Buffered+Through+O+L.give_back.Goals as goal

pub returns-clause-prefix : goal.returns-clause-prefix
returns-clause-prefix g c = λ text p.
    let gathered = c.args.self.gathered in
    let same = ap (λ t. g.O.Sink.held t.to.now) c.into_inner-to.ensures in
    let P : Option (List ℕ) → Type 0 = λ known. AppendsPrefix g.L.Loan.start (append_known known gathered) text in
    AppendsPrefix-handed g.L.Loan.start (g.O.Sink.held c.into_inner-to.result.to.now) gathered text c.into_inner-to.result.grown (subst P (sym same) p)
