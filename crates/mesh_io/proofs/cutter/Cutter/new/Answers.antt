use Rattle.std.proofs.Common.{[], false, refl, sym, ap, arith, ◌∙◌}
use Rattle.mesh_io.specs.Decisions.{decision_of}
use Rattle.mesh_io.proofs.Deciding.{decision_open, undecided}
use Rattle.mesh_io.proofs.cutter.Cutter.new.Goals as goal

pub invariant_of-result-clause-decided : goal.invariant_of-result-clause-decided
invariant_of-result-clause-decided g c =
    let most = c.args.most in
    sym (ap (decision_of most 0 false) c.new.ensures ∙ decision_open most 0 false [] (undecided most 0 false [] refl refl (omega arith) (omega arith)))
