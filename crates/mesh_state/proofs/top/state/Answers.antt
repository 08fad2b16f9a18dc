use Rattle.std.proofs.Common.{◌∙◌, sym}
use Rattle.mesh_state.proofs.Completes.{answer_completes, answer_refuses}
use Rattle.mesh_state.proofs.GoneOn.{answer_goes_on}
use Rattle.mesh_state.proofs.top.state.Goals as goal

pub returns-in-Some-clause-goes_on : goal.returns-in-Some-clause-goes_on
returns-in-Some-clause-goes_on g c =
    answer_goes_on c.one_start.ensures c.a_run_is_unrefused.ensures _ c.in-Some.asked (g.I.Source.left c.args.input.now) _ _ _ c.answer.result (sym c.in-Some.is ∙ c.asked_of.ensures) c.answer.ensures.known

pub returns-in-Some-clause-complete : goal.returns-in-Some-clause-complete
returns-in-Some-clause-complete g c =
    answer_completes _ c.in-Some.asked (g.I.Source.left c.args.input.now) _ _ _ c.answer.result _ _ _ _ (sym c.in-Some.is ∙ c.asked_of.ensures) c.answer.ensures.known c.answer.ensures.read.failed c.answer.ensures.write.failed

pub returns-in-Some-clause-refused : goal.returns-in-Some-clause-refused
returns-in-Some-clause-refused g c =
    answer_refuses _ c.in-Some.asked (g.I.Source.left c.args.input.now) _ _ _ c.answer.result _ _ (sym c.in-Some.is ∙ c.asked_of.ensures) c.answer.ensures.known c.answer.ensures.read.failed
