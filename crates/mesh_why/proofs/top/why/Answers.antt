use Rattle.std.proofs.Common.{◌∙◌, sym, ap, option_map}
use Rattle.mesh_why.proofs.Completes.{answer_completes}
use Rattle.mesh_why.proofs.top.why.Goals as goal

pub returns-in-Some-clause-complete : goal.returns-in-Some-clause-complete
returns-in-Some-clause-complete g c =
    answer_completes _ (c.in-Some.asked.node.0, c.in-Some.asked.dest.0) (g.I.Source.left c.args.input.now) _ _ _ c.answer.result _ _ _ _
    (ap (option_map (λ asked. (asked.node.0, asked.dest.0))) (sym c.in-Some.is) ∙ c.asked_of.ensures) c.answer.ensures.known c.answer.ensures.read.failed c.answer.ensures.write.failed
