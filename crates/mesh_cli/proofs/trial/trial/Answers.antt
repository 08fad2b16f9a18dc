use Rattle.std.proofs.Common.{length, sym, ap, subst, arith, ◌∙◌}
use Rattle.mesh_text.specs.Schedule.{RunState}
use Rattle.mesh_text.specs.Text.{text_on}
use Rattle.mesh_make.specs.Making.{HasCome, still_to_come}
use Rattle.mesh_make.proofs.Allowed.{made_short}
use Rattle.mesh_run.specs.Causes.{HasStatusCause}
use Rattle.mesh_run.specs.declared.status.Status.{Status}
use Rattle.mesh_run.specs.declared.status.Status.TheVariants as status
use Rattle.mesh_run.proofs.Loud.{sink_cause, read_failed}
use Rattle.mesh_run.proofs.Scripts.{no_words}
use Rattle.mesh_cli.specs.Commands.{made_by}
use Rattle.mesh_cli.proofs.Trials.{told_as, told_whole}
use Rattle.mesh_cli.proofs.trial.trial.Goals as goal

pub do_made-answer-requires-clause-come : goal.do_made-answer-requires-clause-come
do_made-answer-requires-clause-come g c = subst (λ (m : RunState). HasCome c.new-maker.result m) (sym c.with-at.ensures) (c.new-maker.ensures.opening c.args.variant)

pub do_made-answer-requires-clause-short : goal.do_made-answer-requires-clause-short
do_made-answer-requires-clause-short g c =
    let all = ap length c.new-maker.ensures.text in
    let few = made_short c.args.plan.seed c.args.plan.nodes c.args.plan.steps c.requires.0 c.requires.1 c.requires.2 c.requires.3 in
    omega (arith, all, few)

pub returns-clause-written : goal.returns-clause-written
returns-clause-written g c =
    let held = g.O.Sink.held in
    told_whole c.with-at.result c.args.variant (still_to_come c.new-maker.result) (made_by c.args.plan) (held c.args.out.now) (held c.do_made-answer.new.out) c.of.result c.with-at.ensures c.new-maker.ensures.text
    (told_as (text_on c.with-at.result (still_to_come c.new-maker.result)) (held c.args.out.now) (held c.do_made-answer.new.out) c.do_made-answer.result c.of.result c.of.ensures c.do_made-answer.ensures.written)

pub returns-clause-write : goal.returns-clause-write
returns-clause-write g c =
    subst (λ (s : Status). HasStatusCause status.WriteFault (g.O.Sink.faults c.args.out.now) (g.O.Sink.faults c.do_made-answer.new.out) s) (sym c.of.ensures) (sink_cause _ _ c.do_made-answer.result c.do_made-answer.ensures.write)

pub returns-clause-read : goal.returns-clause-read
returns-clause-read g c = λ e. c.do_made-answer.ensures.read (read_failed c.do_made-answer.result (sym c.of.ensures ∙ e))

pub returns-clause-words : goal.returns-clause-words
returns-clause-words g c = λ e. no_words c.do_made-answer.result (sym c.of.ensures ∙ e)
