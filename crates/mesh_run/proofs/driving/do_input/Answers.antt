use Rattle.std.proofs.Common.{◌≡◌, sym, subst, ◌∙◌, arith}
use Rattle.std.specs.Prelude.{IfSome}
use Rattle.std.specs.Io.KnownBytes.{IsAtEnd}
use Rattle.mesh_base.specs.declared.limits.TheConstants.{LONGEST_INPUT}
use Rattle.mesh_shell.specs.Fold as shell
use Rattle.mesh_io.specs.NextLines.{schedule_limits}
use Rattle.mesh_run.specs.declared.status.Status.{Status}
use Rattle.mesh_run.specs.declared.status.Status.TheVariants as status
use Rattle.mesh_run.specs.Causes.{HasSourceCause, HasStatusCause}
use Rattle.mesh_run.specs.Outputs.{IsOutputFrom}
use Rattle.mesh_run.specs.Running.{running, CanRun}
use Rattle.mesh_run.proofs.Loud.{source_cause, sink_cause}
use Rattle.mesh_run.proofs.Scripts.{input_told, after_as, where_done, no_words}
use Rattle.mesh_run.proofs.driving.do_input.Goals as goal

pub returns-clause-known : goal.returns-clause-known
returns-clause-known g c =
    let r = c.args.running.now in
    subst (λ (s : Status). IfSome (g.I.Source.left c.args.input.now) (λ bytes. IsOutputFrom r.say r.at bytes (g.I.Source.left c.run-answer.new.input) (g.O.Sink.held c.args.out.now) (g.O.Sink.held c.run-answer.new.out) s)) (sym c.of.ensures)
    (input_told r (g.I.Source.left c.args.input.now) (g.I.Source.left c.run-answer.new.input) (g.O.Sink.held c.args.out.now) (g.O.Sink.held c.run-answer.new.out) c.run-answer.result (rw c.of_schedule-most.ensures at c.run-answer.ensures.known))

pub returns-clause-after : goal.returns-clause-after
returns-clause-after g c = λ done.
    let r = c.args.running.now in
    let P = IfSome (g.I.Source.left c.args.input.now) (λ bytes. c.run-answer.new.script ≡ (shell.text_on running schedule_limits r bytes).after) in
    after_as r c.run-answer.new.script (g.I.Source.left c.args.input.now) (where_done P c.run-answer.result (sym c.of.ensures ∙ done) (rw c.of_schedule-most.ensures at c.run-answer.ensures.after))

pub returns-clause-grown : goal.returns-clause-grown
returns-clause-grown g c = λ done. (where_done (CanRun c.args.running.now c.of_schedule-most.result.input c.run-answer.new.script) c.run-answer.result (sym c.of.ensures ∙ done) c.run-answer.ensures.leads).grown

pub returns-clause-lines : goal.returns-clause-lines
returns-clause-lines g c = λ done.
    (where_done (CanRun c.args.running.now LONGEST_INPUT c.run-answer.new.script) c.run-answer.result (sym c.of.ensures ∙ done) (rw c.of_schedule-most.ensures at c.run-answer.ensures.leads)).led.lines

pub returns-clause-steps : goal.returns-clause-steps
returns-clause-steps g c = λ done.
    (where_done (CanRun c.args.running.now LONGEST_INPUT c.run-answer.new.script) c.run-answer.result (sym c.of.ensures ∙ done) (rw c.of_schedule-most.ensures at c.run-answer.ensures.leads)).led.steps

pub returns-clause-end : goal.returns-clause-end
returns-clause-end g c = λ done. where_done (IsAtEnd (g.I.Source.left c.run-answer.new.input)) c.run-answer.result (sym c.of.ensures ∙ done) c.run-answer.ensures.end

pub returns-clause-read : goal.returns-clause-read
returns-clause-read g c =
    subst (λ (s : Status). HasSourceCause (g.I.Source.faults c.args.input.now) (g.I.Source.faults c.run-answer.new.input) s) (sym c.of.ensures) (source_cause _ _ c.run-answer.result c.run-answer.ensures.read)

pub returns-clause-write : goal.returns-clause-write
returns-clause-write g c =
    subst (λ (s : Status). HasStatusCause status.WriteFault (g.O.Sink.faults c.args.out.now) (g.O.Sink.faults c.run-answer.new.out) s) (sym c.of.ensures) (sink_cause _ _ c.run-answer.result c.run-answer.ensures.write)

pub returns-clause-words : goal.returns-clause-words
returns-clause-words g c = λ e. no_words c.run-answer.result (sym c.of.ensures ∙ e)
