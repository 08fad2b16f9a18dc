use Rattle.std.proofs.Common.{sym, subst, ◌∙◌}
use Rattle.std.specs.Io.KnownBytes.{IsAtEnd}
use Rattle.mesh_run.specs.declared.status.Status.{Status}
use Rattle.mesh_run.specs.declared.status.Status.TheVariants as status
use Rattle.mesh_run.specs.Causes.{HasSourceCause, HasStatusCause}
use Rattle.mesh_run.proofs.Loud.{source_cause, sink_cause}
use Rattle.mesh_run.proofs.Scripts.{where_done, no_words}
use Rattle.mesh_channel.proofs.WholeRuns.{runs_so, room_at_start}
use Rattle.mesh_channel.proofs.top.run.Goals as goal

pub returns-clause-known : goal.returns-clause-known
returns-clause-known g c =
    runs_so c.args.options.now c.with-channeled.result c.of_schedule.result _ _ _ _ c.run-answer.result c.of.result c.with-channeled.ensures.rates c.with-channeled.ensures.say c.with-channeled.ensures.opening c.of_schedule.ensures c.of.ensures c.run-answer.ensures.known

pub returns-clause-end : goal.returns-clause-end
returns-clause-end g c = λ done. where_done (IsAtEnd (g.I.Source.left c.run-answer.new.input)) c.run-answer.result (sym c.of.ensures ∙ done) c.run-answer.ensures.end

pub returns-clause-read : goal.returns-clause-read
returns-clause-read g c =
    subst (λ (s : Status). HasSourceCause (g.I.Source.faults c.args.input.now) (g.I.Source.faults c.run-answer.new.input) s) (sym c.of.ensures) (source_cause _ _ c.run-answer.result c.run-answer.ensures.read)

pub returns-clause-write : goal.returns-clause-write
returns-clause-write g c =
    subst (λ (s : Status). HasStatusCause status.WriteFault (g.O.Sink.faults c.args.out.now) (g.O.Sink.faults c.run-answer.new.out) s) (sym c.of.ensures) (sink_cause _ _ c.run-answer.result c.run-answer.ensures.write)

pub returns-clause-words : goal.returns-clause-words
returns-clause-words g c = λ e. no_words c.run-answer.result (sym c.of.ensures ∙ e)

pub run-answer-requires-clause-room : goal.run-answer-requires-clause-room
run-answer-requires-clause-room g c = room_at_start c.with-channeled.result c.of_schedule.result c.args.options.now.variant c.args.options.now.seed c.with-channeled.ensures.opening c.of_schedule.ensures
