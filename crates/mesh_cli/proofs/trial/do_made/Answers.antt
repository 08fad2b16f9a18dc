use Rattle.std.proofs.Common.{sym, ap, ◌∙◌, arith, rules}
use Rattle.mesh_script.specs.Seen.{accepted_of}
use Rattle.mesh_text.specs.Text.{goes_on, finished_run, outcome_of_line, text_on}
use Rattle.mesh_make.specs.Making.{still_to_come}
use Rattle.mesh_run.specs.Codes.{status_of}
use Rattle.mesh_run.specs.Outputs.{part}
use Rattle.mesh_run.specs.declared.say.Say.TheVariants.{Last}
use Rattle.std.proofs.Common.{Ok, Err}
use Rattle.mesh_cli.proofs.Trials.{told_here, told_on, value_last, value_broken, finish_done, finish_broken, ended}
use Rattle.mesh_cli.proofs.trial.do_made.Goals as goal

pub do_value-requires-clause-allowed : goal.do_value-requires-clause-allowed
do_value-requires-clause-allowed g c = c.next_line-line.ensures.allowed c.lines.at c.lines.invariant.come

pub returns-in-Ok-Some-clause-written : goal.returns-in-Ok-Some-clause-written
returns-in-Ok-Some-clause-written g c =
    let goes = c.next_line-line.ensures.goes c.lines.at c.lines.invariant.come (omega (arith, c.lines.invariant.short, c.requires.short)) in
    let k = outcome_of_line c.lines.at (accepted_of c.next_line-line.result) in
    told_on (text_on c.lines.at (still_to_come c.lines.maker)) _ (text_on c.args.at.now (still_to_come c.args.maker.now))
    (g.O.Sink.held c.args.out.now) (g.O.Sink.held c.lines.out) (g.O.Sink.held c.do_value.new.out) (status_of (Ok c.in-Ok-Some.verdict))
    goes c.lines.invariant.same c.lines.invariant.none
    (value_last c.lines.at k (λ n. text_on n (still_to_come c.next_line-line.new.self)) c.in-Ok-Some.verdict _ _ (rw c.in-Ok-Some.field-0-is at c.in-Ok-Some.ensures.comes))

pub returns-in-Err-clause-written : goal.returns-in-Err-clause-written
returns-in-Err-clause-written g c =
    let goes = c.next_line-line.ensures.goes c.lines.at c.lines.invariant.come (omega (arith, c.lines.invariant.short, c.requires.short)) in
    let k = outcome_of_line c.lines.at (accepted_of c.next_line-line.result) in
    told_on (text_on c.lines.at (still_to_come c.lines.maker)) _ (text_on c.args.at.now (still_to_come c.args.maker.now))
    (g.O.Sink.held c.args.out.now) (g.O.Sink.held c.lines.out) (g.O.Sink.held c.do_value.new.out) (status_of (Err c.in-Err.fault))
    goes c.lines.invariant.same c.lines.invariant.none
    (value_broken c.lines.at k (λ n. text_on n (still_to_come c.next_line-line.new.self)) c.in-Err.fault _ _ c.in-Err.ensures.comes)

pub returns-in_err-finish-clause-written : goal.returns-in_err-finish-clause-written
returns-in_err-finish-clause-written g c =
    let none = ended c.lines.at (still_to_come c.lines.maker) (search rules) in
    told_here (finished_run c.lines.at) (text_on c.args.at.now (still_to_come c.args.maker.now))
    (g.O.Sink.held c.args.out.now) (g.O.Sink.held c.lines.out) (g.O.Sink.held c.finish.new.out) (status_of c.from_residual.result)
    (sym (ap (part Last) none) ∙ c.lines.invariant.same) c.lines.invariant.none
    (finish_broken c.lines.at c.from_residual.result _ _ c.from_residual.ensures.0 c.in_err-finish.ensures.text)

pub returns-clause-written : goal.returns-clause-written
returns-clause-written g c =
    let none = ended c.lines.at (still_to_come c.lines.maker) (search rules) in
    told_here (finished_run c.lines.at) (text_on c.args.at.now (still_to_come c.args.maker.now))
    (g.O.Sink.held c.args.out.now) (g.O.Sink.held c.lines.out) (g.O.Sink.held c.finish.new.out) (status_of (Ok c.in_ok-finish.field-0))
    (sym (ap (part Last) none) ∙ c.lines.invariant.same) c.lines.invariant.none
    (finish_done c.lines.at c.in_ok-finish.field-0 _ _ c.in_ok-finish.ensures.verdict c.in_ok-finish.ensures.text)
