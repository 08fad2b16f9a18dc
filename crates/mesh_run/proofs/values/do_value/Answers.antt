use Rattle.std.proofs.Common.{◌≡◌, ◌+◌, ◌≤◌, false, Result, sym, subst, arith}
use Rattle.mesh_base.specs.declared.limits.TheConstants.{MOST_EVENTS}
use Rattle.mesh_run.specs.Sums.{IsGrown}
use Rattle.mesh_script.specs.Seen.{accepted_of}
use Rattle.mesh_shell.specs.Outputs.{IsLineRun}
use Rattle.mesh_shell.specs.Fold.{Outcome}
use Rattle.mesh_text.specs.Schedule.{RunState}
use Rattle.mesh_text.specs.Text.{outcome_of_line, outcome_in_run}
use Rattle.mesh_text.specs.declared.verdict.Verdict.{Verdict}
use Rattle.mesh_run.specs.Running.{said, outcome_as}
use Rattle.mesh_run.proofs.Growth.{IsSized, value_grows}
use Rattle.mesh_run.proofs.Settled.{can_be_told, line_told, line_cause, on_done, goes_on_where_done}
use Rattle.mesh_run.proofs.Loud.{same_as}
use Rattle.mesh_run.proofs.values.do_value.Goals as goal

pub settle-requires : goal.settle-requires
settle-requires g c =
    can_be_told false c.args.at.now c.do_line-did.new.at (outcome_of_line c.args.at.now (accepted_of c.args.line)) _ _ c.do_line-did.result (omega (arith, c.requires.few)) c.do_line-did.ensures.comes

pub returns-clause-comes : goal.returns-clause-comes
returns-clause-comes g c =
    let k = outcome_of_line c.args.at.now (accepted_of c.args.line) in
    let told : IsLineRun (outcome_as (λ n. n) (said false (outcome_in_run c.args.at.now k))) c.do_line-did.new.at (g.O.Sink.held c.args.out.now) (g.O.Sink.held c.settle.new.out) c.settle.result =
    line_told false (λ n. n) c.args.at.now c.do_line-did.new.at k _ _ _ c.do_line-did.result c.settle.result c.do_line-did.ensures.comes c.settle.ensures.written in
    subst (λ (o : Outcome RunState Verdict). IsLineRun o c.settle.new.at (g.O.Sink.held c.args.out.now) (g.O.Sink.held c.settle.new.out) c.settle.result) (same_as (said false (outcome_in_run c.args.at.now k)))
    (subst (λ (n : RunState). IsLineRun (outcome_as (λ n. n) (said false (outcome_in_run c.args.at.now k))) n (g.O.Sink.held c.args.out.now) (g.O.Sink.held c.settle.new.out) c.settle.result) (sym c.settle.ensures.same) told)

pub returns-clause-lines : goal.returns-clause-lines
returns-clause-lines g c =
    let k = outcome_of_line c.args.at.now (accepted_of c.args.line) in
    goes_on_where_done (c.settle.new.at.lines ≡ c.args.at.now.lines + 1) c.do_line-did.new.at _ _ c.do_line-did.result c.settle.result c.settle.ensures.written
    (on_done false c.args.at.now c.do_line-did.new.at k _ _ c.do_line-did.result c.do_line-did.ensures.comes
    (λ done. subst (λ (n : RunState). n.lines ≡ c.args.at.now.lines + 1) (sym c.settle.ensures.same) (value_grows false c.args.at.now c.do_line-did.new.at (accepted_of c.args.line) _ _ c.requires.allowed.0 done).lines))

pub returns-clause-grown : goal.returns-clause-grown
returns-clause-grown g c =
    let k = outcome_of_line c.args.at.now (accepted_of c.args.line) in
    goes_on_where_done (IsGrown c.args.at.now c.settle.new.at) c.do_line-did.new.at _ _ c.do_line-did.result c.settle.result c.settle.ensures.written
    (on_done false c.args.at.now c.do_line-did.new.at k _ _ c.do_line-did.result c.do_line-did.ensures.comes
    (λ done. subst (λ (n : RunState). IsGrown c.args.at.now n) (sym c.settle.ensures.same) ((value_grows false c.args.at.now c.do_line-did.new.at (accepted_of c.args.line) _ _ c.requires.allowed.0 done).grown (subst IsSized c.at.view_is c.started-started.ensures.sized))))

pub returns-clause-steps : goal.returns-clause-steps
returns-clause-steps g c =
    let k = outcome_of_line c.args.at.now (accepted_of c.args.line) in
    goes_on_where_done (c.settle.new.at.steps ≤ c.args.at.now.steps + MOST_EVENTS) c.do_line-did.new.at _ _ c.do_line-did.result c.settle.result c.settle.ensures.written
    (on_done false c.args.at.now c.do_line-did.new.at k _ _ c.do_line-did.result c.do_line-did.ensures.comes
    (λ done. subst (λ (n : RunState). n.steps ≤ c.args.at.now.steps + MOST_EVENTS) (sym c.settle.ensures.same)
    (let grows = value_grows false c.args.at.now c.do_line-did.new.at (accepted_of c.args.line) _ _ c.requires.allowed.0 done in omega (arith, grows.steps))))
