use Rattle.mesh_run.specs.Outputs.{says_lines}
use Rattle.mesh_run.specs.Running.{moved}
use Rattle.mesh_run.proofs.Settled.{past_failed, past_written}
use Rattle.mesh_run.proofs.Scripts.{past_refused}
use Rattle.mesh_run.proofs.running.RunningScript.past.Goals as goal

pub returns-in_err-refuse-clause-comes : goal.returns-in_err-refuse-clause-comes
returns-in_err-refuse-clause-comes g c =
    let r = c.args.self.now in
    past_failed (says_lines r.say) (moved r) r.at _ _ _ _ c.from_residual.result c.from_residual.ensures.0 (past_refused r.at c.args.limit) (rw c.why_past.ensures at c.in_err-refuse.ensures.text)

pub returns-clause-comes : goal.returns-clause-comes
returns-clause-comes g c =
    let r = c.args.self.now in
    past_written (says_lines r.say) (moved r) r.at _ c.in_ok-refuse.field-0 _ _ _ (past_refused r.at c.args.limit) c.in_ok-refuse.ensures.verdict (rw c.why_past.ensures at c.in_ok-refuse.ensures.text)
