use Rattle.mesh_cli.proofs.Runs.{runs_so, trial_so}
use Rattle.mesh_run.proofs.Faults.{source_apart}
use Rattle.mesh_cli.proofs.top.do_command.Goals as goal

pub returns-in-Run-clause-known : goal.returns-in-Run-clause-known
returns-in-Run-clause-known g c = rw c.in-Run.is (runs_so c.in-Run.variant c.in-Run.quiet _ _ _ _ c.run_schedule.result c.run_schedule.ensures.known)

pub returns-in-Trial-clause-known : goal.returns-in-Trial-clause-known
returns-in-Trial-clause-known g c = rw c.in-Trial.is (trial_so c.in-Trial.variant c.in-Trial.plan (g.I.Source.left c.args.input.now) (g.I.Source.left c.args.input.now) _ _ c.trial.result c.trial.ensures.written)

pub returns-in-Trial-clause-read : goal.returns-in-Trial-clause-read
returns-in-Trial-clause-read g c = source_apart _ c.trial.result c.trial.ensures.read
