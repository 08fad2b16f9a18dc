use Rattle.mesh_run.proofs.Sound.{nothing_held}
use Rattle.mesh_run.proofs.state.State.totals.Goals as goal

pub returns-in-None-clause-waiting : goal.returns-in-None-clause-waiting
returns-in-None-clause-waiting g c = (nothing_held c.args.self.now c.in-None.ensures.some).waiting

pub returns-in-None-clause-queued : goal.returns-in-None-clause-queued
returns-in-None-clause-queued g c = (nothing_held c.args.self.now c.in-None.ensures.some).queued

pub returns-in-None-clause-flying : goal.returns-in-None-clause-flying
returns-in-None-clause-flying g c = (nothing_held c.args.self.now c.in-None.ensures.some).flying
