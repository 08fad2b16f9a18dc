use Rattle.std.proofs.Common.{sym, subst}
use Rattle.mesh_script.specs.declared.node_line.NodeLine.{NodeLine}
use Rattle.mesh_script.specs.NodeSeen.{accepted_of}
use Rattle.mesh_router.proofs.Acting.{IsSkipped, skipped}
use Rattle.mesh_router.proofs.router.Router.step.Goals as goal

pub returns-in-Blank-clause-step : goal.returns-in-Blank-clause-step
returns-in-Blank-clause-step g c = skipped c.args.self.now _ (accepted_of c.args.line.now) _ (subst (λ (n : NodeLine). IsSkipped (accepted_of n)) (sym c.in-Blank.is) tt)

pub returns-in-Own-clause-step : goal.returns-in-Own-clause-step
returns-in-Own-clause-step g c = skipped c.args.self.now _ (accepted_of c.args.line.now) _ (subst (λ (n : NodeLine). IsSkipped (accepted_of n)) (sym c.in-Own.is) tt)

pub returns-in-Peer-clause-step : goal.returns-in-Peer-clause-step
returns-in-Peer-clause-step g c = skipped c.args.self.now _ (accepted_of c.args.line.now) _ (subst (λ (n : NodeLine). IsSkipped (accepted_of n)) (sym c.in-Peer.is) tt)

pub returns-in-Poll-clause-step : goal.returns-in-Poll-clause-step
returns-in-Poll-clause-step g c = skipped c.args.self.now _ (accepted_of c.args.line.now) _ (subst (λ (n : NodeLine). IsSkipped (accepted_of n)) (sym c.in-Poll.is) tt)
