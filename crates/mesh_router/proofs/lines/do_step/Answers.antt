use Rattle.std.proofs.Common.{◌≡◌, Err, ap, ◌∙◌, sym, subst}
use Rattle.std.proofs.lemmas.Result.{err_from_is_err_and}
use Rattle.mesh_script.specs.Peers.{PeersSeen}
use Rattle.mesh_script.specs.NodeSeen.{accepted_of, IsPrintable}
use Rattle.mesh_router.specs.declared.stop.Stop.{Stop}
use Rattle.mesh_router.specs.Routers.{Router, RunState, peers_in, router_in, is_running}
use Rattle.mesh_router.specs.Lines.{words_at, step_of}
use Rattle.mesh_router.specs.Seen.{HasCounts, most_grown}
use Rattle.mesh_router.specs.Runs.{IsStepRun}
use Rattle.mesh_router.proofs.Running.{line_untold, step_line, step_stopped, counted_step, begun_router, begun_peers, grown_step, on_err}
use Rattle.mesh_router.proofs.lines.do_step.Goals as goal

pub step-requires-clause-running : goal.step-requires-clause-running
step-requires-clause-running g c =
    ap (λ (k : RunState). is_running k.stage) c.in_ok-begin.ensures.ok

pub step-requires-clause-printable : goal.step-requires-clause-printable
step-requires-clause-printable g c =
    subst (λ (p : PeersSeen). IsPrintable p c.args.line.now) (sym (begun_peers c.args.at.now c.begin.new.self c.in_ok-begin.ensures.ok)) c.requires.printable

pub step-requires-clause-few : goal.step-requires-clause-few
step-requires-clause-few g c =
    subst (λ (r : Router). HasCounts (2305843009213693952) r) (sym (begun_router c.args.at.now c.begin.new.self c.in_ok-begin.ensures.ok)) c.requires.few

pub returns-in_err-begin-clause-line : goal.returns-in_err-begin-clause-line
returns-in_err-begin-clause-line g c =
    let q = err_from_is_err_and c.from_residual.result c.from_residual.ensures.1 in
    line_untold _ _ _ _ _ c.from_residual.result q.0 q.1 q.2

pub returns-in_err-step-clause-line : goal.returns-in_err-step-clause-line
returns-in_err-step-clause-line g c =
    let r = c.from_residual-in_err-step.result in
    let q = err_from_is_err_and r c.from_residual-in_err-step.ensures.1 in
    let m = c.args.at.now in
    let l = accepted_of c.args.line.now in
    step_stopped m c.begin.new.self l c.step.new.self _ _ _ _ _ r q.0 c.requires.command c.in_ok-begin.ensures.ok c.step.ensures.arrived q.1
    (subst (λ (e : Stop). IsStepRun (step_of (router_in c.begin.new.self.stage) (words_at c.begin.new.self.stage l) l) (g.O.Sink.held c.args.out.now, g.L.Link.sent c.args.link.now) (g.O.Sink.held c.step.new.out, g.L.Link.sent c.step.new.link) (router_in c.step.new.self.stage) (Err e)) (sym q.2) c.in_err-step.ensures.step)

pub returns-in_err-step-clause-peers : goal.returns-in_err-step-clause-peers
returns-in_err-step-clause-peers g c =
    on_err c.from_residual-in_err-step.result (peers_in c.step.new.self.stage ≡ peers_in c.args.at.now.stage) (c.step.ensures.peers ∙ begun_peers c.args.at.now c.begin.new.self c.in_ok-begin.ensures.ok)

pub returns-clause-line : goal.returns-clause-line
returns-clause-line g c =
    let m = c.args.at.now in
    let l = accepted_of c.args.line.now in
    step_line m c.begin.new.self l c.step.new.self c.count_line.new.self _ _ _ _ c.requires.command c.in_ok-begin.ensures.ok c.step.ensures.arrived c.in_ok-step.ensures.step
    (counted_step m c.begin.new.self c.step.new.self c.count_line.new.self c.in_ok-begin.ensures.ok c.step.ensures.stage c.count_line.ensures)

pub returns-clause-grown : goal.returns-clause-grown
returns-clause-grown g c =
    grown_step most_grown c.args.at.now c.begin.new.self c.step.new.self c.count_line.new.self c.in_ok-begin.ensures.ok c.step.ensures.stage c.count_line.ensures c.in_ok-step.ensures.grown

pub returns-clause-lines : goal.returns-clause-lines
returns-clause-lines g c =
    let m = c.args.at.now in
    ap (λ (k : RunState). k.lines) (counted_step m c.begin.new.self c.step.new.self c.count_line.new.self c.in_ok-begin.ensures.ok c.step.ensures.stage c.count_line.ensures)
