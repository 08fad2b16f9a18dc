use Rattle.std.proofs.Common.{◌≡◌, ◌≤◌, Ok, Err, ap, ◌∙◌, sym, subst, arith}
use Rattle.std.proofs.lemmas.Result.{err_from_is_err_and}
use Rattle.mesh_script.specs.Peers.{PeersSeen}
use Rattle.mesh_script.specs.NodeLines.{AcceptedLine, Polls}
use Rattle.mesh_script.specs.NodeSeen.{accepted_of, IsPrintable}
use Rattle.mesh_script.specs.declared.node_line.NodeLine.{NodeLine}
use Rattle.mesh_router.specs.declared.stop.Stop.{Stop}
use Rattle.mesh_router.specs.Routers.{Router, RunState, peers_in, router_in, is_running}
use Rattle.mesh_router.specs.Lines.{outcome_of_line, words_at, refused_words}
use Rattle.mesh_router.specs.Seen.{HasCounts, most_grown}
use Rattle.mesh_router.specs.Runs.{IsPollLine, IsLineRun, IsPollLineDone}
use Rattle.mesh_router.proofs.Running.{line_untold, poll_done, poll_stopped, counted_step, begun_router, begun_peers, grown_step, grown_more, on_err}
use Rattle.mesh_router.proofs.lines.do_poll.Goals as goal

pub poll-requires-clause-running : goal.poll-requires-clause-running
poll-requires-clause-running g c =
    ap (λ (k : RunState). is_running k.stage) c.in_ok-begin.ensures.ok

pub poll-requires-clause-printable : goal.poll-requires-clause-printable
poll-requires-clause-printable g c =
    subst (λ (p : PeersSeen). IsPrintable p c.args.line.now) (sym (begun_peers c.args.at.now c.begin.new.self c.in_ok-begin.ensures.ok)) c.requires.printable

pub poll-requires-clause-few : goal.poll-requires-clause-few
poll-requires-clause-few g c =
    subst (λ (r : Router). HasCounts (2305843009213693952) r) (sym (begun_router c.args.at.now c.begin.new.self c.in_ok-begin.ensures.ok)) c.requires.few

pub returns-in_err-begin-clause-line : goal.returns-in_err-begin-clause-line
returns-in_err-begin-clause-line g c =
    let q = err_from_is_err_and c.from_residual.result c.from_residual.ensures.1 in
    line_untold _ _ _ _ _ c.from_residual.result q.0 q.1 q.2

pub returns-in_err-poll-clause-line : goal.returns-in_err-poll-clause-line
returns-in_err-poll-clause-line g c =
    let r = c.from_residual-in_err-poll.result in
    let q = err_from_is_err_and r c.from_residual-in_err-poll.ensures.1 in
    let m = c.args.at.now in
    let e : accepted_of c.args.line.now ≡ Polls c.args.count = ap accepted_of c.requires.line in
    let told = subst (λ (k : AcceptedLine). IsPollLine c.args.count (words_at c.begin.new.self.stage k) (router_in c.begin.new.self.stage) (g.L.Link.arrived c.args.link.now) (g.L.Link.arrived c.poll.new.link) (g.O.Sink.held c.args.out.now, g.L.Link.sent c.args.link.now) (g.O.Sink.held c.poll.new.out, g.L.Link.sent c.poll.new.link) (router_in c.poll.new.self.stage) (Err q.0)) e
    (subst (λ (x : Stop). IsPollLine c.args.count (words_at c.begin.new.self.stage (accepted_of c.args.line.now)) (router_in c.begin.new.self.stage) (g.L.Link.arrived c.args.link.now) (g.L.Link.arrived c.poll.new.link) (g.O.Sink.held c.args.out.now, g.L.Link.sent c.args.link.now) (g.O.Sink.held c.poll.new.out, g.L.Link.sent c.poll.new.link) (router_in c.poll.new.self.stage) (Err x)) (sym q.2) c.in_err-poll.ensures.polls) in
    subst (λ (k : AcceptedLine). IsLineRun (outcome_of_line m k) (refused_words m.stage k) c.poll.new.self (g.L.Link.arrived c.args.link.now) (g.L.Link.arrived c.poll.new.link) (g.O.Sink.held c.args.out.now, g.L.Link.sent c.args.link.now) (g.O.Sink.held c.poll.new.out, g.L.Link.sent c.poll.new.link) r) (sym e)
    (poll_stopped m c.begin.new.self c.args.count c.poll.new.self _ _ _ _ r q.0 c.in_ok-begin.ensures.ok q.1 told)

pub returns-in_err-poll-clause-peers : goal.returns-in_err-poll-clause-peers
returns-in_err-poll-clause-peers g c =
    on_err c.from_residual-in_err-poll.result (peers_in c.poll.new.self.stage ≡ peers_in c.args.at.now.stage) (c.poll.ensures.peers ∙ begun_peers c.args.at.now c.begin.new.self c.in_ok-begin.ensures.ok)

pub returns-clause-line : goal.returns-clause-line
returns-clause-line g c =
    let m = c.args.at.now in
    let e : accepted_of c.args.line.now ≡ Polls c.args.count = ap accepted_of c.requires.line in
    let told = subst (λ (k : AcceptedLine). IsPollLineDone c.args.count (words_at c.begin.new.self.stage k) (router_in c.begin.new.self.stage) (router_in c.poll.new.self.stage) (g.L.Link.arrived c.args.link.now) (g.L.Link.arrived c.poll.new.link) (g.O.Sink.held c.args.out.now, g.L.Link.sent c.args.link.now) (g.O.Sink.held c.poll.new.out, g.L.Link.sent c.poll.new.link)) e c.in_ok-poll.ensures.polls in
    subst (λ (k : AcceptedLine). IsLineRun (outcome_of_line m k) (refused_words m.stage k) c.count_line.new.self (g.L.Link.arrived c.args.link.now) (g.L.Link.arrived c.poll.new.link) (g.O.Sink.held c.args.out.now, g.L.Link.sent c.args.link.now) (g.O.Sink.held c.poll.new.out, g.L.Link.sent c.poll.new.link) (Ok tt)) (sym e)
    (poll_done m c.begin.new.self c.args.count c.poll.new.self c.count_line.new.self _ _ _ _ c.in_ok-begin.ensures.ok told
    (counted_step m c.begin.new.self c.poll.new.self c.count_line.new.self c.in_ok-begin.ensures.ok c.poll.ensures.stage c.count_line.ensures))

pub returns-clause-grown : goal.returns-clause-grown
returns-clause-grown g c =
    let range = subst (λ (n : NodeLine). IsPrintable (peers_in c.args.at.now.stage) n) c.requires.line c.requires.printable in
    let few : c.args.count ≤ 1000 = range.2 in
    grown_more c.args.count most_grown _ _ (omega arith) (grown_step c.args.count c.args.at.now c.begin.new.self c.poll.new.self c.count_line.new.self c.in_ok-begin.ensures.ok c.poll.ensures.stage c.count_line.ensures c.in_ok-poll.ensures.grown)

pub returns-clause-lines : goal.returns-clause-lines
returns-clause-lines g c =
    let m = c.args.at.now in
    ap (λ (k : RunState). k.lines) (counted_step m c.begin.new.self c.poll.new.self c.count_line.new.self c.in_ok-begin.ensures.ok c.poll.ensures.stage c.count_line.ensures)
