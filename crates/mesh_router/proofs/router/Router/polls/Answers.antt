use Rattle.std.proofs.Common.{◌-◌, ◌+◌, suc, refl, ◌∙◌, arith}
use Rattle.std.proofs.lemmas.Result.{err_from_is_err_and}
use Rattle.mesh_router.proofs.Memory.{memory_of}
use Rattle.mesh_router.proofs.Polling.{polls_begin, polls_next, polls_stop, polls_end, polls_failed, polls_at, found_one, found_nothing, polls_run_fault, short_later}
use Rattle.mesh_router.proofs.router.Router.polls.Goals as goal

pub loop-i-init : goal.loop-i-init
loop-i-init g c = record {
  polled = polls_at c.args.count c.args.count _ _ _ _ _ _ _ (polls_begin c.args.count c.args.self.now _ _) (omega arith);
  grown = record { heard = omega arith; sent = omega arith; dropped = omega arith };
  peers = refl;
  sink = refl;
  links = refl;
  port = refl;
}

pub returns-in_err-poll-clause-polls : goal.returns-in_err-poll-clause-polls
returns-in_err-poll-clause-polls g c =
    let rest = c.args.count - (c.loop-i._i + 1) in
    polls_run_fault _ _ _ _ _ _ _ c.from_residual.result c.from_residual.ensures.0
    (polls_failed c.args.count rest _ _ _ _ _ _ _ _ (polls_at c.args.count _ (suc rest) _ _ _ _ _ _ c.loop-i.invariant.polled (omega arith)) (c.in_err-poll.ensures.poll rest))

pub returns-then-not-branch-clause-polls : goal.returns-then-not-branch-clause-polls
returns-then-not-branch-clause-polls g c =
    let rest = c.args.count - (c.loop-i._i + 1) in
    polls_stop c.args.count rest _ _ _ _ _ _ _ _ _ (polls_at c.args.count _ (suc rest) _ _ _ _ _ _ c.loop-i.invariant.polled (omega arith))
    (found_nothing _ _ _ _ _ _ c.in_ok-poll.field-0 c.if-not-branch.true c.in_ok-poll.ensures.poll)

pub returns-clause-polls : goal.returns-clause-polls
returns-clause-polls g c =
    polls_end c.args.count _ _ _ _ _ _ (polls_at c.args.count _ 0 _ _ _ _ _ _ c.loop-i.invariant.polled (omega arith))

pub loop-i-preserved : goal.loop-i-preserved
loop-i-preserved g c =
    let rest = c.args.count - (c.loop-i._i + 1) in
    let at = c.loop-i.invariant in
    let call = c.in_ok-poll.ensures in
    record {
      polled = polls_next c.args.count rest _ _ _ _ _ _ _ _ _ (polls_at c.args.count _ (suc rest) _ _ _ _ _ _ at.polled (omega arith))
          (found_one _ _ _ _ _ _ c.in_ok-poll.field-0 c.if-not-branch.false call.poll);
      grown = record {
        heard = omega (arith, at.grown.heard, call.grown.heard);
        sent = omega (arith, at.grown.sent, call.grown.sent);
        dropped = omega (arith, at.grown.dropped, call.grown.dropped);
      };
      peers = call.peers ∙ at.peers;
      sink = call.causes.no_write (λ is. cc) ∙ at.sink;
      links = call.causes.no_send (λ is. cc) ∙ at.links;
      port = call.port ∙ at.port;
    }

pub returns-in_err-poll-clause-memory : goal.returns-in_err-poll-clause-memory
returns-in_err-poll-clause-memory g c = λ is.
    let rest = c.args.count - (c.loop-i._i + 1) in
    let q = err_from_is_err_and c.from_residual.result c.from_residual.ensures.1 in
    short_later c.args.count (suc rest) _ _ _ _ _ _ _ (polls_at c.args.count _ (suc rest) _ _ _ _ _ _ c.loop-i.invariant.polled (omega arith)) c.loop-i.invariant.peers
    (c.in_err-poll.ensures.memory (memory_of _ q.0 _ q.1 q.2 is))
