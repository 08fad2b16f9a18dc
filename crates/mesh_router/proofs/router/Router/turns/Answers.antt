use Rattle.std.proofs.Common.{◌-◌, ◌+◌, suc, Err, refl, ◌∙◌, sym, subst, arith}
use Rattle.std.proofs.lemmas.Result.{err_from_is_err_and}
use Rattle.mesh_router.specs.declared.stop.Stop.{Stop}
use Rattle.mesh_router.specs.Turns.{next_turn}
use Rattle.mesh_router.specs.Runs.{IsTurnRun}
use Rattle.mesh_router.proofs.Memory.{memory_of}
use Rattle.mesh_router.proofs.Turning.{turns_begin, turns_next, turns_stop, turns_end, turns_failed, turns_at, turn_was_done, turn_was_idle, turns_short_here, turns_short_later, turns_short_at}
use Rattle.mesh_router.proofs.router.Router.turns.Goals as goal

pub loop-i-init : goal.loop-i-init
loop-i-init g c = record {
  done = turns_at c.args.count c.args.count _ _ _ _ _ (turns_begin c.args.count c.args.self.now _) (omega arith);
  short = λ h. turns_short_at c.args.count (c.args.count - 0) c.args.self.now h (omega arith);
  grown = record { heard = omega arith; sent = omega arith; dropped = omega arith };
  few = omega arith;
  peers = refl;
  sink = refl;
  links = refl;
  port = refl;
  arrived = refl;
}

pub returns-in_err-turn-clause-turns : goal.returns-in_err-turn-clause-turns
returns-in_err-turn-clause-turns g c =
    let rest = c.args.count - (c.loop-i._i + 1) in
    let q = err_from_is_err_and c.from_residual.result c.from_residual.ensures.1 in
    turns_failed c.args.count rest _ _ c.turn.new.self _ _ _ _ c.from_residual.result q.0 (turns_at c.args.count _ (suc rest) _ _ _ _ c.loop-i.invariant.done (omega arith)) q.1
    (subst (λ (e : Stop). IsTurnRun (next_turn c.loop-i.self) c.loop-i.self (g.O.Sink.held c.loop-i.out, g.L.Link.sent c.loop-i.link) (g.O.Sink.held c.turn.new.out, g.L.Link.sent c.turn.new.link) c.turn.new.self (Err e)) (sym q.2) c.in_err-turn.ensures.turn)

pub returns-then-not-branch-clause-turns : goal.returns-then-not-branch-clause-turns
returns-then-not-branch-clause-turns g c =
    let rest = c.args.count - (c.loop-i._i + 1) in
    turns_stop c.args.count rest _ _ _ _ _ _ (turns_at c.args.count _ (suc rest) _ _ _ _ c.loop-i.invariant.done (omega arith))
    (turn_was_idle _ _ _ _ _ c.in_ok-turn.field-0 c.if-not-branch.true c.in_ok-turn.ensures.turn)

pub returns-clause-turns : goal.returns-clause-turns
returns-clause-turns g c =
    turns_end c.args.count _ _ _ _ (turns_at c.args.count _ 0 _ _ _ _ c.loop-i.invariant.done (omega arith))

pub loop-i-preserved : goal.loop-i-preserved
loop-i-preserved g c =
    let rest = c.args.count - (c.loop-i._i + 1) in
    let at = c.loop-i.invariant in
    let call = c.in_ok-turn.ensures in
    record {
      done = turns_next c.args.count rest _ _ _ _ _ _ (turns_at c.args.count _ (suc rest) _ _ _ _ at.done (omega arith))
          (turn_was_done _ _ _ _ _ c.in_ok-turn.field-0 c.if-not-branch.false call.turn);
      short = λ h. at.short (turns_short_at _ (suc rest) _ (turns_short_later rest _ _ _ _ (turn_was_done _ _ _ _ _ c.in_ok-turn.field-0 c.if-not-branch.false call.turn) h) (omega arith));
      grown = record {
        heard = omega (arith, at.grown.heard, call.grown.heard);
        sent = omega (arith, at.grown.sent, call.grown.sent);
        dropped = omega (arith, at.grown.dropped, call.grown.dropped);
      };
      few = omega arith;
      peers = call.peers ∙ at.peers;
      sink = call.causes.no_write (λ is. cc) ∙ at.sink;
      links = call.causes.no_send (λ is. cc) ∙ at.links;
      port = call.port ∙ at.port;
      arrived = call.arrived ∙ at.arrived;
    }

pub returns-in_err-turn-clause-memory : goal.returns-in_err-turn-clause-memory
returns-in_err-turn-clause-memory g c = λ is.
    let rest = c.args.count - (c.loop-i._i + 1) in
    let q = err_from_is_err_and c.from_residual.result c.from_residual.ensures.1 in
    c.loop-i.invariant.short (turns_short_at _ (suc rest) _ (turns_short_here rest _ (c.in_err-turn.ensures.memory (memory_of _ q.0 _ q.1 q.2 is))) (omega arith))
