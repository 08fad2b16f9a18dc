use Rattle.std.proofs.Common.{Ok, ◌++◌, Bool, refl, ap, ◌∙◌, sym, subst}
use Rattle.std.proofs.lemmas.Result.{err_from_is_err_and}
use Rattle.std.specs.FinSet as sets
use Rattle.mesh_base.specs.Members.{NodeIds}
use Rattle.mesh_grammar.specs.Written.{line}
use Rattle.mesh_script.specs.NodeLines.{words_of}
use Rattle.mesh_script.specs.NodeSeen.{accepted_of}
use Rattle.mesh_router.specs.Logs.{text_log}
use Rattle.mesh_router.specs.Routers.{Router}
use Rattle.mesh_router.specs.Turns.{StepDone, idle_line}
use Rattle.mesh_router.specs.Lines.{range_outcome}
use Rattle.mesh_router.specs.Peers.{ArePeers}
use Rattle.mesh_router.specs.Runs.{IsStepRun}
use Rattle.mesh_router.proofs.Logging.{adds-text, prefix-text}
use Rattle.mesh_router.proofs.Peers.{are_fewer}
use Rattle.mesh_router.proofs.Turning.{router_as}
use Rattle.mesh_router.proofs.Acting.{step_done, step_cut_in, not_full-write}
use Rattle.mesh_router.proofs.router.Router.down.Goals as goal

pub returns-in_err-put_idle-clause-step : goal.returns-in_err-put_idle-clause-step
returns-in_err-put_idle-clause-step g c =
    let p = c.self.inside.peers in
    let node = c.self.inside.node in
    let near = c.self.inside.range in
    let l = accepted_of c.args.line.now in
    let words = words_of p.mesh l in
    let q = err_from_is_err_and c.from_residual.result c.from_residual.ensures.1 in
    λ sent.
    let P : Router → Type 0 = λ r. IsStepRun (range_outcome r (words_of r.peers.mesh l) (sets.contains r.range c.args.node) (sets.remove r.range c.args.node)) (g.O.Sink.held c.args.out.now, sent) (g.O.Sink.held c.put_idle.new.out, sent) c.args.self.now c.from_residual.result in
    subst P c.self.view_is (step_cut_in _ (router_as p node near c.self.inside.heard c.self.inside.sent c.self.inside.dropped) _ _ _ (text_log (line words ++ idle_line)) c.from_residual.result q.0 q.1 (not_full-write q.0 q.2)
    (ap (λ (b : Bool). range_outcome (router_as p node near c.self.inside.heard c.self.inside.sent c.self.inside.dropped) words b (sets.remove near c.args.node)) (sym c.has.ensures.value ∙ c.if-not-has.true))
    (prefix-text _ _ _ _ (line words ++ idle_line) refl c.in_err-put_idle.ensures.text))

pub returns-in_err-put_line-clause-step : goal.returns-in_err-put_line-clause-step
returns-in_err-put_line-clause-step g c =
    let p = c.self.inside.peers in
    let node = c.self.inside.node in
    let near = c.self.inside.range in
    let l = accepted_of c.args.line.now in
    let words = words_of p.mesh l in
    let q = err_from_is_err_and c.from_residual-in_err-put_line.result c.from_residual-in_err-put_line.ensures.1 in
    λ sent.
    let P : Router → Type 0 = λ r. IsStepRun (range_outcome r (words_of r.peers.mesh l) (sets.contains r.range c.args.node) (sets.remove r.range c.args.node)) (g.O.Sink.held c.args.out.now, sent) (g.O.Sink.held c.put_line.new.out, sent) (router_as p node c.remove.new.self c.self.inside.heard c.self.inside.sent c.self.inside.dropped) c.from_residual-in_err-put_line.result in
    subst P c.self.view_is (step_cut_in _ (router_as p node (sets.remove near c.args.node) c.self.inside.heard c.self.inside.sent c.self.inside.dropped) _ _ _ (text_log (line words)) c.from_residual-in_err-put_line.result q.0 q.1 (not_full-write q.0 q.2)
    (ap (λ (b : Bool). range_outcome (router_as p node near c.self.inside.heard c.self.inside.sent c.self.inside.dropped) words b (sets.remove near c.args.node)) (sym c.has.ensures.value ∙ c.if-not-has.false))
    (prefix-text _ _ _ _ (line words) refl c.in_err-put_line.ensures.text))

pub invariant_of-self : goal.invariant_of-self
invariant_of-self g c =
    record {
      me = c.self.invariant.me;
      size = c.self.invariant.size;
      range = subst (λ (s : NodeIds). ArePeers c.self.inside.peers s) (sym c.remove.ensures) (are_fewer c.self.inside.peers c.self.inside.range c.args.node c.self.invariant.range);
    }

pub invariant_of-self-2 : goal.invariant_of-self-2
invariant_of-self-2 g c =
    record {
      me = c.self.invariant.me;
      size = c.self.invariant.size;
      range = subst (λ (s : NodeIds). ArePeers c.self.inside.peers s) (sym c.remove.ensures) (are_fewer c.self.inside.peers c.self.inside.range c.args.node c.self.invariant.range);
    }

pub returns-then-not-has-clause-step : goal.returns-then-not-has-clause-step
returns-then-not-has-clause-step g c =
    let p = c.self.inside.peers in
    let node = c.self.inside.node in
    let near = c.self.inside.range in
    let l = accepted_of c.args.line.now in
    let words = words_of p.mesh l in
    λ sent.
    let P : Router → Type 0 = λ r. IsStepRun (range_outcome r (words_of r.peers.mesh l) (sets.contains r.range c.args.node) (sets.remove r.range c.args.node)) (g.O.Sink.held c.args.out.now, sent) (g.O.Sink.held c.put_idle.new.out, sent) r (Ok tt) in
    subst P c.self.view_is (step_done _ (router_as p node near c.self.inside.heard c.self.inside.sent c.self.inside.dropped) _ _ (text_log (line words ++ idle_line))
    (ap (λ (b : Bool). range_outcome (router_as p node near c.self.inside.heard c.self.inside.sent c.self.inside.dropped) words (b) (sets.remove near c.args.node)) (sym c.has.ensures.value ∙ c.if-not-has.true))
    (adds-text _ _ _ _ (line words ++ idle_line) refl c.in_ok-put_idle.ensures.text))

pub returns-clause-step : goal.returns-clause-step
returns-clause-step g c =
    let p = c.self.inside.peers in
    let node = c.self.inside.node in
    let near = c.self.inside.range in
    let l = accepted_of c.args.line.now in
    let words = words_of p.mesh l in
    λ sent.
    let P : Router → Type 0 = λ r. IsStepRun (range_outcome r (words_of r.peers.mesh l) (sets.contains r.range c.args.node) (sets.remove r.range c.args.node)) (g.O.Sink.held c.args.out.now, sent) (g.O.Sink.held c.put_line.new.out, sent) (router_as p node c.remove.new.self c.self.inside.heard c.self.inside.sent c.self.inside.dropped) (Ok tt) in
    subst P c.self.view_is (step_done _ (router_as p node c.remove.new.self c.self.inside.heard c.self.inside.sent c.self.inside.dropped) _ _ (text_log (line words))
    (ap (λ (b : Bool). range_outcome (router_as p node near c.self.inside.heard c.self.inside.sent c.self.inside.dropped) words (b) (sets.remove near c.args.node)) (sym c.has.ensures.value ∙ c.if-not-has.false)
    ∙ ap (λ (s : NodeIds). StepDone (text_log (line words)) (router_as p node s c.self.inside.heard c.self.inside.sent c.self.inside.dropped)) (sym c.remove.ensures))
    (adds-text _ _ _ _ (line words) refl c.in_ok-put_line.ensures.text))
