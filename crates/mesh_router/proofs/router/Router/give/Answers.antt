use Rattle.std.proofs.Common.{◌≡◌, ◌++◌, ◌∷◌, [], Ok, refl, ap, ◌∙◌, sym, subst}
use Rattle.std.proofs.lemmas.Result.{err_from_is_err_and}
use Rattle.mesh_grammar.specs.Written.{line}
use Rattle.mesh_script.specs.NodeLines.{words_of}
use Rattle.mesh_script.specs.NodeSeen.{accepted_of}
use Rattle.mesh_router.specs.Logs.{text_log}
use Rattle.mesh_router.specs.Routers.{Router}
use Rattle.mesh_router.specs.Lines.{give_outcome}
use Rattle.mesh_router.specs.Turns.{StepDone}
use Rattle.mesh_base.specs.declared.events.Item.TheVariants.{New}
use Rattle.aodv_node.specs.Seen.{NodeSeen}
use Rattle.mesh_router.specs.Runs.{IsStepRun}
use Rattle.mesh_router.proofs.Logging.{adds-text, prefix-text, prefix-none}
use Rattle.mesh_router.proofs.Turning.{router_as}
use Rattle.mesh_router.proofs.Acting.{step_done, step_cut, not_full-write, not_full-memory}
use Rattle.mesh_router.proofs.router.Router.give.Goals as goal

pub returns-in_err-copied-clause-step : goal.returns-in_err-copied-clause-step
returns-in_err-copied-clause-step g c =
    let q = err_from_is_err_and c.from_residual.result c.from_residual.ensures.1 in
    λ sent. step_cut _ _ _ _ c.from_residual.result q.0 q.1 (not_full-memory q.0 q.2) (prefix-none _ _)

pub returns-in_err-make_room-clause-step : goal.returns-in_err-make_room-clause-step
returns-in_err-make_room-clause-step g c =
    let q = err_from_is_err_and c.from_residual-in_err-make_room.result c.from_residual-in_err-make_room.ensures.1 in
    λ sent. step_cut _ _ _ _ c.from_residual-in_err-make_room.result q.0 q.1 (not_full-memory q.0 q.2) (prefix-none _ _)

pub returns-in_err-put_line-clause-step : goal.returns-in_err-put_line-clause-step
returns-in_err-put_line-clause-step g c =
    let p = c.self.inside.peers in
    let node = c.self.inside.node in
    let near = c.self.inside.range in
    let l = accepted_of c.args.line.now in
    let words = words_of p.mesh l in
    let q = err_from_is_err_and c.from_residual-in_err-put_line.result c.from_residual-in_err-put_line.ensures.1 in
    λ sent.
    let P : Router → Type 0 = λ r. IsStepRun (give_outcome r (words_of r.peers.mesh l) c.args.dest c.args.body.now) (g.O.Sink.held c.args.out.now, sent) (g.O.Sink.held c.put_line.new.out, sent) (router_as p c.give.new.self near c.self.inside.heard c.self.inside.sent c.self.inside.dropped) c.from_residual-in_err-put_line.result in
    subst P c.self.view_is (step_cut _ _ _ _ c.from_residual-in_err-put_line.result q.0 q.1 (not_full-write q.0 q.2)
    (prefix-text _ _ _ _ (line words) refl c.in_err-put_line.ensures.text))

pub returns-clause-step : goal.returns-clause-step
returns-clause-step g c =
    let p = c.self.inside.peers in
    let node = c.self.inside.node in
    let near = c.self.inside.range in
    let l = accepted_of c.args.line.now in
    let words = words_of p.mesh l in
    let r = router_as p node near c.self.inside.heard c.self.inside.sent c.self.inside.dropped in
    let core : node.core ≡ c.give.new.self.core = sym (ap (λ (n : NodeSeen). n.core) c.give.ensures ∙ c.make_room.ensures.core) in
    let items : node.items ++ New c.args.dest c.args.body.now ∷ [] ≡ c.give.new.self.items = sym (ap (λ (n : NodeSeen). n.items) c.give.ensures
    ∙ (λ i. c.make_room.ensures.items i ++ New c.args.dest (c.in_ok-copied.ensures.copy i) ∷ [])) in
    λ sent.
    let P : Router → Type 0 = λ k. IsStepRun (give_outcome k (words_of k.peers.mesh l) c.args.dest c.args.body.now) (g.O.Sink.held c.args.out.now, sent) (g.O.Sink.held c.put_line.new.out, sent) (router_as p c.give.new.self near c.self.inside.heard c.self.inside.sent c.self.inside.dropped) (Ok tt) in
    subst P c.self.view_is (step_done _ (router_as p c.give.new.self near c.self.inside.heard c.self.inside.sent c.self.inside.dropped) _ _ (text_log (line words))
    (λ i. StepDone (text_log (line words)) (record r { core = core i; queue = items i }))
    (adds-text _ _ _ _ (line words) refl c.in_ok-put_line.ensures.text))
