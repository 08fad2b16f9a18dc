use Rattle.std.proofs.Common.{refl, subst}
use Rattle.std.proofs.lemmas.Result.{err_from_is_err_and}
use Rattle.mesh_grammar.specs.Written.{line}
use Rattle.mesh_script.specs.NodeLines.{words_of}
use Rattle.mesh_script.specs.NodeSeen.{accepted_of}
use Rattle.mesh_router.specs.Logs.{text_log}
use Rattle.mesh_router.specs.Routers.{Router}
use Rattle.mesh_router.specs.Turns.{log_before, turns_of}
use Rattle.mesh_router.specs.Runs.{IsStepRun}
use Rattle.mesh_router.proofs.Logging.{adds-text, prefix-text}
use Rattle.mesh_router.proofs.Turning.{first-more}
use Rattle.mesh_router.proofs.Acting.{step_cut, step_after, not_full-write}
use Rattle.mesh_router.proofs.router.Router.turns_below.Goals as goal

pub returns-in_err-put_line-clause-step : goal.returns-in_err-put_line-clause-step
returns-in_err-put_line-clause-step g c =
    let p = c.self.inside.peers in
    let words = words_of p.mesh (accepted_of c.args.line.now) in
    let q = err_from_is_err_and c.from_residual.result c.from_residual.ensures.1 in
    let P : Router → Type 0 = λ r. IsStepRun (log_before (text_log (line (words_of r.peers.mesh (accepted_of c.args.line.now)))) (turns_of c.args.count r)) (g.O.Sink.held c.args.out.now, g.L.Link.sent c.args.link.now) (g.O.Sink.held c.put_line.new.out, g.L.Link.sent c.args.link.now) c.args.self.now c.from_residual.result in
    subst P c.self.view_is (step_cut _ _ _ _ c.from_residual.result q.0 q.1 (not_full-write q.0 q.2)
    (first-more (text_log (line words)) (turns_of c.args.count _) _ _ (prefix-text _ _ _ _ (line words) refl c.in_err-put_line.ensures.text)))

pub returns-clause-step : goal.returns-clause-step
returns-clause-step g c =
    let p = c.self.inside.peers in
    let words = words_of p.mesh (accepted_of c.args.line.now) in
    let P : Router → Type 0 = λ r. IsStepRun (log_before (text_log (line (words_of r.peers.mesh (accepted_of c.args.line.now)))) (turns_of c.args.count c.args.self.now)) (g.O.Sink.held c.args.out.now, g.L.Link.sent c.args.link.now) (g.O.Sink.held c.turns.new.out, g.L.Link.sent c.turns.new.link) c.turns.new.self c.turns.result in
    subst P c.self.view_is (step_after (text_log (line words)) (turns_of c.args.count c.args.self.now) _ _ _ _ c.turns.result (adds-text _ _ _ _ (line words) refl c.in_ok-put_line.ensures.text) c.turns.ensures.turns)
