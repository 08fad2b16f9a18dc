use Rattle.std.proofs.Common.{Ok, ℕ, ◌++◌, List, refl, ap, subst, length}
use Rattle.std.proofs.lemmas.Result.{err_from_is_err_and}
use Rattle.mesh_base.specs.Meshes.{Nodes}
use Rattle.std.specs.Io.KnownBytes.{Appends}
use Rattle.mesh_io.specs.Puts.{AppendsPrefix}
use Rattle.mesh_io.proofs.Writing.{Appends-join, AppendsPrefix-join, AppendsPrefix-more}
use Rattle.mesh_grammar.specs.Written.{line}
use Rattle.mesh_text.specs.Tables.{node_text}
use Rattle.mesh_script.specs.NodeLines.{words_of}
use Rattle.mesh_script.specs.NodeSeen.{accepted_of}
use Rattle.mesh_router.specs.Logs.{text_log}
use Rattle.mesh_router.specs.Routers.{Router}
use Rattle.mesh_router.specs.Lines.{show_outcome}
use Rattle.mesh_router.specs.Runs.{IsStepRun}
use Rattle.mesh_router.proofs.Logging.{adds-text, prefix-text}
use Rattle.mesh_router.proofs.Acting.{step_done, step_cut, not_full-write}
use Rattle.mesh_router.proofs.router.Router.show.Goals as goal

pub returns-in_err-put_line-clause-step : goal.returns-in_err-put_line-clause-step
returns-in_err-put_line-clause-step g c =
    let p = c.self.inside.peers in
    let node = c.self.inside.node in
    let near = c.self.inside.range in
    let l = accepted_of c.args.line.now in
    let words = words_of p.mesh l in
    let q = err_from_is_err_and c.from_residual.result c.from_residual.ensures.1 in
    let more = node_text p.mesh node.core (length node.items) in
    λ sent.
    let P : Router → Type 0 = λ r. IsStepRun (show_outcome r (words_of r.peers.mesh l)) (g.O.Sink.held c.args.out.now, sent) (g.O.Sink.held c.put_line.new.out, sent) c.args.self.now c.from_residual.result in
    subst P c.self.view_is (step_cut _ _ _ _ c.from_residual.result q.0 q.1 (not_full-write q.0 q.2)
    (prefix-text _ _ _ _ (line words ++ more) refl (AppendsPrefix-more _ _ (line words) more (line words ++ more) refl c.in_err-put_line.ensures.text)))

pub returns-in_err-put_node-clause-step : goal.returns-in_err-put_node-clause-step
returns-in_err-put_node-clause-step g c =
    let p = c.self.inside.peers in
    let node = c.self.inside.node in
    let near = c.self.inside.range in
    let l = accepted_of c.args.line.now in
    let words = words_of p.mesh l in
    let q = err_from_is_err_and c.from_residual-in_err-put_node.result c.from_residual-in_err-put_node.ensures.1 in
    let more : Nodes → List ℕ = λ m. node_text m node.core (length node.items) in
    let put = subst (λ (t : List ℕ). AppendsPrefix (g.O.Sink.held c.put_line.new.out) (g.O.Sink.held c.put_node.new.out) t) (ap more c.mesh.ensures.mesh) c.in_err-put_node.ensures.text in
    λ sent.
    let P : Router → Type 0 = λ r. IsStepRun (show_outcome r (words_of r.peers.mesh l)) (g.O.Sink.held c.args.out.now, sent) (g.O.Sink.held c.put_node.new.out, sent) c.args.self.now c.from_residual-in_err-put_node.result in
    subst P c.self.view_is (step_cut _ _ _ _ c.from_residual-in_err-put_node.result q.0 q.1 (not_full-write q.0 q.2)
    (prefix-text _ _ _ _ (line words ++ more p.mesh) refl (AppendsPrefix-join _ _ _ (line words) (more p.mesh) (line words ++ more p.mesh) refl c.in_ok-put_line.ensures.text put)))

pub returns-clause-step : goal.returns-clause-step
returns-clause-step g c =
    let p = c.self.inside.peers in
    let node = c.self.inside.node in
    let l = accepted_of c.args.line.now in
    let words = words_of p.mesh l in
    let more : Nodes → List ℕ = λ m. node_text m node.core (length node.items) in
    let put = subst (λ (t : List ℕ). Appends (g.O.Sink.held c.put_line.new.out) (g.O.Sink.held c.put_node.new.out) t) (ap more c.mesh.ensures.mesh) c.in_ok-put_node.ensures.text in
    λ sent.
    let P : Router → Type 0 = λ r. IsStepRun (show_outcome r (words_of r.peers.mesh l)) (g.O.Sink.held c.args.out.now, sent) (g.O.Sink.held c.put_node.new.out, sent) r (Ok tt) in
    subst P c.self.view_is (step_done _ _ _ _ (text_log (line words ++ more p.mesh)) refl
    (adds-text _ _ _ _ (line words ++ more p.mesh) refl (Appends-join _ _ _ (line words) (more p.mesh) (line words ++ more p.mesh) refl c.in_ok-put_line.ensures.text put)))
