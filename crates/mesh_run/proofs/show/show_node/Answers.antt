use Rattle.std.proofs.Common.{◌≡◌, ◌∙◌, true, refl, ap}
use Rattle.std.proofs.lemmas.Result.{err_from_is_err_and}
use Rattle.mesh_base.specs.Meshes.{Nodes}
use Rattle.mesh_model.specs.Worlds.{World}
use Rattle.mesh_text.specs.Schedule.{RunState, world_of}
use Rattle.mesh_grammar.specs.Written.{line}
use Rattle.mesh_text.specs.Tables.{node_text, node_text_in}
use Rattle.std.specs.List.{slice_get}
use Rattle.std.proofs.Common.{length}
use Rattle.mesh_world.specs.Seen.{WorldSeen}
use Rattle.mesh_run.proofs.Tables.{node_shown, shows_whole, shows_front}
use Rattle.mesh_run.proofs.show.show_node.Goals as goal

pub returns-in_err-put_echo-clause-text : goal.returns-in_err-put_echo-clause-text
returns-in_err-put_echo-clause-text g c =
    let p = err_from_is_err_and c.from_residual.result c.from_residual.ensures.1 in
    let words = ap line c.requires.echo.1 in
    rw p.1 (shows_front true _ _ _ _ _ refl words c.in_err-put_echo.ensures.text)

pub returns-clause-text : goal.returns-clause-text
returns-clause-text g c =
    let words = ap line c.requires.echo.1 in
    let output_if : node_text c.mesh.result.now c.node.result.now.core (length c.node.result.now.items) ≡ node_text_in c.args.at.now.mesh (slice_get (world_of c.args.at.now).nodes c.args.node) =
    ap (λ (m : Nodes). node_text m c.node.result.now.core (length c.node.result.now.items)) c.mesh.ensures.value
    ∙ node_shown c.world-world.result.now.mesh _ c.node.result.now c.node.ensures.node
    ∙ ap (λ (m : Nodes). node_text_in m (slice_get (c.world-world.result.now.world).nodes c.args.node)) (ap (λ (w : WorldSeen). w.mesh) c.world-world.ensures ∙ (c.in-Some.ensures.mesh ∙ ap (λ (m : RunState). m.mesh) c.at.view_is))
    ∙ ap (λ (w : World). node_text_in c.args.at.now.mesh (slice_get w.nodes c.args.node)) (ap (λ (w : WorldSeen). w.world) c.world-world.ensures ∙ (c.in-Some.ensures.world ∙ ap (λ (m : RunState). world_of m) c.at.view_is)) in
    shows_whole true _ _ _ _ _ (g.O.Sink.held c.put_echo.new.out) _ c.put_node.result refl words output_if c.in_ok-put_echo.ensures.text c.put_node.ensures.text
