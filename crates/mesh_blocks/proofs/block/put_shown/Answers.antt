use Rattle.std.proofs.Common.{◌≡◌, ◌∙◌, ap, length}
use Rattle.std.specs.List.{slice_get}
use Rattle.std.proofs.lemmas.Result.{err_from_is_err_and}
use Rattle.mesh_base.specs.Meshes.{Nodes}
use Rattle.mesh_model.specs.Worlds.{World}
use Rattle.mesh_world.specs.Seen.{WorldSeen}
use Rattle.mesh_text.specs.Schedule.{world_of}
use Rattle.mesh_text.specs.Tables.{node_text, node_text_in}
use Rattle.mesh_run.proofs.Tables.{node_shown}
use Rattle.mesh_blocks.proofs.Events.{shown_front, shown_whole}
use Rattle.mesh_blocks.proofs.block.put_shown.Goals as goal

pub returns-in_err-put_line-clause-text : goal.returns-in_err-put_line-clause-text
returns-in_err-put_line-clause-text g c =
    let p = err_from_is_err_and c.from_residual.result c.from_residual.ensures.1 in
    let mesh = c.mesh.ensures.value ∙ ap (λ (w : WorldSeen). w.mesh) c.world-world.ensures ∙ c.in-Some.ensures.mesh in
    rw p.1 (shown_front c.args.state.now c.args.node _ _ _ mesh c.in_err-put_line.ensures.text)

pub returns-clause-text : goal.returns-clause-text
returns-clause-text g c =
    let mesh = c.mesh.ensures.value ∙ ap (λ (w : WorldSeen). w.mesh) c.world-world.ensures ∙ c.in-Some.ensures.mesh in
    let state : node_text c.mesh-2.result.now c.node.result.now.core (length c.node.result.now.items) ≡ node_text_in c.args.state.now.mesh (slice_get (world_of c.args.state.now).nodes c.args.node) =
    ap (λ (m : Nodes). node_text m c.node.result.now.core (length c.node.result.now.items)) c.mesh-2.ensures.value
    ∙ node_shown c.world-world.result.now.mesh _ c.node.result.now c.node.ensures.node
    ∙ ap (λ (m : Nodes). node_text_in m (slice_get (c.world-world.result.now.world).nodes c.args.node)) (ap (λ (w : WorldSeen). w.mesh) c.world-world.ensures ∙ c.in-Some.ensures.mesh)
    ∙ ap (λ (w : World). node_text_in c.args.state.now.mesh (slice_get w.nodes c.args.node)) (ap (λ (w : WorldSeen). w.world) c.world-world.ensures ∙ c.in-Some.ensures.world) in
    shown_whole c.args.state.now c.args.node _ _ _ (g.O.Sink.held c.put_line.new.out) _ c.put_node.result mesh state c.in_ok-put_line.ensures.text c.put_node.ensures.text
