use Rattle.std.proofs.Common.{◌∙◌, ap, refl}
use Rattle.mesh_base.specs.Meshes.{with_node}
use Rattle.mesh_text.specs.Schedule.{RunState}
use Rattle.std.proofs.lemmas.Result.{err_from_is_err_and}
use Rattle.mesh_run.proofs.Events.{node_goes, node_front}
use Rattle.mesh_run.proofs.commands.do_node.Goals as goal

pub returns-in_err-say_line-clause-comes : goal.returns-in_err-say_line-clause-comes
returns-in_err-say_line-clause-comes g c =
    let p = err_from_is_err_and c.from_residual.result c.from_residual.ensures.1 in
    rw (p.1, p.2) (node_front c.args.say c.args.at.now c.mesh.result.now c.args.addr.0 c.args.first _ _ (c.mesh.ensures.value ∙ ap (λ (m : RunState). m.mesh) c.at.view_is) c.in_err-say_line.ensures.text)

pub returns-clause-comes : goal.returns-clause-comes
returns-clause-comes g c =
    node_goes c.args.say c.args.at.now c.add_node.new.self _ c.mesh.result.now c.args.addr.0 c.args.first _ _ (c.mesh.ensures.value ∙ ap (λ (m : RunState). m.mesh) c.at.view_is) c.in_ok-say_line.ensures.text
    (c.add_node.ensures ∙ ap (λ (m : RunState). record m { mesh = with_node m.mesh c.args.addr.0 c.args.first }) c.at.view_is) refl
