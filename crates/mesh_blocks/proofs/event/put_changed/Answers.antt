use Rattle.std.proofs.Common.{◌∙◌, Ok, Err}
use Rattle.std.proofs.lemmas.Result.{err_from_is_err_and}
use Rattle.mesh_blocks.proofs.Events.{changed_front, changed_whole}
use Rattle.mesh_blocks.proofs.event.put_changed.Goals as goal

pub returns-in_err-put_changed_line-clause-text : goal.returns-in_err-put_changed_line-clause-text
returns-in_err-put_changed_line-clause-text g c =
    let p = err_from_is_err_and c.from_residual-in_err-put_changed_line.result c.from_residual-in_err-put_changed_line.ensures.1 in
    rw p.1 (changed_front c.args.drafts.now.before.bytes.items c.args.state.now c.args.node c.mesh.result.now _ _ c.mesh.ensures.value c.in_err-put_changed_line.ensures.text)

pub returns-in_err-put_changes-clause-text : goal.returns-in_err-put_changes-clause-text
returns-in_err-put_changes-clause-text g c =
    let p = err_from_is_err_and c.from_residual-in_err-put_changes.result c.from_residual-in_err-put_changes.ensures.1 in
    rw p.1 (changed_whole {T = Unit {0}} {E = Unit {0}} c.args.drafts.now.before.bytes.items c.text.result.now c.text-2.result.now c.args.state.now c.args.node c.mesh.result.now
    _ (g.O.Sink.held c.put_changed_line.new.out) _ (Err tt) c.mesh.ensures.value c.text.ensures (c.text-2.ensures ∙ c.in_ok-draw_block.ensures) c.in_ok-put_changed_line.ensures.text c.in_err-put_changes.ensures.text)

pub returns-clause-text : goal.returns-clause-text
returns-clause-text g c =
    changed_whole {T = Unit {0}} {E = Unit {0}} c.args.drafts.now.before.bytes.items c.text.result.now c.text-2.result.now c.args.state.now c.args.node c.mesh.result.now
    _ (g.O.Sink.held c.put_changed_line.new.out) _ (Ok tt) c.mesh.ensures.value c.text.ensures (c.text-2.ensures ∙ c.in_ok-draw_block.ensures) c.in_ok-put_changed_line.ensures.text c.in_ok-put_changes.ensures.text
