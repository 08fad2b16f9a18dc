use Rattle.std.proofs.lemmas.Result.{err_from_is_err_and}
use Rattle.mesh_blocks.proofs.ChangeTexts.{mark_stops, line_stops, mark_ends}
use Rattle.mesh_blocks.proofs.changes.put_marked.Goals as goal

pub returns-in_err-put_all-clause-text : goal.returns-in_err-put_all-clause-text
returns-in_err-put_all-clause-text g c =
    let p = err_from_is_err_and c.from_residual.result c.from_residual.ensures.1 in
    rw p.1 (mark_stops c.args.mark.now c.args.line.now _ _ c.in_err-put_all.ensures.text)

pub returns-in_err-put_all-2-clause-text : goal.returns-in_err-put_all-2-clause-text
returns-in_err-put_all-2-clause-text g c =
    let p = err_from_is_err_and c.from_residual-in_err-put_all-2.result c.from_residual-in_err-put_all-2.ensures.1 in
    rw p.1 (line_stops c.args.mark.now c.args.line.now _ _ (g.O.Sink.held c.put_all.new.out) _ c.without_blanks.ensures c.in_ok-put_all.ensures.text c.in_err-put_all-2.ensures.text)

pub returns-clause-text : goal.returns-clause-text
returns-clause-text g c =
    mark_ends c.args.mark.now c.args.line.now _ _ (g.O.Sink.held c.put_all.new.out) (g.O.Sink.held c.put_all-2.new.out) _ c.put_all-3.result c.without_blanks.ensures c.in_ok-put_all.ensures.text c.in_ok-put_all-2.ensures.text c.put_all-3.ensures.text
