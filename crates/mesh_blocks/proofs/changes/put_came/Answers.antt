use Rattle.std.proofs.Common.{◌∙◌, Ok, Err}
use Rattle.std.proofs.lemmas.Result.{err_from_is_err_and}
use Rattle.mesh_blocks.specs.Changes.{lines_of}
use Rattle.mesh_blocks.proofs.ChangeTexts.{came_goes, came_stops, came_ends}
use Rattle.mesh_blocks.proofs.changes.put_came.Goals as goal

pub returns-in_err-put_marked-clause-text : goal.returns-in_err-put_marked-clause-text
returns-in_err-put_marked-clause-text g c =
    let p = err_from_is_err_and c.from_residual.result c.from_residual.ensures.1 in
    rw p.1 (c.lines.invariant.text (g.O.Sink.held c.put_marked.new.out) (Err p.0)
    (came_stops c.in-Some.first.now (lines_of c.lines.rest.now) (lines_of c.in-Some.others.now) _ _ c.in-Some.ensures.lines c.in_err-put_marked.ensures.text))

pub lines-preserved : goal.lines-preserved
lines-preserved g c = record {
  text = λ now r q. c.lines.invariant.text now r
      (came_goes c.in-Some.first.now (lines_of c.lines.rest.now) (lines_of c.in-Some.others.now) _ (g.O.Sink.held c.put_marked.new.out) now r c.in-Some.ensures.lines c.in_ok-put_marked.ensures.text q);
  faults = c.in_ok-put_marked.ensures.cause.none ∙ c.lines.invariant.faults;
}

pub returns-clause-text : goal.returns-clause-text
returns-clause-text g c = c.lines.invariant.text (g.O.Sink.held c.lines.out) (Ok tt) (came_ends (lines_of c.lines.rest.now) _ c.in_default.ensures.lines)
