use Rattle.std.proofs.Common.{◌∙◌, Err}
use Rattle.std.proofs.lemmas.Result.{err_from_is_err_and}
use Rattle.mesh_blocks.specs.Changes.{lines_of}
use Rattle.mesh_blocks.proofs.ChangeTexts.{changes_go, changes_stop, last_came}
use Rattle.mesh_blocks.proofs.changes.put_changes.Goals as goal

pub returns-in_err-left-clause-text : goal.returns-in_err-left-clause-text
returns-in_err-left-clause-text g c =
    let p = err_from_is_err_and c.from_residual.result c.from_residual.ensures.1 in
    rw p.1 (c.lines.invariant.text (g.O.Sink.held c.put_changes_to.new.out) (Err p.0)
    (changes_stop c.in-Some.line.now (lines_of c.lines.rest.now) (lines_of c.in-Some.others.now) (lines_of c.lines.left.now) _ _ c.in-Some.ensures.lines c.in_err-left.ensures.text))

pub lines-preserved : goal.lines-preserved
lines-preserved g c = record {
  text = λ now r q. c.lines.invariant.text now r
      (changes_go c.in-Some.line.now (lines_of c.lines.rest.now) (lines_of c.in-Some.others.now) (lines_of c.lines.left.now) (lines_of c.in_ok-left.left.now) _ (g.O.Sink.held c.put_changes_to.new.out) now r
      c.in-Some.ensures.lines c.in_ok-left.ensures.left c.in_ok-left.ensures.text q);
  faults = c.in_ok-left.ensures.cause.none ∙ c.lines.invariant.faults;
}

pub returns-clause-text : goal.returns-clause-text
returns-clause-text g c =
    c.lines.invariant.text (g.O.Sink.held c.put_came.new.out) c.put_came.result (last_came (lines_of c.lines.rest.now) (lines_of c.lines.left.now) _ _ c.put_came.result c.in_default.ensures.lines c.put_came.ensures.text)
