use Rattle.std.proofs.Common.{◌∙◌, Ok, Err, sym, ap}
use Rattle.std.proofs.lemmas.Result.{err_from_is_err_and}
use Rattle.mesh_blocks.specs.Changes.{lines_of, lines_behind}
use Rattle.mesh_blocks.proofs.ChangeTexts.{before_ends, before_goes, before_stops, before_none, behind_here, behind_on}
use Rattle.mesh_blocks.proofs.changes.put_came_before.Goals as goal

pub returns-then-eq-clause-text : goal.returns-then-eq-clause-text
returns-then-eq-clause-text g c =
    c.lines.invariant.text (g.O.Sink.held c.lines.out) (Ok tt)
    (before_ends c.args.line.now c.in-Some.first.now (lines_of c.lines.rest.now) (lines_of c.in-Some.others.now) _ c.in-Some.ensures.lines (sym c.eq.ensures ∙ c.if-eq.true))

pub returns-then-eq-clause-rest : goal.returns-then-eq-clause-rest
returns-then-eq-clause-rest g c =
    sym (behind_here c.args.line.now c.in-Some.first.now (lines_of c.lines.rest.now) (lines_of c.in-Some.others.now) c.in-Some.ensures.lines (sym c.eq.ensures ∙ c.if-eq.true)) ∙ c.lines.invariant.behind

pub returns-in_err-put_marked-clause-text : goal.returns-in_err-put_marked-clause-text
returns-in_err-put_marked-clause-text g c =
    let p = err_from_is_err_and c.from_residual.result c.from_residual.ensures.1 in
    rw p.1 (c.lines.invariant.text (g.O.Sink.held c.put_marked.new.out) (Err p.0)
    (before_stops c.args.line.now c.in-Some.first.now (lines_of c.lines.rest.now) (lines_of c.in-Some.others.now) _ _ c.in-Some.ensures.lines (sym c.eq.ensures ∙ c.if-eq.false) c.in_err-put_marked.ensures.text))

pub lines-preserved : goal.lines-preserved
lines-preserved g c =
    let other = sym c.eq.ensures ∙ c.if-eq.false in
    record {
      text = λ now r q. c.lines.invariant.text now r
          (before_goes c.args.line.now c.in-Some.first.now (lines_of c.lines.rest.now) (lines_of c.in-Some.others.now) _ (g.O.Sink.held c.put_marked.new.out) now r c.in-Some.ensures.lines other c.in_ok-put_marked.ensures.text q);
      behind = sym (behind_on c.args.line.now c.in-Some.first.now (lines_of c.lines.rest.now) (lines_of c.in-Some.others.now) c.in-Some.ensures.lines other) ∙ c.lines.invariant.behind;
      faults = c.in_ok-put_marked.ensures.cause.none ∙ c.lines.invariant.faults;
    }

pub returns-clause-text : goal.returns-clause-text
returns-clause-text g c = c.lines.invariant.text (g.O.Sink.held c.lines.out) (Ok tt) (before_none c.args.line.now (lines_of c.lines.rest.now) _ c.in_default.ensures.lines)

pub returns-clause-rest : goal.returns-clause-rest
returns-clause-rest g c = c.in_default.ensures.lines ∙ sym (ap (lines_behind c.args.line.now) c.in_default.ensures.lines) ∙ c.lines.invariant.behind
