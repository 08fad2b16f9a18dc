use Rattle.std.proofs.Common.{rules}
use Rattle.std.proofs.lemmas.Result.{err_from_is_err_and}
use Rattle.mesh_make.specs.Made.{made_schedule}
use Rattle.mesh_make.specs.Making.{still_to_come}
use Rattle.mesh_make.proofs.LineByLine.{goes_on, stops}
use Rattle.mesh_make.proofs.writing.make.Goals as goal

pub loop-maker-preserved : goal.loop-maker-preserved
loop-maker-preserved g c = record {
  making = c.next_lines.ensures.making;
  text = goes_on _ (g.O.Sink.held c.loop-maker.out) _ (made_schedule c.args.seed c.args.nodes c.args.steps) (still_to_come c.loop-maker.maker) (c.next_lines.new.out).items (still_to_come c.next_lines.new.self)
      c.loop-maker.invariant.text c.next_lines.ensures.text (rw c.as_slice.ensures.value at c.in_ok-put_all.ensures.text);
  none = search rules;
}

pub returns-in_err-put_all-clause-text : goal.returns-in_err-put_all-clause-text
returns-in_err-put_all-clause-text g c =
    let p = err_from_is_err_and c.from_residual.result c.from_residual.ensures.1 in
    rw p.1
    (stops (g.O.Sink.held c.args.out.now) (g.O.Sink.held c.loop-maker.out) (g.O.Sink.held c.put_all.new.out) (made_schedule c.args.seed c.args.nodes c.args.steps) (still_to_come c.loop-maker.maker) (c.next_lines.new.out).items (still_to_come c.next_lines.new.self)
    c.loop-maker.invariant.text c.next_lines.ensures.text (rw c.as_slice.ensures.value at c.in_err-put_all.ensures.text))
