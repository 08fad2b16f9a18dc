use Rattle.std.proofs.Common.{◌∙◌, Ok, Err, refl}
use Rattle.std.proofs.lemmas.Result.{err_from_is_err_and}
use Rattle.mesh_text.specs.Effects.{shown_byte}
use Rattle.mesh_report.proofs.Each.{each-goes, each-front, each-ends}
use Rattle.mesh_report.proofs.text.put_shown.Goals as goal

pub loop-b-init : goal.loop-b-init
loop-b-init g c = record { text = λ now r p. p; none = refl }

pub returns-in_err-put_shown_byte-clause-text : goal.returns-in_err-put_shown_byte-clause-text
returns-in_err-put_shown_byte-clause-text g c =
    let p = err_from_is_err_and c.from_residual.result c.from_residual.ensures.1 in
    rw p.1 (c.loop-b.invariant.text (g.O.Sink.held c.put_shown_byte.new.out) (Err p.0)
    (each-front shown_byte c.args.body.now c.loop-b.b-index _ _ c.loop-b-test.true c.in_err-put_shown_byte.ensures.text))

pub loop-b-preserved : goal.loop-b-preserved
loop-b-preserved g c = record {
  text = λ now r p. c.loop-b.invariant.text now r
      (each-goes shown_byte c.args.body.now c.loop-b.b-index (g.O.Sink.held c.loop-b.out) (g.O.Sink.held c.put_shown_byte.new.out) now r c.loop-b-test.true c.in_ok-put_shown_byte.ensures.text p);
  none = c.in_ok-put_shown_byte.ensures.cause.none ∙ c.loop-b.invariant.none;
}

pub returns-clause-text : goal.returns-clause-text
returns-clause-text g c = c.loop-b.invariant.text _ (Ok tt) (each-ends shown_byte c.args.body.now c.loop-b.b-index _ c.loop-b-test.false)
