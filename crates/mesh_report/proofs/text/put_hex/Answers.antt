use Rattle.std.proofs.Common.{◌∙◌, Err}
use Rattle.std.proofs.lemmas.Result.{err_from_is_err_and}
use Rattle.mesh_io.proofs.Writing.{AppendsPrefix-more}
use Rattle.mesh_report.proofs.HexBytes.{hex_front_eight}
use Rattle.mesh_report.proofs.Pieces.{two}
use Rattle.mesh_report.proofs.text.put_hex.Goals as goal

pub returns-in_err-put_eight-clause-text : goal.returns-in_err-put_eight-clause-text
returns-in_err-put_eight-clause-text g c =
    let p = err_from_is_err_and c.from_residual.result c.from_residual.ensures.1 in
    rw p.1 (c.loop-rest.invariant.text (g.O.Sink.held c.put_eight.new.out) (Err p.0)
    (AppendsPrefix-more _ _ _ _ _ (hex_front_eight c.loop-rest.rest.now _ _ c.in-len8-up.len_at_least c.eight_digits.ensures c.eight_digits-in-len8-up.ensures) c.in_err-put_eight.ensures.text))

pub loop-rest-preserved : goal.loop-rest-preserved
loop-rest-preserved g c = record {
  text = λ now r p. c.loop-rest.invariant.text now r
      (two (g.O.Sink.held c.loop-rest.out) (g.O.Sink.held c.put_eight.new.out) now _ _ _ r c.in_ok-put_eight.ensures.text p (hex_front_eight c.loop-rest.rest.now _ _ c.in-len8-up.len_at_least c.eight_digits.ensures c.eight_digits-in-len8-up.ensures));
  none = c.in_ok-put_eight.ensures.cause.none ∙ c.loop-rest.invariant.none;
}
