use Rattle.std.proofs.Common.{refl, arith}
use Rattle.mesh_report.proofs.Decimals.{last_four}
use Rattle.mesh_report.proofs.Pieces.{two, two-at-1}
use Rattle.mesh_report.proofs.text.+put_decimal.Goals as goal

pub returns-in_err-put_decimal-clause-text : goal.returns-in_err-put_decimal-clause-text
returns-in_err-put_decimal-clause-text g n c =
    two-at-1 (g.O.Sink.held c.args.out.now) (g.O.Sink.held c.put_decimal.new.out) _ _ _ _ c.from_residual.ensures.0 c.in_err-put_decimal.ensures.text
    (last_four c.args.n _ (omega arith) (omega arith) refl)

pub returns-clause-text : goal.returns-clause-text
returns-clause-text g n c =
    two (g.O.Sink.held c.args.out.now) (g.O.Sink.held c.put_decimal.new.out) (g.O.Sink.held c.put_text.new.out) _ _ _ _ c.in_ok-put_decimal.ensures.text c.put_text.ensures.text
    (last_four c.args.n _ (omega arith) (omega arith) c.four_digits.ensures)
