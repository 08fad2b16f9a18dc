use Rattle.std.proofs.Common.{refl}
use Rattle.mesh_text.specs.Tables.{waits_line}
use Rattle.mesh_report.proofs.Pieces.{four-at-1, four-at-2, four-at-3, four}
use Rattle.mesh_report.proofs.tables.put_waits.Goals as goal

pub returns-in_err-put_one-clause-text : goal.returns-in_err-put_one-clause-text
unfolding waits_line
returns-in_err-put_one-clause-text g c =
    four-at-1 (g.O.Sink.held c.args.out.now) (g.O.Sink.held c.put_one.new.out) _ _ _ _ _ _ c.from_residual.ensures.0 c.in_err-put_one.ensures.text refl

pub returns-in_err-put_req-clause-text : goal.returns-in_err-put_req-clause-text
unfolding waits_line
returns-in_err-put_req-clause-text g c =
    four-at-2 (g.O.Sink.held c.args.out.now) (g.O.Sink.held c.put_one.new.out) (g.O.Sink.held c.put_req.new.out) _ _ _ _ _ _ c.from_residual-in_err-put_req.ensures.0 c.in_ok-put_one.ensures.text c.in_err-put_req.ensures.text refl

pub returns-in_err-put_decimal-clause-text : goal.returns-in_err-put_decimal-clause-text
unfolding waits_line
returns-in_err-put_decimal-clause-text g c =
    four-at-3 (g.O.Sink.held c.args.out.now) (g.O.Sink.held c.put_one.new.out) (g.O.Sink.held c.put_req.new.out) (g.O.Sink.held c.put_decimal.new.out) _ _ _ _ _ _ c.from_residual-in_err-put_decimal.ensures.0 c.in_ok-put_one.ensures.text c.in_ok-put_req.ensures.text c.in_err-put_decimal.ensures.text refl

pub returns-clause-text : goal.returns-clause-text
unfolding waits_line
returns-clause-text g c =
    four (g.O.Sink.held c.args.out.now) (g.O.Sink.held c.put_one.new.out) (g.O.Sink.held c.put_req.new.out) (g.O.Sink.held c.put_decimal.new.out) (g.O.Sink.held c.put_byte.new.out) _ _ _ _ _ _ c.in_ok-put_one.ensures.text c.in_ok-put_req.ensures.text c.in_ok-put_decimal.ensures.text c.put_byte.ensures.text refl
