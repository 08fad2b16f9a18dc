use Rattle.std.proofs.Common.{refl}
use Rattle.mesh_text.specs.Lines.{full_line}
use Rattle.mesh_report.proofs.Pieces.{four-at-1, four-at-2, four-at-3, four}
use Rattle.mesh_report.proofs.ends.put_full.Goals as goal

pub returns-in_err-put_refused-clause-text : goal.returns-in_err-put_refused-clause-text
unfolding full_line
returns-in_err-put_refused-clause-text g c =
    four-at-1 (g.O.Sink.held c.args.out.now) (g.O.Sink.held c.put_refused.new.out) _ _ _ _ _ _ c.from_residual.ensures.0 c.in_err-put_refused.ensures.text refl

pub returns-in_err-put_text-clause-text : goal.returns-in_err-put_text-clause-text
unfolding full_line
returns-in_err-put_text-clause-text g c =
    four-at-2 (g.O.Sink.held c.args.out.now) (g.O.Sink.held c.put_refused.new.out) (g.O.Sink.held c.put_text.new.out) _ _ _ _ _ _ c.from_residual-in_err-put_text.ensures.0 c.in_ok-put_refused.ensures.text c.in_err-put_text.ensures.text refl

pub returns-in_err-put_field-clause-text : goal.returns-in_err-put_field-clause-text
unfolding full_line
returns-in_err-put_field-clause-text g c =
    four-at-3 (g.O.Sink.held c.args.out.now) (g.O.Sink.held c.put_refused.new.out) (g.O.Sink.held c.put_text.new.out) (g.O.Sink.held c.put_field.new.out) _ _ _ _ _ _ c.from_residual-in_err-put_field.ensures.0 c.in_ok-put_refused.ensures.text c.in_ok-put_text.ensures.text c.in_err-put_field.ensures.text refl

pub returns-clause-text : goal.returns-clause-text
unfolding full_line
returns-clause-text g c =
    four (g.O.Sink.held c.args.out.now) (g.O.Sink.held c.put_refused.new.out) (g.O.Sink.held c.put_text.new.out) (g.O.Sink.held c.put_field.new.out) (g.O.Sink.held c.put_byte.new.out) _ _ _ _ _ _ c.in_ok-put_refused.ensures.text c.in_ok-put_text.ensures.text c.in_ok-put_field.ensures.text c.put_byte.ensures.text refl
