use Rattle.std.proofs.Common.{refl}
use Rattle.mesh_grammar.specs.Faults.{bad_line}
use Rattle.mesh_report.proofs.Pieces.{four-at-1, four-at-2, four-at-3, four}
use Rattle.mesh_report.proofs.ends.put_bad.Goals as goal

pub returns-in_err-put_labelled-clause-text : goal.returns-in_err-put_labelled-clause-text
unfolding bad_line
returns-in_err-put_labelled-clause-text g c =
    four-at-1 (g.O.Sink.held c.args.out.now) (g.O.Sink.held c.put_labelled.new.out) _ _ _ _ _ _ c.from_residual.ensures.0 c.in_err-put_labelled.ensures.text refl

pub returns-in_err-put_text-clause-text : goal.returns-in_err-put_text-clause-text
unfolding bad_line
returns-in_err-put_text-clause-text g c =
    four-at-2 (g.O.Sink.held c.args.out.now) (g.O.Sink.held c.put_labelled.new.out) (g.O.Sink.held c.put_text.new.out) _ _ _ _ _ _ c.from_residual-in_err-put_text.ensures.0 c.in_ok-put_labelled.ensures.text c.in_err-put_text.ensures.text refl

pub returns-in_err-put_why-clause-text : goal.returns-in_err-put_why-clause-text
unfolding bad_line
returns-in_err-put_why-clause-text g c =
    four-at-3 (g.O.Sink.held c.args.out.now) (g.O.Sink.held c.put_labelled.new.out) (g.O.Sink.held c.put_text.new.out) (g.O.Sink.held c.put_why.new.out) _ _ _ _ _ _ c.from_residual-in_err-put_why.ensures.0 c.in_ok-put_labelled.ensures.text c.in_ok-put_text.ensures.text c.in_err-put_why.ensures.text refl

pub returns-clause-text : goal.returns-clause-text
unfolding bad_line
returns-clause-text g c =
    four (g.O.Sink.held c.args.out.now) (g.O.Sink.held c.put_labelled.new.out) (g.O.Sink.held c.put_text.new.out) (g.O.Sink.held c.put_why.new.out) (g.O.Sink.held c.put_byte.new.out) _ _ _ _ _ _ c.in_ok-put_labelled.ensures.text c.in_ok-put_text.ensures.text c.in_ok-put_why.ensures.text c.put_byte.ensures.text refl
