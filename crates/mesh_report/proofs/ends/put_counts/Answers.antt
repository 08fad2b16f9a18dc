use Rattle.std.proofs.Common.{refl}
use Rattle.mesh_report.proofs.Pieces.{four-at-1, four-at-2, four-at-3, four}
use Rattle.mesh_report.proofs.ends.put_counts.Goals as goal

pub returns-in_err-put_labelled-clause-text : goal.returns-in_err-put_labelled-clause-text
returns-in_err-put_labelled-clause-text g c =
    four-at-1 (g.O.Sink.held c.args.out.now) (g.O.Sink.held c.put_labelled.new.out) _ _ _ _ _ _ c.from_residual.ensures.0 c.in_err-put_labelled.ensures.text refl

pub returns-in_err-put_labelled-2-clause-text : goal.returns-in_err-put_labelled-2-clause-text
returns-in_err-put_labelled-2-clause-text g c =
    four-at-2 (g.O.Sink.held c.args.out.now) (g.O.Sink.held c.put_labelled.new.out) (g.O.Sink.held c.put_labelled-2.new.out) _ _ _ _ _ _ c.from_residual-in_err-put_labelled-2.ensures.0 c.in_ok-put_labelled.ensures.text c.in_err-put_labelled-2.ensures.text refl

pub returns-in_err-put_labelled-3-clause-text : goal.returns-in_err-put_labelled-3-clause-text
returns-in_err-put_labelled-3-clause-text g c =
    four-at-3 (g.O.Sink.held c.args.out.now) (g.O.Sink.held c.put_labelled.new.out) (g.O.Sink.held c.put_labelled-2.new.out) (g.O.Sink.held c.put_labelled-3.new.out) _ _ _ _ _ _ c.from_residual-in_err-put_labelled-3.ensures.0 c.in_ok-put_labelled.ensures.text c.in_ok-put_labelled-2.ensures.text c.in_err-put_labelled-3.ensures.text refl

pub returns-clause-text : goal.returns-clause-text
returns-clause-text g c =
    four (g.O.Sink.held c.args.out.now) (g.O.Sink.held c.put_labelled.new.out) (g.O.Sink.held c.put_labelled-2.new.out) (g.O.Sink.held c.put_labelled-3.new.out) (g.O.Sink.held c.put_labelled-4.new.out) _ _ _ _ _ _ c.in_ok-put_labelled.ensures.text c.in_ok-put_labelled-2.ensures.text c.in_ok-put_labelled-3.ensures.text c.put_labelled-4.ensures.text refl
