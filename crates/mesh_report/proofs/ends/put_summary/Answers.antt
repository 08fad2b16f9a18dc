use Rattle.std.proofs.Common.{refl}
use Rattle.mesh_text.specs.Lines.{summary_text}
use Rattle.mesh_report.proofs.Pieces.{two-at-1, two}
use Rattle.mesh_report.proofs.ends.put_summary.Goals as goal

pub returns-in_err-put_places-clause-text : goal.returns-in_err-put_places-clause-text
unfolding summary_text
returns-in_err-put_places-clause-text g c =
    two-at-1 (g.O.Sink.held c.args.out.now) (g.O.Sink.held c.put_places.new.out) _ _ _ _ c.from_residual.ensures.0 c.in_err-put_places.ensures.text refl

pub returns-clause-text : goal.returns-clause-text
unfolding summary_text
returns-clause-text g c =
    two (g.O.Sink.held c.args.out.now) (g.O.Sink.held c.put_places.new.out) (g.O.Sink.held c.put_losses.new.out) _ _ _ _ c.in_ok-put_places.ensures.text c.put_losses.ensures.text refl
