use Rattle.std.proofs.Common.{sym, ap}
use Rattle.mesh_text.specs.Auto.{auto_end}
use Rattle.mesh_report.proofs.Pieces.{two-at-1, two}
use Rattle.mesh_report.proofs.ends.put_auto_end.Goals as goal

pub returns-in_err-put_labelled-clause-text : goal.returns-in_err-put_labelled-clause-text
returns-in_err-put_labelled-clause-text g c =
    two-at-1 (g.O.Sink.held c.args.out.now) (g.O.Sink.held c.put_labelled.new.out) _ _ _ _ c.from_residual.ensures.0 c.in_err-put_labelled.ensures.text (sym (ap auto_end c.from.ensures))

pub returns-clause-text : goal.returns-clause-text
returns-clause-text g c =
    two (g.O.Sink.held c.args.out.now) (g.O.Sink.held c.put_labelled.new.out) (g.O.Sink.held c.put_byte.new.out) _ _ _ _ c.in_ok-put_labelled.ensures.text c.put_byte.ensures.text (sym (ap auto_end c.from.ensures))
