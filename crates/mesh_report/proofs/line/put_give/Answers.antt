use Rattle.std.proofs.Common.{refl}
use Rattle.mesh_report.proofs.Pieces.{two-at-1, two}
use Rattle.mesh_report.proofs.line.put_give.Goals as goal

pub returns-in_err-put_two-clause-text : goal.returns-in_err-put_two-clause-text
returns-in_err-put_two-clause-text g c =
    two-at-1 (g.O.Sink.held c.args.out.now) (g.O.Sink.held c.put_two.new.out) _ _ _ _ c.from_residual.ensures.0 c.in_err-put_two.ensures.text refl

pub returns-clause-text : goal.returns-clause-text
returns-clause-text g c =
    two (g.O.Sink.held c.args.out.now) (g.O.Sink.held c.put_two.new.out) (g.O.Sink.held c.put_word.new.out) _ _ _ _ c.in_ok-put_two.ensures.text c.put_word.ensures.text refl
