use Rattle.std.proofs.Common.{refl}
use Rattle.mesh_report.proofs.Pieces.{two-at-1, two}
use Rattle.mesh_report.proofs.casts.put_sending.Goals as goal

pub returns-in_err-put_broken-clause-text : goal.returns-in_err-put_broken-clause-text
returns-in_err-put_broken-clause-text g c =
    two-at-1 (g.O.Sink.held c.args.out.now) (g.O.Sink.held c.put_broken.new.out) _ _ _ _ c.from_residual.ensures.0 c.in_err-put_broken.ensures.text refl

pub returns-clause-text : goal.returns-clause-text
returns-clause-text g c =
    two (g.O.Sink.held c.args.out.now) (g.O.Sink.held c.put_broken.new.out) (g.O.Sink.held c.put_cast.new.out) _ _ _ _ c.in_ok-put_broken.ensures.text c.put_cast.ensures.text refl
