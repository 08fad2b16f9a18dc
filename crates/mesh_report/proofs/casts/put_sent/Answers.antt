use Rattle.std.proofs.Common.{refl}
use Rattle.mesh_report.proofs.Pieces.{two-at-1, two}
use Rattle.mesh_report.proofs.casts.put_sent.Goals as goal

pub returns-in_err-put_sending-clause-text : goal.returns-in_err-put_sending-clause-text
returns-in_err-put_sending-clause-text g c =
    two-at-1 (g.O.Sink.held c.args.out.now) (g.O.Sink.held c.put_sending.new.out) _ _ _ _ c.from_residual.ensures.0 c.in_err-put_sending.ensures.text refl

pub returns-clause-text : goal.returns-clause-text
returns-clause-text g c =
    two (g.O.Sink.held c.args.out.now) (g.O.Sink.held c.put_sending.new.out) (g.O.Sink.held c.put_air.new.out) _ _ _ _ c.in_ok-put_sending.ensures.text c.put_air.ensures.text refl
