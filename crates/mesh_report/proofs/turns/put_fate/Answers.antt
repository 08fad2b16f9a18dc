use Rattle.std.proofs.Common.{refl}
use Rattle.mesh_report.proofs.Pieces.{two-at-1, two}
use Rattle.mesh_report.proofs.turns.put_fate.Goals as goal

pub returns-in_err-put_if_delivered-clause-text : goal.returns-in_err-put_if_delivered-clause-text
returns-in_err-put_if_delivered-clause-text g c =
    two-at-1 (g.O.Sink.held c.args.out.now) (g.O.Sink.held c.put_if_delivered.new.out) _ _ _ _ c.from_residual.ensures.0 c.in_err-put_if_delivered.ensures.text refl

pub returns-clause-text : goal.returns-clause-text
returns-clause-text g c =
    two (g.O.Sink.held c.args.out.now) (g.O.Sink.held c.put_if_delivered.new.out) (g.O.Sink.held c.put_if_dropped.new.out) _ _ _ _ c.in_ok-put_if_delivered.ensures.text c.put_if_dropped.ensures.text refl
