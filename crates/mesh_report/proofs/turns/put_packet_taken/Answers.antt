use Rattle.std.proofs.Common.{refl}
use Rattle.mesh_report.proofs.Pieces.{three-at-1, three-at-2, three}
use Rattle.mesh_report.proofs.turns.put_packet_taken.Goals as goal

pub returns-in_err-put_kind-clause-text : goal.returns-in_err-put_kind-clause-text
returns-in_err-put_kind-clause-text g c =
    three-at-1 (g.O.Sink.held c.args.out.now) (g.O.Sink.held c.put_kind.new.out) _ _ _ _ _ c.from_residual.ensures.0 c.in_err-put_kind.ensures.text refl

pub returns-in_err-put_name-clause-text : goal.returns-in_err-put_name-clause-text
returns-in_err-put_name-clause-text g c =
    three-at-2 (g.O.Sink.held c.args.out.now) (g.O.Sink.held c.put_kind.new.out) (g.O.Sink.held c.put_name.new.out) _ _ _ _ _ c.from_residual-in_err-put_name.ensures.0 c.in_ok-put_kind.ensures.text c.in_err-put_name.ensures.text refl

pub returns-clause-text : goal.returns-clause-text
returns-clause-text g c =
    three (g.O.Sink.held c.args.out.now) (g.O.Sink.held c.put_kind.new.out) (g.O.Sink.held c.put_name.new.out) (g.O.Sink.held c.put_byte.new.out) _ _ _ _ _ c.in_ok-put_kind.ensures.text c.in_ok-put_name.ensures.text c.put_byte.ensures.text refl
