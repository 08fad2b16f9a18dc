use Rattle.std.proofs.Common.{refl}
use Rattle.mesh_report.proofs.Pieces.{two-at-1, two}
use Rattle.mesh_report.proofs.text.put_set_word.Goals as goal

pub returns-in_err-put_byte-clause-text : goal.returns-in_err-put_byte-clause-text
returns-in_err-put_byte-clause-text g c =
    two-at-1 (g.O.Sink.held c.args.out.now) (g.O.Sink.held c.put_byte.new.out) _ _ _ _ c.from_residual.ensures.0 c.in_err-put_byte.ensures.text refl

pub returns-clause-text : goal.returns-clause-text
returns-clause-text g c =
    two (g.O.Sink.held c.args.out.now) (g.O.Sink.held c.put_byte.new.out) (g.O.Sink.held c.put_set.new.out) _ _ _ _ c.in_ok-put_byte.ensures.text c.put_set.ensures.text refl
