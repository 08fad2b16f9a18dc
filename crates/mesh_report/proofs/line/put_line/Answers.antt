use Rattle.std.proofs.Common.{refl}
use Rattle.mesh_report.proofs.Pieces.{two-at-1, two}
use Rattle.mesh_report.proofs.line.put_line.Goals as goal

pub returns-in_err-put_line_words-clause-text : goal.returns-in_err-put_line_words-clause-text
returns-in_err-put_line_words-clause-text g c =
    two-at-1 (g.O.Sink.held c.args.out.now) (g.O.Sink.held c.put_line_words.new.out) _ _ _ _ c.from_residual.ensures.0 c.in_err-put_line_words.ensures.text refl

pub returns-clause-text : goal.returns-clause-text
returns-clause-text g c =
    two (g.O.Sink.held c.args.out.now) (g.O.Sink.held c.put_line_words.new.out) (g.O.Sink.held c.put_byte.new.out) _ _ _ _ c.in_ok-put_line_words.ensures.text c.put_byte.ensures.text refl
