use Rattle.std.proofs.Common.{refl}
use Rattle.mesh_report.proofs.Pieces.{three-at-1, three-at-2, three}
use Rattle.mesh_report.proofs.tables.put_flying_view.Goals as goal

pub returns-in_err-put_ends-clause-text : goal.returns-in_err-put_ends-clause-text
returns-in_err-put_ends-clause-text g c =
    three-at-1 (g.O.Sink.held c.args.out.now) (g.O.Sink.held c.put_ends.new.out) _ _ _ _ _ c.from_residual.ensures.0 c.in_err-put_ends.ensures.text refl

pub returns-in_err-put_hex_word-clause-text : goal.returns-in_err-put_hex_word-clause-text
returns-in_err-put_hex_word-clause-text g c =
    three-at-2 (g.O.Sink.held c.args.out.now) (g.O.Sink.held c.put_ends.new.out) (g.O.Sink.held c.put_hex_word.new.out) _ _ _ _ _ c.from_residual-in_err-put_hex_word.ensures.0 c.in_ok-put_ends.ensures.text c.in_err-put_hex_word.ensures.text refl

pub returns-clause-text : goal.returns-clause-text
returns-clause-text g c =
    three (g.O.Sink.held c.args.out.now) (g.O.Sink.held c.put_ends.new.out) (g.O.Sink.held c.put_hex_word.new.out) (g.O.Sink.held c.put_byte.new.out) _ _ _ _ _ c.in_ok-put_ends.ensures.text c.in_ok-put_hex_word.ensures.text c.put_byte.ensures.text refl
