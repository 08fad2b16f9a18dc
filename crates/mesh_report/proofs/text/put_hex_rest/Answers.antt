use Rattle.mesh_report.proofs.HexBytes.{hex_front}
use Rattle.mesh_report.proofs.Pieces.{two, two-at-1}
use Rattle.mesh_report.proofs.text.put_hex_rest.Goals as goal

pub returns-in_err-put_four-clause-text : goal.returns-in_err-put_four-clause-text
returns-in_err-put_four-clause-text g c =
    two-at-1 (g.O.Sink.held c.args.out.now) (g.O.Sink.held c.put_four.new.out) _ _ _ _ c.from_residual.ensures.0 c.in_err-put_four.ensures.text
    (hex_front c.args.bytes.now c.in-len4-up.len_at_least)

pub returns-clause-text : goal.returns-clause-text
returns-clause-text g c =
    two (g.O.Sink.held c.args.out.now) (g.O.Sink.held c.put_four.new.out) (g.O.Sink.held c.put_hex_bytes-2.new.out) _ _ _ _ c.in_ok-put_four.ensures.text c.put_hex_bytes-2.ensures.text
    (hex_front c.args.bytes.now c.in-len4-up.len_at_least)
