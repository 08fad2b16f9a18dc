use Rattle.std.proofs.Common.{refl}
use Rattle.std.proofs.Common.{[], ◌∷◌}
use Rattle.mesh_text.specs.Lines.{hex}
use Rattle.mesh_text.specs.Effects.{set_text}
use Rattle.mesh_report.proofs.Pieces.{four-at-1, four-at-2, four-at-3, four}
use Rattle.mesh_report.proofs.casts.put_groupcast.Goals as goal

pub returns-in_err-put_text-clause-text : goal.returns-in_err-put_text-clause-text
returns-in_err-put_text-clause-text g c =
    four-at-1 (g.O.Sink.held c.args.out.now) (g.O.Sink.held c.put_text.new.out) _ (set_text c.args.mesh.now c.args.set.now) (32 ∷ hex c.args.packet.now) (10 ∷ []) _ _ c.from_residual.ensures.0 c.in_err-put_text.ensures.text refl

pub returns-in_err-put_set-clause-text : goal.returns-in_err-put_set-clause-text
returns-in_err-put_set-clause-text g c =
    four-at-2 (g.O.Sink.held c.args.out.now) (g.O.Sink.held c.put_text.new.out) (g.O.Sink.held c.put_set.new.out) _ _ _ _ _ _ c.from_residual-in_err-put_set.ensures.0 c.in_ok-put_text.ensures.text c.in_err-put_set.ensures.text refl

pub returns-in_err-put_hex_word-clause-text : goal.returns-in_err-put_hex_word-clause-text
returns-in_err-put_hex_word-clause-text g c =
    four-at-3 (g.O.Sink.held c.args.out.now) (g.O.Sink.held c.put_text.new.out) (g.O.Sink.held c.put_set.new.out) (g.O.Sink.held c.put_hex_word.new.out) _ _ _ _ _ _ c.from_residual-in_err-put_hex_word.ensures.0 c.in_ok-put_text.ensures.text c.in_ok-put_set.ensures.text c.in_err-put_hex_word.ensures.text refl

pub returns-clause-text : goal.returns-clause-text
returns-clause-text g c =
    four (g.O.Sink.held c.args.out.now) (g.O.Sink.held c.put_text.new.out) (g.O.Sink.held c.put_set.new.out) (g.O.Sink.held c.put_hex_word.new.out) (g.O.Sink.held c.put_byte.new.out) _ _ _ _ _ _ c.in_ok-put_text.ensures.text c.in_ok-put_set.ensures.text c.in_ok-put_hex_word.ensures.text c.put_byte.ensures.text refl
