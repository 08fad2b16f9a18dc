use Rattle.std.proofs.Common.{refl}
use Rattle.std.proofs.Common.{ℕ, List, ◌∷◌, ◌++◌, sym, ap}
use Rattle.std.specs.Prelude.{codes}
use Rattle.mesh_grammar.specs.Written.{line}
use Rattle.mesh_text.specs.Lines.{name_of}
use Rattle.mesh_report.specs.Packets.{datum_line}
use Rattle.mesh_report.proofs.Pieces.{three-at-1, three-at-2, three}
use Rattle.mesh_report.proofs.effects.put_lost.Goals as goal

pub returns-in_err-put_two-clause-text : goal.returns-in_err-put_two-clause-text
returns-in_err-put_two-clause-text g c =
    three-at-1 (g.O.Sink.held c.args.out.now) (g.O.Sink.held c.put_two.new.out) _ _ _ _ _ c.from_residual.ensures.0 c.in_err-put_two.ensures.text refl

pub returns-in_err-put_byte-clause-text : goal.returns-in_err-put_byte-clause-text
returns-in_err-put_byte-clause-text g c =
    three-at-2 (g.O.Sink.held c.args.out.now) (g.O.Sink.held c.put_two.new.out) (g.O.Sink.held c.put_byte.new.out) _ _ _ _ _ c.from_residual-in_err-put_byte.ensures.0 c.in_ok-put_two.ensures.text c.in_err-put_byte.ensures.text refl

pub returns-clause-text : goal.returns-clause-text
returns-clause-text g c =
    three (g.O.Sink.held c.args.out.now) (g.O.Sink.held c.put_two.new.out) (g.O.Sink.held c.put_byte.new.out) (g.O.Sink.held c.put_datum_in.new.out) _ _ _ _ _ c.in_ok-put_two.ensures.text c.in_ok-put_byte.ensures.text c.put_datum_in.ensures.text (sym (ap (λ (l : List ℕ). line (codes "  lost " ++ name_of c.args.mesh.now c.args.flying.now.from ++ 32 ∷ name_of c.args.mesh.now c.args.flying.now.to) ++ datum_line (codes "  dropped ") l) c.as_slice.ensures))
