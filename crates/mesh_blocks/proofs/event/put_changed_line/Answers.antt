use Rattle.std.proofs.Common.{ℕ, List, [], ◌∷◌, refl}
use Rattle.std.specs.Prelude.{codes}
use Rattle.mesh_text.specs.Lines.{name_of}
use Rattle.mesh_report.proofs.Pieces.{three-at-1, three-at-2, three}
use Rattle.mesh_blocks.proofs.event.put_changed_line.Goals as goal

pub returns-in_err-put_short-clause-text : goal.returns-in_err-put_short-clause-text
returns-in_err-put_short-clause-text g c =
    three-at-1 (g.O.Sink.held c.args.out.now) (g.O.Sink.held c.put_short.new.self) _ (name_of c.args.mesh.now c.args.node) (10 ∷ []) _ _ c.from_residual.ensures.0 c.in_err-put_short.ensures.text (rw c.short.ensures refl)

pub returns-in_err-put_short-2-clause-text : goal.returns-in_err-put_short-2-clause-text
returns-in_err-put_short-2-clause-text g c =
    three-at-2 (g.O.Sink.held c.args.out.now) (g.O.Sink.held c.put_short.new.self) (g.O.Sink.held c.put_short-2.new.self) _ _ (10 ∷ []) _ _ c.from_residual-in_err-put_short-2.ensures.0 c.in_ok-put_short.ensures.text c.in_err-put_short-2.ensures.text
    (rw (c.short.ensures, c.name.ensures) refl)

pub returns-clause-text : goal.returns-clause-text
returns-clause-text g c =
    three (g.O.Sink.held c.args.out.now) (g.O.Sink.held c.put_short.new.self) (g.O.Sink.held c.put_short-2.new.self) (g.O.Sink.held c.put_short-3.new.self) _ _ _ _ _ c.in_ok-put_short.ensures.text c.in_ok-put_short-2.ensures.text c.put_short-3.ensures.text
    (rw (c.short.ensures, c.name.ensures, c.short-2.ensures) refl)
