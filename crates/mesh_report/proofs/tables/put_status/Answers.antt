use Rattle.std.proofs.Common.{refl}
use Rattle.std.proofs.Common.{ℕ, sym, ap, ◌∷◌, ◌++◌}
use Rattle.std.specs.Prelude.{codes}
use Rattle.std.specs.Fmt.{decimal}
use Rattle.mesh_text.specs.Lines.{name_of}
use Rattle.mesh_text.specs.Tables.{known_text, flag_text}
use Rattle.mesh_report.proofs.Pieces.{four-at-1, four-at-2, four-at-3, four}
use Rattle.mesh_report.proofs.tables.put_status.Goals as goal

pub returns-in_err-put_one-clause-text : goal.returns-in_err-put_one-clause-text
returns-in_err-put_one-clause-text g c =
    four-at-1 (g.O.Sink.held c.args.out.now) (g.O.Sink.held c.put_one.new.out) _ _ _ _ _ _ c.from_residual.ensures.0 c.in_err-put_one.ensures.text refl

pub returns-in_err-put_labelled-clause-text : goal.returns-in_err-put_labelled-clause-text
returns-in_err-put_labelled-clause-text g c =
    four-at-2 (g.O.Sink.held c.args.out.now) (g.O.Sink.held c.put_one.new.out) (g.O.Sink.held c.put_labelled.new.out) _ _ _ _ _ _ c.from_residual-in_err-put_labelled.ensures.0 c.in_ok-put_one.ensures.text c.in_err-put_labelled.ensures.text (sym (ap (λ (n : ℕ). codes "  entry " ++ name_of c.args.mesh.now c.args.d ++ 32 ∷ decimal n ++ known_text c.args.e.now.dsk ++ flag_text c.args.e.now.flag) c.from.ensures))

pub returns-in_err-put_known-clause-text : goal.returns-in_err-put_known-clause-text
returns-in_err-put_known-clause-text g c =
    four-at-3 (g.O.Sink.held c.args.out.now) (g.O.Sink.held c.put_one.new.out) (g.O.Sink.held c.put_labelled.new.out) (g.O.Sink.held c.put_known.new.out) _ _ _ _ _ _ c.from_residual-in_err-put_known.ensures.0 c.in_ok-put_one.ensures.text c.in_ok-put_labelled.ensures.text c.in_err-put_known.ensures.text (sym (ap (λ (n : ℕ). codes "  entry " ++ name_of c.args.mesh.now c.args.d ++ 32 ∷ decimal n ++ known_text c.args.e.now.dsk ++ flag_text c.args.e.now.flag) c.from.ensures))

pub returns-clause-text : goal.returns-clause-text
returns-clause-text g c =
    four (g.O.Sink.held c.args.out.now) (g.O.Sink.held c.put_one.new.out) (g.O.Sink.held c.put_labelled.new.out) (g.O.Sink.held c.put_known.new.out) (g.O.Sink.held c.put_flag.new.out) _ _ _ _ _ _ c.in_ok-put_one.ensures.text c.in_ok-put_labelled.ensures.text c.in_ok-put_known.ensures.text c.put_flag.ensures.text (sym (ap (λ (n : ℕ). codes "  entry " ++ name_of c.args.mesh.now c.args.d ++ 32 ∷ decimal n ++ known_text c.args.e.now.dsk ++ flag_text c.args.e.now.flag) c.from.ensures))
