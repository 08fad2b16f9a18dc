use Rattle.std.proofs.Common.{refl}
use Rattle.std.proofs.Common.{ℕ, sym, ap, ◌∷◌, ◌++◌}
use Rattle.std.specs.Prelude.{codes}
use Rattle.std.specs.Fmt.{decimal}
use Rattle.mesh_text.specs.Lines.{name_of}
use Rattle.mesh_text.specs.Tables.{known_text, flag_text}
use Rattle.mesh_report.proofs.Pieces.{three-at-1, three-at-2, three}
use Rattle.mesh_report.proofs.tables.put_route.Goals as goal

pub returns-in_err-put_status-clause-text : goal.returns-in_err-put_status-clause-text
returns-in_err-put_status-clause-text g c =
    three-at-1 (g.O.Sink.held c.args.out.now) (g.O.Sink.held c.put_status.new.out) _ _ _ _ _ c.from_residual.ensures.0 c.in_err-put_status.ensures.text refl

pub returns-in_err-put_decimal-clause-text : goal.returns-in_err-put_decimal-clause-text
returns-in_err-put_decimal-clause-text g c =
    three-at-2 (g.O.Sink.held c.args.out.now) (g.O.Sink.held c.put_status.new.out) (g.O.Sink.held c.put_decimal.new.out) _ _ _ _ _ c.from_residual-in_err-put_decimal.ensures.0 c.in_ok-put_status.ensures.text c.in_err-put_decimal.ensures.text (sym (ap (λ (n : ℕ). codes "  entry " ++ name_of c.args.mesh.now c.args.d ++ 32 ∷ decimal c.args.e.now.dsn ++ known_text c.args.e.now.dsk ++ flag_text c.args.e.now.flag ++ decimal n ++ 32 ∷ name_of c.args.mesh.now c.args.e.now.next) c.from.ensures))

pub returns-clause-text : goal.returns-clause-text
returns-clause-text g c =
    three (g.O.Sink.held c.args.out.now) (g.O.Sink.held c.put_status.new.out) (g.O.Sink.held c.put_decimal.new.out) (g.O.Sink.held c.put_one.new.out) _ _ _ _ _ c.in_ok-put_status.ensures.text c.in_ok-put_decimal.ensures.text c.put_one.ensures.text (sym (ap (λ (n : ℕ). codes "  entry " ++ name_of c.args.mesh.now c.args.d ++ 32 ∷ decimal c.args.e.now.dsn ++ known_text c.args.e.now.dsk ++ flag_text c.args.e.now.flag ++ decimal n ++ 32 ∷ name_of c.args.mesh.now c.args.e.now.next) c.from.ensures))
