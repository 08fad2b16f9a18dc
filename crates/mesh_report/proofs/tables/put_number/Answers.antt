use Rattle.std.proofs.Common.{refl}
use Rattle.std.proofs.Common.{ℕ, List, [], ◌∷◌, sym, ap}
use Rattle.std.specs.Fmt.{decimal}
use Rattle.mesh_text.specs.Tables.{number_line}
use Rattle.mesh_report.proofs.Pieces.{four-at-1, four-at-2, four-at-3, four}
use Rattle.mesh_report.proofs.tables.put_number.Goals as goal

pub returns-in_err-put_text-clause-text : goal.returns-in_err-put_text-clause-text
unfolding number_line
returns-in_err-put_text-clause-text g c =
    four-at-1 (g.O.Sink.held c.args.out.now) (g.O.Sink.held c.put_text.new.out) _ c.args.label.now (32 ∷ decimal c.args.n) (10 ∷ []) _ _ c.from_residual.ensures.0 c.in_err-put_text.ensures.text refl

pub returns-in_err-put_all-clause-text : goal.returns-in_err-put_all-clause-text
unfolding number_line
returns-in_err-put_all-clause-text g c =
    four-at-2 (g.O.Sink.held c.args.out.now) (g.O.Sink.held c.put_text.new.out) (g.O.Sink.held c.put_all.new.out) _ _ (32 ∷ decimal c.args.n) _ _ _ c.from_residual-in_err-put_all.ensures.0 c.in_ok-put_text.ensures.text c.in_err-put_all.ensures.text (sym (ap (λ (l : List ℕ). number_line l c.args.n) c.as_bytes.ensures.value))

pub returns-in_err-put_labelled-clause-text : goal.returns-in_err-put_labelled-clause-text
unfolding number_line
returns-in_err-put_labelled-clause-text g c =
    four-at-3 (g.O.Sink.held c.args.out.now) (g.O.Sink.held c.put_text.new.out) (g.O.Sink.held c.put_all.new.out) (g.O.Sink.held c.put_labelled.new.out) _ _ _ _ _ _ c.from_residual-in_err-put_labelled.ensures.0 c.in_ok-put_text.ensures.text c.in_ok-put_all.ensures.text c.in_err-put_labelled.ensures.text (sym (ap (λ (l : List ℕ). number_line l c.args.n) c.as_bytes.ensures.value))

pub returns-clause-text : goal.returns-clause-text
unfolding number_line
returns-clause-text g c =
    four (g.O.Sink.held c.args.out.now) (g.O.Sink.held c.put_text.new.out) (g.O.Sink.held c.put_all.new.out) (g.O.Sink.held c.put_labelled.new.out) (g.O.Sink.held c.put_byte.new.out) _ _ _ _ _ _ c.in_ok-put_text.ensures.text c.in_ok-put_all.ensures.text c.in_ok-put_labelled.ensures.text c.put_byte.ensures.text (sym (ap (λ (l : List ℕ). number_line l c.args.n) c.as_bytes.ensures.value))
