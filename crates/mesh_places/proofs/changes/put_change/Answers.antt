use Rattle.std.proofs.Common.{◌∷◌, [], ◌++◌, refl}
use Rattle.mesh_meaning.specs.Events.{event_of}
use Rattle.mesh_text.specs.Lines.{event_words, words_of}
use Rattle.mesh_report.proofs.Pieces.{two-at-1, two}
use Rattle.mesh_places.proofs.changes.put_change.Goals as goal

pub returns-in_err-put_short-clause-text : goal.returns-in_err-put_short-clause-text
unfolding words_of
returns-in_err-put_short-clause-text g c =
    two-at-1 (g.O.Sink.held c.args.out.now) (g.O.Sink.held c.put_short.new.self) _ (event_words c.args.at.now.mesh (event_of c.args.event) ++ (10 ∷ [])) _ _ c.from_residual.ensures.0 c.in_err-put_short.ensures.text (rw c.short.ensures refl)

pub returns-clause-text : goal.returns-clause-text
unfolding words_of
returns-clause-text g c =
    two (g.O.Sink.held c.args.out.now) (g.O.Sink.held c.put_short.new.self) (g.O.Sink.held c.put_line.new.out) _ _ _ _ c.in_ok-put_short.ensures.text c.put_line.ensures.text (rw (c.short.ensures, c.mesh.ensures.value, c.at.view_is) refl)
