use Rattle.std.proofs.Common.{rules, ◌≡◌, ◌++◌, ◌∷◌, [], length, ap, subst, sym, ◌∙◌}
use Rattle.std.specs.Prelude.{IfSome, IfNone}
use Rattle.mesh_radio.specs.Casts.{AreGone, IsLeast}
use Rattle.mesh_radio.proofs.Entries.{insert-last}
use Rattle.mesh_radio.proofs.Changes.{casts-push}
use Rattle.mesh_radio.proofs.Leasts.{kept-least, gone-then}
use Rattle.mesh_radio.proofs.casts.launch.Goals as goal

pub least_or-requires-clause-casts : goal.least_or-requires-clause-casts
least_or-requires-clause-casts c =
    let es = c.args.casts.now.entries in
    let r = c.requires in
    let now = ap (λ m. m.entries) c.insert_entry.ensures.1 ∙ c.in-Ok.ensures.update.1 c.args.cast ∙ insert-last 1 c.args.next es c.args.cast r.casts.rising in
    (_, casts-push es _ c.args.next c.args.cast r.casts (search rules ∙ now) r.some r.left r.alone r.few)

pub least_or-requires-clause-least : goal.least_or-requires-clause-least
least_or-requires-clause-least c =
    let es = c.args.casts.now.entries in
    let r = c.requires in
    let now = ap (λ m. m.entries) c.insert_entry.ensures.1 ∙ c.in-Ok.ensures.update.1 c.args.cast ∙ insert-last 1 c.args.next es c.args.cast r.casts.rising in
    subst (λ xs. IfSome c.args.least (λ l. IsLeast xs l.spot.index l.id l.spot.to)) (sym (search rules ∙ now))
    (kept-least es c.args.next c.args.cast c.args.least r.casts.rising r.casts.lefts r.least)

pub least_or-requires-clause-gone : goal.least_or-requires-clause-gone
least_or-requires-clause-gone c =
    let es = c.args.casts.now.entries in
    let r = c.requires in
    let now = ap (λ m. m.entries) c.insert_entry.ensures.1 ∙ c.in-Ok.ensures.update.1 c.args.cast ∙ insert-last 1 c.args.next es c.args.cast r.casts.rising in
    let long : length es ≡ c.len-index.result = search rules in
    subst (λ xs. IfNone c.args.least (AreGone xs c.len-index.result)) (sym (search rules ∙ now))
    (subst (λ n. IfNone c.args.least (AreGone (es ++ (c.args.next, c.args.cast) ∷ []) n)) long (gone-then es c.args.next c.args.cast c.args.least r.casts.rising r.least))

pub returns-clause-entries : goal.returns-clause-entries
returns-clause-entries c =
    search rules ∙ ap (λ m. m.entries) c.insert_entry.ensures.1 ∙ c.in-Ok.ensures.update.1 c.args.cast ∙ insert-last 1 c.args.next c.args.casts.now.entries c.args.cast c.requires.casts.rising

pub returns-clause-casts : goal.returns-clause-casts
returns-clause-casts c =
    let es = c.args.casts.now.entries in
    let r = c.requires in
    let now = ap (λ m. m.entries) c.insert_entry.ensures.1 ∙ c.in-Ok.ensures.update.1 c.args.cast ∙ insert-last 1 c.args.next es c.args.cast r.casts.rising in
    casts-push es _ c.args.next c.args.cast r.casts (search rules ∙ now) r.some r.left r.alone r.few
