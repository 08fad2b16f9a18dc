-- A line that is done once the run has started.
use Rattle.std.proofs.Common.{◌≡◌, ℕ, true, false, Bool, is_some, List, Option, Some, None, refl, sym, ap, subst, ◌∙◌}
use Rattle.std.specs.Option.{unwrap_or}
use Rattle.std.specs.Io.KnownBytes.{Appends}
use Rattle.mesh_io.specs.Puts.{AppendsPrefix}
use Rattle.mesh_model.specs.Worlds.{start, first_numbers}
use Rattle.mesh_text.specs.Schedule.{RunState, with_world, with_line_read}
use Rattle.mesh_text.specs.Text.{On, outcome_of_line, text_in}
use Rattle.mesh_run.specs.declared.show.Shown.{Shown}
use Rattle.mesh_run.specs.declared.show.Shown.TheVariants as shown
use Rattle.mesh_run.specs.Runs.{output_if, line_of_shown, IsLineDone}
use Rattle.mesh_run.proofs.Shown.{shown_none}

-- a run that has started is as one that starts
pub started_same : (m : RunState) → is_some m.world ≡ true → m ≡ with_world m
started_same m h = by_world m.world refl h
  where
    by_world : (o : Option _) → m.world ≡ o → is_some o ≡ true → m ≡ with_world m
    by_world None e h = absurd (let P : ⊥ = cc in P)
    by_world (Some w) e h = ap (λ o. record m { world = o }) (e ∙ ap Some (sym (ap (λ o. unwrap_or o (start m.variant (first_numbers m.mesh))) e)))

-- ---- a line that shows something

shows_on : (m : RunState) (what : Shown) → outcome_of_line m (line_of_shown what) ≡ On (text_in (outcome_of_line m (line_of_shown what))) (with_line_read (with_world m))
unfolding outcome_of_line
shows_on m (shown.Node node) = refl
shows_on m (shown.Route node dest) = refl
shows_on m shown.Flight = refl

-- nothing of it is written where it isn't said
pub shows_unsaid : (say : Bool) (m : RunState) (what : Shown) (a : Option (List ℕ)) → say ≡ false → is_some m.world ≡ true → IsLineDone say (outcome_of_line m (line_of_shown what)) (with_line_read m) a a
shows_unsaid say m what a is some =
    subst (λ q. IsLineDone q (outcome_of_line m (line_of_shown what)) (with_line_read m) a a) (sym is) (record {
      text = text_in (outcome_of_line m (line_of_shown what));
      is = shows_on m what ∙ ap (λ k. On (text_in (outcome_of_line m (line_of_shown what))) (with_line_read k)) (sym (started_same m some));
      grown = shown_none false a;
    })

-- all of it is written where it is
pub shows_whole_line : (say : Bool) (m n : RunState) (what : Shown) (a b : Option (List ℕ)) → say ≡ true → is_some m.world ≡ true → n ≡ m → Appends a b (text_in (outcome_of_line m (line_of_shown what)))
    → IsLineDone say (outcome_of_line m (line_of_shown what)) (with_line_read n) a b
shows_whole_line say m n what a b is some same p =
    subst (λ q. IsLineDone q (outcome_of_line m (line_of_shown what)) (with_line_read n) a b) (sym is) (record {
      text = text_in (outcome_of_line m (line_of_shown what));
      is = shows_on m what ∙ ap (λ k. On (text_in (outcome_of_line m (line_of_shown what))) (with_line_read k)) (sym (same ∙ started_same m some));
      grown = p;
    })

pub shows_part : (say : Bool) (m : RunState) (what : Shown) (a b : Option (List ℕ)) → say ≡ true → AppendsPrefix a b (text_in (outcome_of_line m (line_of_shown what)))
    → AppendsPrefix a b (output_if say (text_in (outcome_of_line m (line_of_shown what))))
shows_part say m what a b is p = subst (λ q. AppendsPrefix a b (output_if q (text_in (outcome_of_line m (line_of_shown what))))) (sym is) p
