-- What holds in every state of a run with places: its world is the one that the events so far lead to.
use Rattle.std.proofs.Common.{◌≡◌, ℕ, zero, suc, ◌-◌, List, [], ◌∷◌, ◌++◌, Option, Some, None, length, length-append, append_assoc, take, drop, refl, sym, ap, ap₂, subst, ◌∙◌, arith}
use Rattle.std.specs.Prelude.{slice_get}
use Rattle.std.proofs.lemmas.List.{take-append-drop, take_all}
use Rattle.std.proofs.Math.Seq.{take-append_seam}
use Rattle.mesh_base.specs.declared.events.Variant.{Variant}
use Rattle.mesh_base.proofs.Lemmas.Lists.{drop_from}
use Rattle.mesh_model.specs.Worlds.{Event, run, start, first_numbers}
use Rattle.mesh_model.specs.Invariants.{IsLoopSafe}
use Rattle.mesh_model.proofs.Steps.{run_kept as model_kept}
use Rattle.mesh_model.proofs.Acyclic.{no_cycle}
use Rattle.mesh_shell.specs.Pieces.{Piece}
use Rattle.mesh_shell.specs.Fold as shell
use Rattle.mesh_text.specs.Schedule as schedule
use Rattle.mesh_text.specs.Schedule.{world_of}
use Rattle.mesh_text.specs.Runs.{run_state_after, events_after}
use Rattle.mesh_text.specs.Text.{pieces_of_input, LineOutcome, On, Refused, Full}
use Rattle.mesh_text.specs.declared.verdict.Verdict.TheVariants.{Finished, FullAt}
use Rattle.mesh_text.proofs.RunStates.{IsKept, opening_kept}
use Rattle.mesh_text.proofs.RunLaws.{run_append, NotFull}
use Rattle.mesh_text.proofs.RunStateLaws.{world_after_events, mesh_after_events, count_after_events}
use Rattle.mesh_grid.specs.Text.{RunState, opening, outcome_of_piece, next, RunText, goes_on, text_from}
use Rattle.mesh_grid.specs.Runs.{events_of_piece, events_from, events_of_input, prefix_of_input, AreDone, run_state_at, run_within, state_within, IsOfEvents}
use Rattle.mesh_grid.specs.Laws.{StateIsOfEvents, RunStateIsLoopFree}
use Rattle.mesh_grid.proofs.PlaceRuns.{run_follows, run_kept}

-- ---- after the first lines

-- the events of all lines are those of the first and those of the others from there on
Splits : ℕ → RunState → ℕ → List Piece → RunText → Type 0
Splits reach m i pieces w = w.verdict ≡ Finished → events_from reach m pieces ≡ events_from reach m (take i pieces) ++ events_from reach w.after (drop i pieces)

goes_splits : (reach : ℕ) (m : RunState) (piece : Piece) (es : List Event) (c : LineOutcome) (i : ℕ) (pieces : List Piece)
    → ((n : RunState) → Splits reach n i pieces (text_from reach n (take i pieces)))
    → (goes_on m piece c (λ n. text_from reach n (take i pieces))).verdict ≡ Finished
    → es ++ events_after c (λ n. events_from reach (next m piece n) pieces)
    ≡ (es ++ events_after c (λ n. events_from reach (next m piece n) (take i pieces))) ++ events_from reach (goes_on m piece c (λ n. text_from reach n (take i pieces))).after (drop i pieces)
unfolding Splits
goes_splits reach m piece es (On text n) i pieces rest finished =
    ap (λ l. es ++ l) (rest (next m piece n) finished) ∙ sym (append_assoc es (events_from reach (next m piece n) (take i pieces)) _)
goes_splits reach m piece es (Refused why) i pieces rest finished = absurd (let P : ⊥ = cc in P)
goes_splits reach m piece es (Full text n e field) i pieces rest finished = absurd (let P : ⊥ = cc in P)

splits : (reach : ℕ) (m : RunState) (i : ℕ) (pieces : List Piece) → Splits reach m i pieces (text_from reach m (take i pieces))
unfolding Splits shell.text_from events_from
splits reach m zero pieces finished = refl
splits reach m (suc i) [] finished = refl
splits reach m (suc i) (piece ∷ pieces) finished =
    goes_splits reach m piece (events_of_piece reach m piece) (outcome_of_piece reach m piece) i pieces (λ n. splits reach n i pieces) finished

-- a state is reached by all of these events but the rest
record IsReached (v : Variant) (n : schedule.RunState) (all rest : List Event) : Type 0 where
  front : List Event
  world : world_of n ≡ run (start v (first_numbers n.mesh)) front
  count : n.sums.events ≡ length front
  split : all ≡ front ++ rest

front_reached : (reach : ℕ) (v : Variant) (input : List ℕ) (i : ℕ) → AreDone reach v input i
    → IsReached v (run_state_at reach v input i).run (events_of_input reach v input) (events_from reach (run_state_at reach v input i) (drop i (pieces_of_input input)))
unfolding run_state_at events_of_input NotFull Splits
front_reached reach v input i finished =
    let front : List Event = events_from reach (opening v) (take i (pieces_of_input input)) in
    let n : schedule.RunState = (prefix_of_input reach v input i).after.run in
    let is = run_follows reach (opening v) (take i (pieces_of_input input)) (opening_kept v) in
    let all = is.all (λ number full. let clash : Finished ≡ FullAt number = sym finished ∙ full in let P : ⊥ = cc in P) in
    record {
      front = front;
      world = is.world ∙ ap (run (start v (first_numbers n.mesh))) (take_all (n.sums.events - 0) front (omega arith));
      count = omega arith;
      split = splits reach (opening v) i (pieces_of_input input) finished;
    }

-- ---- within the next line

-- a state after more events
reached_more : (v : Variant) (n : schedule.RunState) (all rest es others : List Event) → rest ≡ es ++ others → IsReached v n all rest → IsReached v (run_state_after n es) all others
reached_more v n all rest es others parts is = record {
  front = is.front ++ es;
  world = world_after_events n es ∙ ap (λ w. run w es) is.world ∙ sym (run_append (start v (first_numbers n.mesh)) is.front es)
      ∙ ap (λ mesh. run (start v (first_numbers mesh)) (is.front ++ es)) (sym (mesh_after_events n es));
  count = let count = is.count in omega (arith, count_after_events n es, length-append is.front es);
  split = is.split ∙ ap (λ l. is.front ++ l) parts ∙ sym (append_assoc is.front es others);
}

reached_of_events : (reach : ℕ) (v : Variant) (input : List ℕ) (n : schedule.RunState) (rest : List Event) → IsReached v n (events_of_input reach v input) rest → IsOfEvents reach v input n
reached_of_events reach v input n rest is =
    is.world ∙ ap (run (start v (first_numbers n.mesh))) (sym (ap₂ (λ k es. take k es) is.count is.split ∙ take-append_seam is.front rest))

begun : (reach : ℕ) (m : RunState) (p : Piece) (ps : List Piece) → events_from reach m (p ∷ ps) ≡ events_of_piece reach m p ++ events_after (outcome_of_piece reach m p) (λ n. events_from reach (next m p n) ps)
unfolding events_from
begun reach m p ps = refl

within_of_events : (reach : ℕ) (v : Variant) (input : List ℕ) (m : RunState) (i k : ℕ) (pieces : List Piece) (o : Option Piece) → slice_get pieces i ≡ o
    → IsReached v m.run (events_of_input reach v input) (events_from reach m (drop i pieces)) → IsOfEvents reach v input (run_within reach m o k)
within_of_events reach v input m i k pieces None is reached = reached_of_events reach v input m.run (events_from reach m (drop i pieces)) reached
within_of_events reach v input m i k pieces (Some p) is reached =
    let es : List Event = events_of_piece reach m p in
    let others : List Event = events_after (outcome_of_piece reach m p) (λ n. events_from reach (next m p n) (drop (suc i) pieces)) in
    let parts : es ≡ take k es ++ drop k es = sym (take-append-drop k es) in
    let split : events_from reach m (drop i pieces) ≡ take k es ++ (drop k es ++ others) =
    ap (events_from reach m) (drop_from pieces i p is) ∙ begun reach m p (drop (suc i) pieces) ∙ ap (λ l. l ++ others) parts ∙ append_assoc (take k es) (drop k es) others in
    reached_of_events reach v input (run_state_after m.run (take k es)) (drop k es ++ others)
    (reached_more v m.run (events_of_input reach v input) (events_from reach m (drop i pieces)) (take k es) (drop k es ++ others) split reached)

-- ---- the laws

pub state_is_of_events : StateIsOfEvents
state_is_of_events reach v input i k finished =
    within_of_events reach v input (run_state_at reach v input i) i k (pieces_of_input input) (slice_get (pieces_of_input input) i) refl (front_reached reach v input i finished)

within_safe : (reach : ℕ) (m : RunState) (o : Option Piece) (k : ℕ) → IsLoopSafe (world_of m.run) → IsLoopSafe (world_of (run_within reach m o k))
within_safe reach m None k safe = safe
within_safe reach m (Some p) k safe =
    let es : List Event = take k (events_of_piece reach m p) in
    subst IsLoopSafe (sym (world_after_events m.run es)) (model_kept (world_of m.run) es safe)

state_kept : (reach : ℕ) (v : Variant) (input : List ℕ) (i : ℕ) → IsKept (run_state_at reach v input i).run
unfolding run_state_at
state_kept reach v input i = run_kept reach (opening v) (take i (pieces_of_input input)) (opening_kept v)

pub state_is_loop_free : RunStateIsLoopFree
state_is_loop_free reach v input i k d =
    no_cycle (world_of (state_within reach v input i k)) d (within_safe reach (run_state_at reach v input i) (slice_get (pieces_of_input input) i) k (state_kept reach v input i).invariant.loop_safe)
