-- What holds in every state of a run: its world is the one that the events so far lead to.
use Rattle.std.proofs.Common.{◌≡◌, ℕ, zero, suc, ◌+◌, ◌-◌, List, [], ◌∷◌, ◌++◌, Option, Some, None, length, length-append, append_assoc, take, drop, refl, sym, ap, subst, ◌∙◌, arith, true, inl, inr}
use Rattle.std.specs.Prelude.{slice_get, is_some}
use Rattle.std.proofs.lemmas.List.{take-append-drop, take_all}
use Rattle.std.proofs.Math.Seq.{take-append_seam}
use Rattle.mesh_base.specs.declared.events.Variant.{Variant}
use Rattle.mesh_base.proofs.Lemmas.Lists.{drop_from}
use Rattle.mesh_model.specs.Worlds.{Event, run, start, first_numbers}
use Rattle.mesh_model.specs.Invariants.{IsLoopSafe}
use Rattle.mesh_model.proofs.Steps.{run_kept}
use Rattle.mesh_model.proofs.Acyclic.{no_cycle}
use Rattle.mesh_shell.specs.Pieces.{Piece}
use Rattle.mesh_shell.specs.Fold as shell
use Rattle.mesh_text.specs.Schedule.{RunState, opening, world_of, next_state, with_line_read}
use Rattle.mesh_text.specs.Lines.{done_line}
use Rattle.mesh_text.specs.Text.{pieces_of_input, LineOutcome, On, Refused, Full, outcome_of_piece, RunText, goes_on, text_from}
use Rattle.mesh_text.specs.declared.verdict.Verdict.TheVariants.{Finished, FullAt}
use Rattle.mesh_text.specs.Runs.{events_of_piece, events_after, events_from, events_of_input, run_state_after, state_in_next, prefix_of_input, run_state_at}
use Rattle.mesh_text.specs.Laws.{StateIsOfRun, RunStateIsLoopFree, LastLineIsOfLastState}
use Rattle.mesh_text.proofs.RunStates.{IsKept, opening_kept, text_kept, UsualList, stepped_kept}
use Rattle.mesh_text.proofs.RunLaws.{run_append, NotFull, Follows, follows, GoesBy}

-- ---- after events

pub world_after_events : (m : RunState) (es : List Event) → world_of (run_state_after m es) ≡ run (world_of m) es
unfolding run_state_after next_state run
world_after_events m [] = refl
world_after_events m (e ∷ es) = world_after_events (next_state m e) es

pub mesh_after_events : (m : RunState) (es : List Event) → (run_state_after m es).mesh ≡ m.mesh
unfolding run_state_after next_state
mesh_after_events m [] = refl
mesh_after_events m (e ∷ es) = mesh_after_events (next_state m e) es

pub count_after_events : (m : RunState) (es : List Event) → (run_state_after m es).sums.events ≡ m.sums.events + length es
unfolding run_state_after next_state
count_after_events m [] = omega arith
count_after_events m (e ∷ es) = let rest = count_after_events (next_state m e) es in omega arith

pub steps_after_events : (m : RunState) (es : List Event) → (run_state_after m es).steps ≡ m.steps + length es
unfolding run_state_after next_state
steps_after_events m [] = omega arith
steps_after_events m (e ∷ es) = let rest = steps_after_events (next_state m e) es in omega arith

pub variant_after_events : (m : RunState) (es : List Event) → (run_state_after m es).variant ≡ m.variant
unfolding run_state_after next_state
variant_after_events m [] = refl
variant_after_events m (e ∷ es) = variant_after_events (next_state m e) es

pub made_after_events : (m : RunState) (es : List Event) → is_some m.world ≡ true → is_some (run_state_after m es).world ≡ true
unfolding run_state_after next_state
made_after_events m [] made = made
made_after_events m (e ∷ es) made = made_after_events (next_state m e) es refl

pub kept_after_events : (m : RunState) (es : List Event) → UsualList (length m.mesh) es → IsKept m → IsKept (run_state_after m es)
unfolding run_state_after UsualList next_state
kept_after_events m [] usual is = is
kept_after_events m (e ∷ es) usual is = kept_after_events (next_state m e) es usual.1 (stepped_kept m e usual.0 is)

-- a line that does these events goes by them
pub events_go : (m : RunState) (es : List Event) (text : List ℕ) → GoesBy m es (On text (with_line_read (run_state_after m es)))
unfolding GoesBy run_state_after next_state
events_go m [] text = inl (record { variant = refl; mesh = λ _. refl; world = refl; none = refl; count = refl })
events_go m (e ∷ es) text = inr (record {
  variant = variant_after_events m (e ∷ es);
  mesh = mesh_after_events m (e ∷ es);
  made = made_after_events (next_state m e) es refl;
  world = world_after_events m (e ∷ es);
  count = count_after_events m (e ∷ es);
})

-- ---- in a state

-- the state is reached by all of these events but the rest
record IsReached (v : Variant) (n : RunState) (all rest : List Event) : Type 0 where
  es : List Event
  world : world_of n ≡ run (start v (first_numbers n.mesh)) es
  count : n.sums.events ≡ length es
  split : all ≡ es ++ rest

reached_by : (v : Variant) (n : RunState) (all rest : List Event) → IsReached v n all rest
    → world_of n ≡ run (start v (first_numbers n.mesh)) (take n.sums.events all)
reached_by v n all rest is =
    let taken : take n.sums.events all ≡ is.es =
    ap (λ k. take k all) is.count ∙ ap (take (length is.es)) is.split ∙ take-append_seam is.es rest in
    is.world ∙ ap (run (start v (first_numbers n.mesh))) (sym taken)

reached_more : (v : Variant) (n : RunState) (all rest es others : List Event) → rest ≡ es ++ others → IsReached v n all rest
    → IsReached v (run_state_after n es) all others
reached_more v n all rest es others parts is = record {
  es = is.es ++ es;
  world = world_after_events n es ∙ ap (λ w. run w es) is.world ∙ sym (run_append (start v (first_numbers n.mesh)) is.es es)
      ∙ ap (λ mesh. run (start v (first_numbers mesh)) (is.es ++ es)) (sym (mesh_after_events n es));
  count = let count = is.count in omega (arith, count_after_events n es, length-append is.es es);
  split = is.split ∙ ap (λ l. is.es ++ l) parts ∙ sym (append_assoc is.es es others);
}

-- ---- after the first lines

-- the events of all lines are those of the first and those of the others from there on
Splits : RunState → ℕ → List Piece → RunText → Type 0
Splits m i pieces w = w.verdict ≡ Finished → events_from m pieces ≡ events_from m (take i pieces) ++ events_from w.after (drop i pieces)

goes_splits : (m : RunState) (es : List Event) (c : LineOutcome) (i : ℕ) (pieces : List Piece)
    → ((n : RunState) → Splits n i pieces (text_from n (take i pieces)))
    → (goes_on m c (λ n. text_from n (take i pieces))).verdict ≡ Finished
    → es ++ events_after c (λ n. events_from n pieces)
    ≡ (es ++ events_after c (λ n. events_from n (take i pieces))) ++ events_from (goes_on m c (λ n. text_from n (take i pieces))).after (drop i pieces)
unfolding Splits
goes_splits m es (On text n) i pieces rest finished =
    ap (λ l. es ++ l) (rest n finished) ∙ sym (append_assoc es (events_from n (take i pieces)) _)
goes_splits m es (Refused why) i pieces rest finished = absurd (let P : ⊥ = cc in P)
goes_splits m es (Full text n e field) i pieces rest finished = absurd (let P : ⊥ = cc in P)

splits : (m : RunState) (i : ℕ) (pieces : List Piece) → Splits m i pieces (text_from m (take i pieces))
unfolding Splits shell.text_from events_from
splits m zero pieces finished = refl
splits m (suc i) [] finished = refl
splits m (suc i) (piece ∷ pieces) finished =
    goes_splits m (events_of_piece m piece) (outcome_of_piece m piece) i pieces (λ n. splits n i pieces) finished

follows_reached : (v : Variant) (w : RunText) (es all rest : List Event) → w.verdict ≡ Finished → Follows (opening v) es w → all ≡ es ++ rest → IsReached v w.after all rest
unfolding NotFull
follows_reached v w es all rest finished is split =
    let all_counted = is.all (λ number full. let clash : Finished ≡ FullAt number = sym finished ∙ full in let P : ⊥ = cc in P) in
    let count : w.after.sums.events ≡ length es = omega arith in
    record {
      es = es;
      world = is.world ∙ ap (run (start v (first_numbers w.after.mesh))) (take_all (w.after.sums.events - 0) es (omega arith));
      count = count;
      split = split;
    }

front_reached : (v : Variant) (input : List ℕ) (i : ℕ) → (prefix_of_input v input i).verdict ≡ Finished
    → IsReached v (prefix_of_input v input i).after (events_of_input v input) (events_from (prefix_of_input v input i).after (drop i (pieces_of_input input)))
unfolding events_of_input Splits
front_reached v input i finished =
    follows_reached v (prefix_of_input v input i) (events_from (opening v) (take i (pieces_of_input input))) (events_of_input v input) _ finished
    (follows (opening v) (take i (pieces_of_input input)) (opening_kept v)) (splits (opening v) i (pieces_of_input input) finished)

begun : (n : RunState) (p : Piece) (ps : List Piece) → events_from n (p ∷ ps) ≡ events_of_piece n p ++ events_after (outcome_of_piece n p) (λ m. events_from m ps)
unfolding events_from
begun n p ps = refl

state_reached : (v : Variant) (n : RunState) (all : List Event) (i k : ℕ) (pieces : List Piece) (o : Option Piece) → slice_get pieces i ≡ o
    → IsReached v n all (events_from n (drop i pieces)) → (rest : List Event) × IsReached v (state_in_next n o k) all rest
state_reached v n all i k pieces None is reached = (events_from n (drop i pieces), reached)
state_reached v n all i k pieces (Some p) is reached =
    let es : List Event = events_of_piece n p in
    let others : List Event = events_after (outcome_of_piece n p) (λ m. events_from m (drop (suc i) pieces)) in
    let parts : es ≡ take k es ++ drop k es = sym (take-append-drop k es) in
    let split : events_from n (drop i pieces) ≡ take k es ++ (drop k es ++ others) =
    ap (events_from n) (drop_from pieces i p is) ∙ begun n p (drop (suc i) pieces) ∙ ap (λ l. l ++ others) parts ∙ append_assoc (take k es) (drop k es) others in
    (drop k es ++ others, reached_more v n all (events_from n (drop i pieces)) (take k es) (drop k es ++ others) split reached)

-- ---- the laws

pub state_is_of_run : StateIsOfRun
state_is_of_run v input i k finished =
    let there = state_reached v (prefix_of_input v input i).after (events_of_input v input) i k (pieces_of_input input) (slice_get (pieces_of_input input) i) refl (front_reached v input i finished) in
    reached_by v (run_state_at v input i k) (events_of_input v input) there.0 there.1

next_safe : (n : RunState) (o : Option Piece) (k : ℕ) → IsLoopSafe (world_of n) → IsLoopSafe (world_of (state_in_next n o k))
next_safe n None k safe = safe
next_safe n (Some p) k safe =
    let es : List Event = take k (events_of_piece n p) in
    subst IsLoopSafe (sym (world_after_events n es)) (run_kept (world_of n) es safe)

pub state_is_loop_free : RunStateIsLoopFree
state_is_loop_free v input i k d =
    let is : IsKept (prefix_of_input v input i).after = text_kept (opening v) (take i (pieces_of_input input)) (opening_kept v) in
    no_cycle (world_of (run_state_at v input i k)) d (next_safe (prefix_of_input v input i).after (slice_get (pieces_of_input input) i) k is.invariant.loop_safe)

-- ---- the last line

EndsWell : RunText → Type 0
EndsWell w = w.verdict ≡ Finished → w.last ≡ done_line w.after

goes_well : (m : RunState) (c : LineOutcome) (others : RunState → RunText) → ((n : RunState) → EndsWell (others n)) → EndsWell (goes_on m c others)
unfolding EndsWell
goes_well m (On text n) others rest finished = rest n finished
goes_well m (Refused why) others rest finished = absurd (let P : ⊥ = cc in P)
goes_well m (Full text n e field) others rest finished = absurd (let P : ⊥ = cc in P)

ends_well : (m : RunState) (pieces : List Piece) → EndsWell (text_from m pieces)
unfolding EndsWell shell.text_from
ends_well m [] finished = refl
ends_well m (piece ∷ pieces) finished = goes_well m (outcome_of_piece m piece) (λ n. text_from n pieces) (λ n. ends_well n pieces) finished

pub last_line_is_of_last_state : LastLineIsOfLastState
unfolding EndsWell shell.text_on
last_line_is_of_last_state m input finished = ends_well m (pieces_of_input input) finished
