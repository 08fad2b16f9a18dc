-- The worlds of a run are those of the run of its events.
use Rattle.std.proofs.Common.{◌≡◌, ◌≢◌, ℕ, ◌+◌, ◌-◌, ◌≤◌, ◌⊎◌, inl, inr, true, false, List, [], ◌∷◌, ◌++◌, Option, Some, None, Result, Ok, Err, length, length-append, append-nil, take, refl, sym, ap, ap₂, subst, ◌∙◌, arith, is_some}
use Rattle.std.proofs.lemmas.List.{length-map}
use Rattle.std.proofs.Math.Seq.{take-append-add}
use Rattle.std.specs.Option.{unwrap_or}
use Rattle.std.specs.List.{AllByRecursion}
use Rattle.mesh_base.specs.Meshes.{Nodes}
use Rattle.mesh_base.specs.declared.events.Variant.{Variant}
use Rattle.mesh_base.proofs.Lemmas.Lists.{each_take}
use Rattle.mesh_model.specs.Worlds as worlds
use Rattle.mesh_model.specs.Worlds.{World, Event, Outcome, Idle, Next, step, after, run, start, first_numbers}
use Rattle.mesh_model.specs.InMesh.{IsEvent}
use Rattle.mesh_model.proofs.AccountSteps.{account}
use Rattle.mesh_model.proofs.Lists.{each_append}
use Rattle.mesh_model.proofs.MeshSteps.{run_keeps}
use Rattle.mesh_model.proofs.Acyclic.{loop_free}
use Rattle.mesh_grammar.specs.declared.fault.LineFault.{LineFault}
use Rattle.mesh_shell.specs.Fold as shell
use Rattle.mesh_text.specs.Schedule.{RunState, opening, AcceptedLine, Nothing, NewNode, Does, Chooses, ShowsNode, ShowsRoute, ShowsFlight, line_of, world_of, with_world, outcome_at, next_state, with_line_read}
use Rattle.mesh_shell.specs.Pieces.{Piece, Whole, Long, Beyond}
use Rattle.mesh_grammar.specs.Written.{line}
use Rattle.mesh_text.specs.Lines.{words_of}
use Rattle.mesh_text.specs.Ranges.{IsInRange, IsInTime}
use Rattle.mesh_text.specs.Auto as auto
use Rattle.mesh_text.specs.Text.{LineOutcome, On, Refused, Full, outcome_by_events, outcome_of_auto, outcome_of_line, outcome_of_read, outcome_of_piece, RunText, goes_on, text_from, text_of_input}
use Rattle.mesh_text.specs.declared.verdict.Verdict.{Verdict}
use Rattle.mesh_text.specs.declared.verdict.Verdict.TheVariants.{FullAt}
use Rattle.mesh_text.specs.Auto.{events_chosen}
use Rattle.mesh_text.specs.Runs.{events_of_line, events_read, events_of_piece, events_after, events_from, events_of_input, mesh_of_input, world_after}
use Rattle.mesh_text.specs.Laws.{RunIsRunOfEvents, AllEventsCount, EventsAreOfMesh, RunsAreLoopFree, RunKeepsInvariant, EachDatumIsAccountedFor}
use Rattle.mesh_text.proofs.InRange.{Allowed, line_allowed}
use Rattle.mesh_text.proofs.RunStates.{IsKept, all_positive, started_kept, UsualList, chosen_usual, IsKeptCame, piece_kept, input_kept, opening_kept}

pub run_append : (w : World) (xs ys : List Event) → run w (xs ++ ys) ≡ run (run w xs) ys
unfolding run
run_append w [] ys = refl
run_append w (e ∷ es) ys = run_append (after w (step w e)) es ys

pub run_none : (w : World) → run w [] ≡ w
unfolding run
run_none w = refl

pub run_one : (w : World) (e : Event) → run w (e ∷ []) ≡ after w (step w e)
unfolding run
run_one w e = refl

-- ---- events one after another

-- from m to n by these events
pub record IsRan (m n : RunState) (es : List Event) : Type 0 where
  pub variant : n.variant ≡ m.variant
  pub mesh : n.mesh ≡ m.mesh
  pub made : is_some n.world ≡ true
  pub world : world_of n ≡ run (world_of m) es
  pub count : n.sums.events ≡ m.sums.events + length es

ran_more : (m : RunState) (e : Event) (n : RunState) (es : List Event) → IsRan (next_state m e) n es → IsRan m n (e ∷ es)
unfolding next_state run
ran_more m e n es is = record { variant = is.variant; mesh = is.mesh; made = is.made; world = is.world; count = let count = is.count in omega arith }

RanTo : RunState → auto.EventsOutcome → List Event → Type 0
RanTo m (auto.Ended text n) es = IsRan m n es
RanTo m (auto.Full text n e field) es = Unit {0}

ran_before : (m : RunState) (e : Event) (text : List ℕ) (r : auto.EventsOutcome) (es : List Event) → RanTo (next_state m e) r es → RanTo m (auto.before text r) (e ∷ es)
unfolding RanTo
ran_before m e text (auto.Ended others n) es is = ran_more m e n es is
ran_before m e text (auto.Full others n f field) es is = tt

done_ran : (m : RunState) (e : Event) (o : Outcome) (others : RunState → auto.EventsOutcome) (es : List Event) → RanTo (next_state m e) (others (next_state m e)) es
    → RanTo m (auto.done_then m e o others) (e ∷ es)
unfolding RanTo
done_ran m e Idle others es is = ran_before m e _ (others (next_state m e)) es is
done_ran m e (worlds.Full x field) others es is = tt
done_ran m e (Next w world_effect) others es is = ran_before m e _ (others (next_state m e)) es is

stepped_made : (m : RunState) (e : Event) → is_some (next_state m e).world ≡ true
unfolding next_state
stepped_made m e = refl

events_ran : (m : RunState) (es : List Event) → is_some m.world ≡ true → RanTo m (auto.outcome_of_events m es) es
unfolding RanTo auto.outcome_of_events
events_ran m [] made = record { variant = refl; mesh = refl; made = made; world = sym (run_none (world_of m)); count = omega arith }
events_ran m (e ∷ es) made =
    done_ran m e (outcome_at m e) (λ n. auto.outcome_of_events n es) es (events_ran (next_state m e) es (stepped_made m e))

-- each of them is an event of the mesh

line_events_usual : (m : RunState) (a : AcceptedLine) → IsInRange m.mesh a → IsKept m → UsualList (length m.mesh) (events_of_line m a)
unfolding UsualList
line_events_usual m Nothing range is = tt
line_events_usual m (NewNode address first) range is = tt
line_events_usual m (Does e) range is = (range.1, tt)
line_events_usual m (Chooses count) range is = chosen_usual count (with_world m) (started_kept m is)
line_events_usual m (ShowsNode x) range is = tt
line_events_usual m (ShowsRoute x d) range is = tt
line_events_usual m ShowsFlight range is = tt

pub read_usual : (m : RunState) (r : Result AcceptedLine LineFault) → Allowed m.mesh (is_some m.world) r → IsKept m → UsualList (length m.mesh) (events_read m r)
unfolding Allowed UsualList
read_usual m (Ok a) allowed is = line_events_usual m a allowed.0 is
read_usual m (Err f) allowed is = tt

piece_usual : (m : RunState) (piece : Piece) → IsKept m → UsualList (length m.mesh) (events_of_piece m piece)
unfolding UsualList
piece_usual m (Whole line) is = read_usual m (line_of m.mesh (is_some m.world) line) (line_allowed m.mesh (is_some m.world) line is.mesh.few) is
piece_usual m Long is = tt
piece_usual m Beyond is = tt

-- ---- a line

-- no event, and at most one more node
pub record Quiet (m n : RunState) (es : List Event) : Type 0 where
  pub variant : n.variant ≡ m.variant
  pub mesh : is_some m.world ≡ true → n.mesh ≡ m.mesh
  pub world : n.world ≡ m.world
  pub none : es ≡ []
  pub count : n.sums.events ≡ m.sums.events

unfoldable pub GoesBy : RunState → List Event → LineOutcome → Type 0
GoesBy m es (On text n) = Quiet m n es ⊎ IsRan m n es
GoesBy m es (Refused why) = es ≡ []
GoesBy m es (Full text n e field) = Unit {0}

line_events_go : (m : RunState) (r : auto.EventsOutcome) (es : List Event) → RanTo m r es → GoesBy m es (outcome_by_events r)
unfolding GoesBy RanTo
line_events_go m (auto.Ended text n) es is = inr (record { variant = is.variant; mesh = is.mesh; made = is.made; world = is.world; count = is.count })
line_events_go m (auto.Full text n e field) es is = tt

auto_goes : (m : RunState) (text : List ℕ) (did : ℕ) (r : auto.EventsOutcome) (es : List Event) → RanTo m r es → GoesBy m es (outcome_of_auto text did r)
unfolding GoesBy RanTo
auto_goes m text did (auto.Ended others n) es is = inr (record { variant = is.variant; mesh = is.mesh; made = is.made; world = is.world; count = is.count })
auto_goes m text did (auto.Full others n e field) es is = tt

start_goes : (m : RunState) (es : List Event) (c : LineOutcome) → GoesBy (with_world m) es c → GoesBy m es c
unfolding GoesBy
start_goes m es (On text n) (inl is) =
    let same : n.world ≡ Some (world_of m) = is.world in
    inr (record {
      variant = is.variant;
      mesh = is.mesh refl;
      made = ap is_some same;
      world = ap (λ o. unwrap_or o (start n.variant (first_numbers n.mesh))) same ∙ sym (run_none (world_of m)) ∙ ap (run (world_of m)) (sym is.none);
      count = let count = is.count in let none : length es ≡ 0 = ap length is.none in omega arith;
    })
start_goes m es (On text n) (inr is) = inr (record { variant = is.variant; mesh = is.mesh; made = is.made; world = is.world; count = is.count })
start_goes m es (Refused why) is = is
start_goes m es (Full text n e field) is = tt

shown : (m : RunState) → IsRan m (with_line_read (with_world m)) []
shown m = record { variant = refl; mesh = refl; made = refl; world = sym (run_none (world_of m)); count = omega arith }

line_goes : (m : RunState) (a : AcceptedLine) → IsInTime (is_some m.world) a → GoesBy m (events_of_line m a) (outcome_of_line m a)
unfolding GoesBy outcome_of_line
line_goes m Nothing early = inl (record { variant = refl; mesh = λ _. refl; world = refl; none = refl; count = refl })
line_goes m (NewNode address first) early = inl (record { variant = refl; mesh = λ made. absurd (let clash : true ≡ false = sym made ∙ early in let P : ⊥ = cc in P); world = refl; none = refl; count = refl })
line_goes m (Does e) early =
    let ran : auto.EventsOutcome = auto.outcome_of_events (with_world m) (e ∷ []) in
    start_goes m (e ∷ []) (outcome_by_events ran) (line_events_go (with_world m) ran (e ∷ []) (events_ran (with_world m) (e ∷ []) refl))
line_goes m (Chooses count) early =
    let chosen : List Event = events_chosen count (with_world m) in
    let text : List ℕ = line (words_of m.mesh (Chooses count)) in
    let ran : auto.EventsOutcome = auto.outcome_of_events (with_world m) chosen in
    start_goes m chosen (outcome_of_auto text (length chosen) ran) (auto_goes (with_world m) text (length chosen) ran chosen (events_ran (with_world m) chosen refl))
line_goes m (ShowsNode x) early = inr (shown m)
line_goes m (ShowsRoute x d) early = inr (shown m)
line_goes m ShowsFlight early = inr (shown m)

pub result_goes : (m : RunState) (r : Result AcceptedLine LineFault) → Allowed m.mesh (is_some m.world) r → GoesBy m (events_read m r) (outcome_of_read m r)
unfolding Allowed GoesBy
result_goes m (Ok a) allowed = line_goes m a allowed.1
result_goes m (Err f) allowed = refl

pub piece_goes : (m : RunState) (piece : Piece) → IsKept m → GoesBy m (events_of_piece m piece) (outcome_of_piece m piece)
unfolding outcome_of_piece GoesBy
piece_goes m (Whole line) is = result_goes m (line_of m.mesh (is_some m.world) line) (line_allowed m.mesh (is_some m.world) line is.mesh.few)
piece_goes m Long is = refl
piece_goes m Beyond is = refl

-- ---- whole runs

-- the world of a state, where the mesh came to be this before a world was made
abbrev pub base : RunState → Nodes → World
base m mesh = unwrap_or m.world (start m.variant (first_numbers mesh))

pub made_base : (o : Option World) (v w : World) → is_some o ≡ true → unwrap_or o v ≡ unwrap_or o w
made_base None v w made = absurd (let P : ⊥ = cc in P)
made_base (Some x) v w made = refl

unfoldable pub NotFull : Verdict → Type 0
NotFull v = (number : ℕ) → v ≢ FullAt number

-- what was written from m on, where these events were done
pub record Follows (m : RunState) (es : List Event) (w : RunText) : Type 0 where
  pub mesh : is_some m.world ≡ true → w.after.mesh ≡ m.mesh
  pub low : m.sums.events ≤ w.after.sums.events
  pub world : world_of w.after ≡ run (base m w.after.mesh) (take (w.after.sums.events - m.sums.events) es)
  pub all : NotFull w.verdict → w.after.sums.events ≡ m.sums.events + length es
  pub usual : AllByRecursion (IsEvent (length w.after.mesh)) es

take_none : (k : ℕ) (es : List Event) → k ≡ 0 → take k es ≡ []
take_none k es none = ap (λ n. take n es) none

-- where the run ends at a line
ends_at : (m : RunState) (es : List Event) (w : RunText) → w.after ≡ m → UsualList (length m.mesh) es → (NotFull w.verdict → es ≡ []) → Follows m es w
unfolding UsualList
ends_at m es w same usual none =
    let mesh : w.after.mesh ≡ m.mesh = ap (λ n. n.mesh) same in
    let count : w.after.sums.events ≡ m.sums.events = ap (λ n. n.sums.events) same in
    let world : world_of w.after ≡ world_of m = ap (λ n. world_of n) same in
    record {
      mesh = λ _. mesh;
      low = omega arith;
      world = world ∙ ap (base m) (sym mesh) ∙ sym (run_none (base m w.after.mesh)) ∙ ap (run (base m w.after.mesh)) (sym (take_none (w.after.sums.events - m.sums.events) es (omega arith)));
      all = λ not_full. let nothing : length es ≡ 0 = ap length (none not_full) in omega arith;
      usual = subst (λ k. AllByRecursion (IsEvent k) es) (ap length (sym mesh)) usual;
    }

-- after a line with no event
quiet_follows : (m n : RunState) (es more : List Event) (w : RunText) → Quiet m n es → Follows n more w → Follows m (es ++ more) w
quiet_follows m n es more w quiet rest =
    let whole : es ++ more ≡ more = ap (λ l. l ++ more) quiet.none in
    let count : n.sums.events ≡ m.sums.events = quiet.count in
    let low = rest.low in
    subst (λ l. Follows m l w) (sym whole) (record {
      mesh = λ made. rest.mesh (ap is_some quiet.world ∙ made) ∙ quiet.mesh made;
      low = omega arith;
      world = rest.world
          ∙ ap₂ (λ o v. run (unwrap_or o (start v (first_numbers w.after.mesh))) (take (w.after.sums.events - n.sums.events) more)) quiet.world quiet.variant
          ∙ ap (λ k. run (base m w.after.mesh) (take (w.after.sums.events - k) more)) count;
      all = λ not_full. let all = rest.all not_full in omega arith;
      usual = rest.usual;
    })

-- after a line with events
ran_follows : (m n : RunState) (es more : List Event) (w : RunText) → IsRan m n es → UsualList (length m.mesh) es → Follows n more w → Follows m (es ++ more) w
unfolding UsualList
ran_follows m n es more w ran usual rest =
    let count : n.sums.events ≡ m.sums.events + length es = ran.count in
    let low : n.sums.events ≤ w.after.sums.events = rest.low in
    let mesh : w.after.mesh ≡ m.mesh = rest.mesh ran.made ∙ ran.mesh in
    let k : ℕ = w.after.sums.events - n.sums.events in
    let sum : w.after.sums.events - m.sums.events ≡ length es + k = omega arith in
    let before : base n w.after.mesh ≡ run (base m w.after.mesh) es =
    made_base n.world (start n.variant (first_numbers w.after.mesh)) (start n.variant (first_numbers n.mesh)) ran.made
    ∙ ran.world ∙ ap (λ nodes. run (base m nodes) es) (sym mesh) in
    record {
      mesh = λ _. mesh;
      low = omega arith;
      world = rest.world ∙ ap (λ x. run x (take k more)) before ∙ sym (run_append (base m w.after.mesh) es (take k more))
          ∙ ap (run (base m w.after.mesh)) (sym (take-append-add es more k)) ∙ ap (λ j. run (base m w.after.mesh) (take j (es ++ more))) (sym sum);
      all = λ not_full. let all = rest.all not_full in omega (arith, length-append es more);
      usual = each_append (IsEvent (length w.after.mesh)) es more (subst (λ j. AllByRecursion (IsEvent j) es) (ap length (sym mesh)) usual) rest.usual;
    }

pub goes_follows : (m : RunState) (es : List Event) (c : LineOutcome) (others : RunState → RunText) (more : RunState → List Event) → GoesBy m es c → IsKeptCame c → UsualList (length m.mesh) es
    → ((n : RunState) → IsKept n → Follows n (more n) (others n)) → Follows m (es ++ events_after c more) (goes_on m c others)
unfolding GoesBy IsKeptCame NotFull
goes_follows m es (On text n) others more (inl quiet) kept usual rest =
    let next = quiet_follows m n es (more n) (others n) quiet (rest n kept) in
    record { mesh = next.mesh; low = next.low; world = next.world; all = next.all; usual = next.usual }
goes_follows m es (On text n) others more (inr ran) kept usual rest =
    let next = ran_follows m n es (more n) (others n) ran usual (rest n kept) in
    record { mesh = next.mesh; low = next.low; world = next.world; all = next.all; usual = next.usual }
goes_follows m es (Refused why) others more none kept usual rest =
    let alone : es ++ [] ≡ es = append-nil es in
    subst (λ l. Follows m l (goes_on m (Refused why) others)) (sym alone) (ends_at m es (goes_on m (Refused why) others) refl usual (λ _. none))
goes_follows m es (Full text n e field) others more goes kept usual rest =
    let alone : es ++ [] ≡ es = append-nil es in
    subst (λ l. Follows m l (goes_on m (Full text n e field) others)) (sym alone)
    (ends_at m es (goes_on m (Full text n e field) others) refl usual (λ not_full. absurd (not_full (m.lines + 1) refl)))

pub follows : (m : RunState) (pieces : List Piece) → IsKept m → Follows m (events_from m pieces) (text_from m pieces)
unfolding events_from shell.text_from UsualList
follows m [] is = ends_at m [] (text_from m []) refl tt (λ _. refl)
follows m (piece ∷ pieces) is =
    goes_follows m (events_of_piece m piece) (outcome_of_piece m piece) (λ n. text_from n pieces) (λ n. events_from n pieces) (piece_goes m piece is) (piece_kept m piece is) (piece_usual m piece is)
    (λ n kept. follows n pieces kept)

input_follows : (v : Variant) (input : List ℕ) → Follows (opening v) (events_of_input v input) (text_of_input v input)
unfolding events_of_input text_of_input shell.text_on
input_follows v input = follows (opening v) _ (opening_kept v)

-- ---- the laws

pub run_of_events : RunIsRunOfEvents
run_of_events v input =
    let is = input_follows v input in
    let count : (text_of_input v input).after.sums.events - 0 ≡ (text_of_input v input).after.sums.events = omega arith in
    is.world ∙ ap (λ k. world_after v input k) count

pub all_events_count : AllEventsCount
unfolding NotFull
all_events_count v input not_full = let is = input_follows v input in let all = is.all not_full in omega arith

pub events_are_of_mesh : EventsAreOfMesh
events_are_of_mesh v input = (input_follows v input).usual

pub runs_are_loop_free : RunsAreLoopFree
runs_are_loop_free v input k d =
    loop_free v (first_numbers (mesh_of_input v input)) (take k (events_of_input v input)) d (all_positive (mesh_of_input v input) (input_kept v input).mesh)

-- the first k events of an input are of its mesh
first_events : (v : Variant) (input : List ℕ) (k : ℕ) → AllByRecursion (IsEvent (length (first_numbers (mesh_of_input v input)))) (take k (events_of_input v input))
first_events v input k =
    let mesh : Nodes = mesh_of_input v input in
    subst (λ n. AllByRecursion (IsEvent n) (take k (events_of_input v input))) (sym (length-map mesh (λ p. p.1)))
    (each_take (IsEvent (length mesh)) k (events_of_input v input) (events_are_of_mesh v input))

pub run_keeps_invariant : RunKeepsInvariant
run_keeps_invariant v input k =
    let mesh : Nodes = mesh_of_input v input in
    (run_keeps v (first_numbers mesh) (take k (events_of_input v input)) (all_positive mesh (input_kept v input).mesh) (first_events v input k)).0

pub each_datum_is_accounted_for : EachDatumIsAccountedFor
each_datum_is_accounted_for v input t k =
    let mesh : Nodes = mesh_of_input v input in
    let sums = account t v (first_numbers mesh) (take k (events_of_input v input)) (all_positive mesh (input_kept v input).mesh) (first_events v input k) in
    omega arith
