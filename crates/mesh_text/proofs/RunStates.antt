-- What holds of every state of a run.
use Rattle.std.proofs.Common.{◌≡◌, ℕ, ◌+◌, ◌<◌, ◌≤◌, true, false, List, [], ◌∷◌, Option, Some, None, Result, Ok, Err, length, get_or, refl, sym, ap, subst, ◌∙◌, arith, is_some}
use Rattle.std.specs.Option.{unwrap_or}
use Rattle.std.specs.List.{AllByRecursion}
use Rattle.std.proofs.lemmas.List.{length-map, get_or_default}
use Rattle.std.proofs.lemmas.List.Elements.{recursion_from_All}
use Rattle.mesh_base.specs.Meshes.{Nodes, IsMesh, first_at, with_node}
use Rattle.mesh_base.specs.declared.events.Variant.{Variant}
use Rattle.mesh_base.proofs.Grown.{grown_is_mesh}
use Rattle.mesh_model.specs.Worlds as worlds
use Rattle.mesh_model.specs.Worlds.{World, Event, Give, Double, WorldEffect, CopyDoubled, Outcome, Idle, Next, step, start, first_numbers}
use Rattle.mesh_model.specs.Accounts.{any, waiting, queued_data, in_flight, given_data, doubled_data, doubled_in, doubled_at, if_goes}
use Rattle.mesh_model.specs.Choices.{pick}
use Rattle.mesh_model.specs.InMesh.{IsEvent}
use Rattle.mesh_model.specs.Invariants.{IsInvariant}
use Rattle.mesh_model.proofs.Sizes.{same_size, start_size}
use Rattle.mesh_model.proofs.MeshSteps.{step_keeps, start_keeps}
use Rattle.mesh_model.proofs.AccountSteps.{step_balanced, start_empty}
use Rattle.mesh_model.proofs.Doublings.{doubling_counted}
use Rattle.mesh_model.proofs.Chosen.{OnSome}
use Rattle.mesh_grammar.specs.declared.fault.LineFault.{LineFault}
use Rattle.mesh_shell.specs.Fold as shell
use Rattle.mesh_text.specs.Schedule.{RunState, opening, AcceptedLine, Nothing, NewNode, Does, Chooses, ShowsNode, ShowsRoute, ShowsFlight, line_of, world_of, with_world, outcome_at, next_state, with_line_read, idle_by}
use Rattle.mesh_shell.specs.Pieces.{Piece, Whole, Long, Beyond}
use Rattle.mesh_grammar.specs.Written.{line}
use Rattle.mesh_text.specs.Lines.{words_of}
use Rattle.mesh_text.specs.Ranges.{IsNewNode, IsInRange, IsInTime}
use Rattle.mesh_text.specs.Auto as auto
use Rattle.mesh_text.specs.Text.{LineOutcome, On, Refused, Full, outcome_by_events, outcome_of_auto, outcome_of_line, outcome_of_read, outcome_of_piece, RunText, goes_on, text_from, text_of_input}
use Rattle.mesh_text.specs.Accounts.{IsBalanced}
use Rattle.mesh_text.specs.Laws.{EventKeepsAccount, DataAreAccountedFor, SumsAreInOrder}
use Rattle.mesh_text.proofs.InRange.{Allowed, line_allowed}
use Rattle.mesh_text.proofs.Picks.{picked, each_chosen}

-- what holds of a state
pub record IsKept (m : RunState) : Type 0 where
  pub mesh : IsMesh m.mesh
  pub size : length (world_of m).nodes ≡ length m.mesh
  pub invariant : IsInvariant (world_of m)
  pub balanced : IsBalanced m
  pub ordered : m.sums.idle + m.sums.given + m.sums.copied ≤ m.sums.events

-- ---- before a world is made

pub all_positive : (mesh : Nodes) → IsMesh mesh → AllByRecursion (λ n. 1 ≤ n) (first_numbers mesh)
all_positive mesh is = through mesh (recursion_from_All (λ p. 1 ≤ p.1) mesh (λ k d lt. same mesh k d lt (is.positive k lt)))
  where
    same : (mesh : Nodes) (k : ℕ) (d : ℕ × ℕ) → k < length mesh → 1 ≤ first_at mesh k → 1 ≤ (get_or mesh k d).1
    same mesh k d lt one = rw (get_or_default mesh k d (0, 0) lt) one

    through : (mesh : Nodes) → AllByRecursion (λ p. 1 ≤ p.1) mesh → AllByRecursion (λ n. 1 ≤ n) (first_numbers mesh)
    through [] all = tt
    through (p ∷ ps) all = (all.0, through ps all.1)

fresh_world : (m : RunState) → m.world ≡ None → world_of m ≡ start m.variant (first_numbers m.mesh)
fresh_world m fresh = ap (λ o. unwrap_or o (start m.variant (first_numbers m.mesh))) fresh

-- no datum is in the mesh
fresh_empty : (m : RunState) → m.world ≡ None → waiting any (world_of m) + queued_data any (world_of m) + in_flight any (world_of m) ≡ 0
fresh_empty m fresh = ap (λ w. waiting any w + queued_data any w + in_flight any w) (fresh_world m fresh) ∙ start_empty any m.variant (first_numbers m.mesh)

fresh_kept : (m : RunState) → m.world ≡ None → IsMesh m.mesh → m.sums.given + m.sums.copied ≡ m.sums.delivered + m.sums.lost
    → m.sums.idle + m.sums.given + m.sums.copied ≤ m.sums.events → IsKept m
fresh_kept m fresh is sums ordered =
    let nothing = fresh_empty m fresh in
    record {
      mesh = is;
      size = ap (λ w. length w.nodes) (fresh_world m fresh) ∙ start_size m.variant (first_numbers m.mesh) ∙ length-map m.mesh (λ p. p.1);
      invariant = subst IsInvariant (sym (fresh_world m fresh)) (start_keeps m.variant (first_numbers m.mesh) (all_positive m.mesh is));
      balanced = omega arith;
      ordered = ordered;
    }

fresh_sums : (m : RunState) → m.world ≡ None → IsBalanced m → m.sums.given + m.sums.copied ≡ m.sums.delivered + m.sums.lost
fresh_sums m fresh is = let nothing = fresh_empty m fresh in omega arith

no_nodes : IsMesh []
no_nodes = record {
  rising = λ i j lt within. absurd (omega arith);
  few = omega arith;
  positive = λ i lt. absurd (omega arith);
  addresses = λ i lt. absurd (omega arith);
  firsts = λ i lt. absurd (omega arith);
}

pub opening_kept : (v : Variant) → IsKept (opening v)
opening_kept v = fresh_kept (opening v) refl no_nodes refl (omega arith)

grown_kept : (m : RunState) (address first : ℕ) → m.world ≡ None → IsNewNode m.mesh address first → IsKept m → IsKept (with_line_read (record m { mesh = with_node m.mesh address first }))
grown_kept m address first fresh new is =
    fresh_kept (with_line_read (record m { mesh = with_node m.mesh address first })) fresh
    (grown_is_mesh m.mesh address first is.mesh new.absent new.few new.positive new.fits (let most = new.most in omega arith))
    (fresh_sums m fresh is.balanced)
    is.ordered

-- ---- events

pub counted_kept : (m : RunState) → IsKept m → IsKept (with_line_read m)
counted_kept m is = record { mesh = is.mesh; size = is.size; invariant = is.invariant; balanced = is.balanced; ordered = is.ordered }

pub started_kept : (m : RunState) → IsKept m → IsKept (with_world m)
started_kept m is = record { mesh = is.mesh; size = is.size; invariant = is.invariant; balanced = is.balanced; ordered = is.ordered }

given_at_most : (e : Event) (o : Outcome) → given_data any e o ≤ if_goes o 1
given_at_most (Give x d body) Idle = omega arith
given_at_most (Give x d body) (worlds.Full y field) = omega arith
given_at_most (Give x d body) (Next w world_effect) = omega arith
given_at_most others o = omega arith

pub doubled_at_most : (h : WorldEffect) → doubled_in h ≤ 1
doubled_at_most (CopyDoubled id to true) = omega arith
doubled_at_most (CopyDoubled id to false) = omega arith
doubled_at_most others = omega arith

copied_at_most : (o : Outcome) → doubled_at o ≤ if_goes o 1
copied_at_most Idle = omega arith
copied_at_most (worlds.Full x field) = omega arith
copied_at_most (Next w world_effect) = doubled_at_most world_effect

not_both : (w : World) (e : Event) → given_data any e (step w e) + doubled_data any w e ≤ if_goes (step w e) 1
not_both w (Give x d body) = omega (arith, given_at_most (Give x d body) (step w (Give x d body)))
not_both w (Double id) = omega (arith, copied_at_most (step w (Double id)), doubling_counted w (Double id))
not_both w others = omega arith

goes_or_idle : (o : Outcome) → idle_by o + if_goes o 1 ≤ 1
goes_or_idle Idle = omega arith
goes_or_idle (worlds.Full x field) = omega arith
goes_or_idle (Next w world_effect) = omega arith

-- an event is idle, or gives a datum, or doubles one, or none of these
one_at_most : (w : World) (e : Event) → idle_by (step w e) + given_data any e (step w e) + doubled_at (step w e) ≤ 1
one_at_most w e = omega (arith, not_both w e, doubling_counted w e, goes_or_idle (step w e))

pub event_keeps_account : EventKeepsAccount
unfolding next_state
event_keeps_account m e in_mesh within before =
    let account = step_balanced any (world_of m) e within in_mesh in
    let copied = doubling_counted (world_of m) e in
    omega arith

pub stepped_kept : (m : RunState) (e : Event) → IsEvent (length m.mesh) e → IsKept m → IsKept (next_state m e)
unfolding next_state
stepped_kept m e within is =
    let w : World = world_of m in
    let event : IsEvent (length w.nodes) e = subst (λ k. IsEvent k e) (sym is.size) within in
    let ordered = is.ordered in
    let one = one_at_most w e in
    record {
      mesh = is.mesh;
      size = same_size w e ∙ is.size;
      invariant = step_keeps w e event is.invariant;
      balanced = event_keeps_account m e is.invariant.in_mesh event is.balanced;
      ordered = omega arith;
    }

-- ---- events one after another

IsKeptRan : auto.EventsOutcome → Type 0
IsKeptRan (auto.Ended text n) = IsKept n
IsKeptRan (auto.Full text n e field) = Unit {0}

before_kept : (text : List ℕ) (r : auto.EventsOutcome) → IsKeptRan r → IsKeptRan (auto.before text r)
unfolding IsKeptRan
before_kept text (auto.Ended others n) is = is
before_kept text (auto.Full others n e field) is = tt

done_kept : (m : RunState) (e : Event) (o : Outcome) (others : RunState → auto.EventsOutcome) → IsKeptRan (others (next_state m e)) → IsKeptRan (auto.done_then m e o others)
unfolding IsKeptRan
done_kept m e Idle others is = before_kept _ (others (next_state m e)) is
done_kept m e (worlds.Full x field) others is = tt
done_kept m e (Next w world_effect) others is = before_kept _ (others (next_state m e)) is

unfoldable pub UsualList : ℕ → List Event → Type 0
UsualList size es = AllByRecursion (IsEvent size) es

stepped_mesh : (m : RunState) (e : Event) → (next_state m e).mesh ≡ m.mesh
unfolding next_state
stepped_mesh m e = refl

events_kept : (m : RunState) (es : List Event) → UsualList (length m.mesh) es → IsKept m → IsKeptRan (auto.outcome_of_events m es)
unfolding IsKeptRan UsualList auto.outcome_of_events
events_kept m [] usual is = is
events_kept m (e ∷ es) usual is =
    done_kept m e (outcome_at m e) (λ n. auto.outcome_of_events n es)
    (events_kept (next_state m e) es (subst (λ mesh. UsualList (length mesh) es) (sym (stepped_mesh m e)) usual.1) (stepped_kept m e usual.0 is))

-- each event that is chosen is one of the mesh
pub chosen_usual : (most : ℕ) (m : RunState) → IsKept m → UsualList (length m.mesh) (auto.events_chosen most m)
unfolding UsualList
chosen_usual most m is =
    each_chosen (λ n. IsKept n × (length n.mesh ≡ length m.mesh)) (IsEvent (length m.mesh))
    (λ n kept. subst (λ k. OnSome (IsEvent k) (pick (world_of n))) (kept.0.size ∙ kept.1) (picked (world_of n)))
    (λ n e usual kept. (stepped_kept n e (subst (λ k. IsEvent k e) (sym kept.1) usual) kept.0, ap length (stepped_mesh n e) ∙ kept.1))
    most m (is, refl)

-- ---- lines

unfoldable pub IsKeptCame : LineOutcome → Type 0
IsKeptCame (On text n) = IsKept n
IsKeptCame (Refused why) = Unit {0}
IsKeptCame (Full text n e field) = Unit {0}

line_events_kept : (r : auto.EventsOutcome) → IsKeptRan r → IsKeptCame (outcome_by_events r)
unfolding IsKeptCame IsKeptRan
line_events_kept (auto.Ended text n) is = counted_kept n is
line_events_kept (auto.Full text n e field) is = tt

auto_kept : (text : List ℕ) (did : ℕ) (r : auto.EventsOutcome) → IsKeptRan r → IsKeptCame (outcome_of_auto text did r)
unfolding IsKeptCame IsKeptRan
auto_kept text did (auto.Ended others n) is = counted_kept n is
auto_kept text did (auto.Full others n e field) is = tt

pub not_made : (o : Option World) → is_some o ≡ false → o ≡ None
not_made None h = refl
not_made (Some w) h = absurd (let P : ⊥ = cc in P)

line_kept : (m : RunState) (a : AcceptedLine) → IsInRange m.mesh a → IsInTime (is_some m.world) a → IsKept m → IsKeptCame (outcome_of_line m a)
unfolding IsKeptCame outcome_of_line UsualList
line_kept m Nothing range early is = counted_kept m is
line_kept m (NewNode address first) range early is = grown_kept m address first (not_made m.world early) range is
line_kept m (Does e) range early is = line_events_kept (auto.outcome_of_events (with_world m) (e ∷ [])) (events_kept (with_world m) (e ∷ []) (range.1, tt) (started_kept m is))
line_kept m (Chooses count) range early is =
    let chosen : List Event = auto.events_chosen count (with_world m) in
    auto_kept (line (words_of m.mesh (Chooses count))) (length chosen) (auto.outcome_of_events (with_world m) chosen)
    (events_kept (with_world m) chosen (chosen_usual count (with_world m) (started_kept m is)) (started_kept m is))
line_kept m (ShowsNode x) range early is = counted_kept (with_world m) (started_kept m is)
line_kept m (ShowsRoute x d) range early is = counted_kept (with_world m) (started_kept m is)
line_kept m ShowsFlight range early is = counted_kept (with_world m) (started_kept m is)

result_kept : (m : RunState) (r : Result AcceptedLine LineFault) → Allowed m.mesh (is_some m.world) r → IsKept m → IsKeptCame (outcome_of_read m r)
unfolding IsKeptCame Allowed
result_kept m (Ok a) allowed is = line_kept m a allowed.0 allowed.1 is
result_kept m (Err f) allowed is = tt

pub piece_kept : (m : RunState) (piece : Piece) → IsKept m → IsKeptCame (outcome_of_piece m piece)
unfolding IsKeptCame outcome_of_piece
piece_kept m (Whole line) is = result_kept m (line_of m.mesh (is_some m.world) line) (line_allowed m.mesh (is_some m.world) line is.mesh.few) is
piece_kept m Long is = tt
piece_kept m Beyond is = tt

-- ---- whole runs

goes_kept : (m : RunState) (c : LineOutcome) (others : RunState → RunText) → IsKeptCame c → IsKept m → ((n : RunState) → IsKept n → IsKept (others n).after) → IsKept (goes_on m c others).after
unfolding IsKeptCame
goes_kept m (On text n) others outcome_of_piece is rest = rest n outcome_of_piece
goes_kept m (Refused why) others outcome_of_piece is rest = is
goes_kept m (Full text n e field) others outcome_of_piece is rest = is

pub text_kept : (m : RunState) (pieces : List Piece) → IsKept m → IsKept (text_from m pieces).after
unfolding shell.text_from
text_kept m [] is = is
text_kept m (piece ∷ pieces) is = goes_kept m (outcome_of_piece m piece) (λ n. text_from n pieces) (piece_kept m piece is) is (λ n kept. text_kept n pieces kept)

pub input_kept : (v : Variant) (input : List ℕ) → IsKept (text_of_input v input).after
unfolding text_of_input shell.text_on
input_kept v input = text_kept (opening v) _ (opening_kept v)

pub data_are_accounted_for : DataAreAccountedFor
data_are_accounted_for v input = (input_kept v input).balanced

pub sums_are_in_order : SumsAreInOrder
sums_are_in_order v input =
    let is = input_kept v input in
    let balanced = is.balanced in
    (is.ordered, omega arith)
