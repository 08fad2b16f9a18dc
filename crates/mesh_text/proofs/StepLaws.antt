-- What a run's steps and a refused event are.
use Rattle.std.proofs.Common.{◌≡◌, ℕ, suc, ◌+◌, List, [], ◌∷◌, length, Result, Ok, Err, take, refl, subst, arith, is_some}
use Rattle.mesh_base.specs.declared.events.Full.{Full as Counter}
use Rattle.mesh_model.specs.Worlds as worlds
use Rattle.mesh_model.specs.Worlds.{Event, Outcome, Idle, Next}
use Rattle.mesh_grammar.specs.declared.fault.LineFault.{LineFault}
use Rattle.mesh_shell.specs.Pieces.{Piece, Whole, Long, Beyond}
use Rattle.mesh_grammar.specs.Written.{line}
use Rattle.mesh_shell.specs.Fold as shell
use Rattle.mesh_text.specs.Schedule.{RunState, AcceptedLine, Nothing, NewNode, Does, Chooses, ShowsNode, ShowsRoute, ShowsFlight, line_of, with_world, outcome_at, next_state}
use Rattle.mesh_text.specs.Lines.{words_of}
use Rattle.mesh_text.specs.Auto as auto
use Rattle.mesh_text.specs.Text.{pieces_of_input, LineOutcome, On, Refused, Full, outcome_by_events, outcome_of_auto, outcome_of_line, outcome_of_read, outcome_of_piece, RunText, goes_on, text_from}
use Rattle.mesh_text.specs.Auto.{events_chosen}
use Rattle.mesh_text.specs.Runs.{events_of_line, events_read, events_of_piece, run_state_after}
use Rattle.mesh_text.specs.Laws.{StepsAreEvents, FullEventStands}

-- ---- steps

-- from m to n the steps rise as the events do
abbrev IsEven : RunState → RunState → Type 0
IsEven m n = n.steps + m.sums.events ≡ m.steps + n.sums.events

EvenRan : RunState → auto.EventsOutcome → Type 0
EvenRan m (auto.Ended text n) = IsEven m n
EvenRan m (auto.Full text n e field) = Unit {0}

before_even : (m : RunState) (e : Event) (text : List ℕ) (r : auto.EventsOutcome) → EvenRan (next_state m e) r → EvenRan m (auto.before text r)
unfolding EvenRan next_state
before_even m e text (auto.Ended others n) even = omega arith
before_even m e text (auto.Full others n f field) even = tt

done_even : (m : RunState) (e : Event) (o : Outcome) (others : RunState → auto.EventsOutcome) → EvenRan (next_state m e) (others (next_state m e)) → EvenRan m (auto.done_then m e o others)
unfolding EvenRan
done_even m e Idle others even = before_even m e _ (others (next_state m e)) even
done_even m e (worlds.Full x field) others even = tt
done_even m e (Next w world_effect) others even = before_even m e _ (others (next_state m e)) even

events_even : (m : RunState) (es : List Event) → EvenRan m (auto.outcome_of_events m es)
unfolding EvenRan auto.outcome_of_events
events_even m [] = refl
events_even m (e ∷ es) = done_even m e (outcome_at m e) (λ n. auto.outcome_of_events n es) (events_even (next_state m e) es)

EvenCame : RunState → LineOutcome → Type 0
EvenCame m (On text n) = IsEven m n
EvenCame m (Refused why) = Unit {0}
EvenCame m (Full text n e field) = Unit {0}

line_events_even : (m : RunState) (r : auto.EventsOutcome) → EvenRan (with_world m) r → EvenCame m (outcome_by_events r)
unfolding EvenCame EvenRan
line_events_even m (auto.Ended text n) even = even
line_events_even m (auto.Full text n e field) even = tt

auto_even : (m : RunState) (text : List ℕ) (did : ℕ) (r : auto.EventsOutcome) → EvenRan (with_world m) r → EvenCame m (outcome_of_auto text did r)
unfolding EvenCame EvenRan
auto_even m text did (auto.Ended others n) even = even
auto_even m text did (auto.Full others n e field) even = tt

line_even : (m : RunState) (a : AcceptedLine) → EvenCame m (outcome_of_line m a)
unfolding EvenCame outcome_of_line
line_even m Nothing = refl
line_even m (NewNode address first) = refl
line_even m (Does e) = line_events_even m (auto.outcome_of_events (with_world m) (e ∷ [])) (events_even (with_world m) (e ∷ []))
line_even m (Chooses count) =
    let chosen : List Event = events_chosen count (with_world m) in
    auto_even m (line (words_of m.mesh (Chooses count))) (length chosen) (auto.outcome_of_events (with_world m) chosen) (events_even (with_world m) chosen)
line_even m (ShowsNode x) = refl
line_even m (ShowsRoute x d) = refl
line_even m ShowsFlight = refl

read_even : (m : RunState) (r : Result AcceptedLine LineFault) → EvenCame m (outcome_of_read m r)
unfolding EvenCame
read_even m (Ok a) = line_even m a
read_even m (Err f) = tt

piece_even : (m : RunState) (piece : Piece) → EvenCame m (outcome_of_piece m piece)
unfolding EvenCame outcome_of_piece
piece_even m (Whole line) = read_even m (line_of m.mesh (is_some m.world) line)
piece_even m Long = tt
piece_even m Beyond = tt

goes_even : (m : RunState) (c : LineOutcome) (others : RunState → RunText) → EvenCame m c → ((n : RunState) → IsEven n (others n).after) → IsEven m (goes_on m c others).after
unfolding EvenCame
goes_even m (On text n) others even rest = omega (arith, rest n)
goes_even m (Refused why) others even rest = refl
goes_even m (Full text n e field) others even rest = refl

text_even : (m : RunState) (pieces : List Piece) → IsEven m (text_from m pieces).after
unfolding shell.text_from
text_even m [] = refl
text_even m (piece ∷ pieces) = goes_even m (outcome_of_piece m piece) (λ n. text_from n pieces) (piece_even m piece) (λ n. text_even n pieces)

pub steps_are_events : StepsAreEvents
unfolding shell.text_on
steps_are_events m input = text_even m (pieces_of_input input)

-- ---- a refused event

-- the event is refused at n, which these events lead to from m
record Stands (m : RunState) (es : List Event) (n : RunState) (e : Event) (field : Counter) : Type 0 where
  k : ℕ
  there : n ≡ run_state_after m (take k es)
  node : ℕ
  refused : outcome_at n e ≡ worlds.Full node field

StandsRan : RunState → List Event → auto.EventsOutcome → Type 0
StandsRan m es (auto.Ended text n) = Unit {0}
StandsRan m es (auto.Full text n e field) = Stands m es n e field

before_stands : (m : RunState) (e : Event) (text : List ℕ) (r : auto.EventsOutcome) (es : List Event) → StandsRan (next_state m e) es r → StandsRan m (e ∷ es) (auto.before text r)
unfolding StandsRan run_state_after
before_stands m e text (auto.Ended others n) es is = tt
before_stands m e text (auto.Full others n f field) es is = record { k = suc is.k; there = is.there; node = is.node; refused = is.refused }

done_stands : (m : RunState) (e : Event) (o : Outcome) (others : RunState → auto.EventsOutcome) (es : List Event) → outcome_at m e ≡ o
    → StandsRan (next_state m e) es (others (next_state m e)) → StandsRan m (e ∷ es) (auto.done_then m e o others)
unfolding StandsRan run_state_after
done_stands m e Idle others es is rest = before_stands m e _ (others (next_state m e)) es rest
done_stands m e (worlds.Full x field) others es is rest = record { k = 0; there = refl; node = x; refused = is }
done_stands m e (Next w world_effect) others es is rest = before_stands m e _ (others (next_state m e)) es rest

events_stand : (m : RunState) (es : List Event) → StandsRan m es (auto.outcome_of_events m es)
unfolding StandsRan auto.outcome_of_events
events_stand m [] = tt
events_stand m (e ∷ es) = done_stands m e (outcome_at m e) (λ n. auto.outcome_of_events n es) es refl (events_stand (next_state m e) es)

StandsCame : RunState → List Event → LineOutcome → Type 0
StandsCame m es (On text n) = Unit {0}
StandsCame m es (Refused why) = Unit {0}
StandsCame m es (Full text n e field) = Stands (with_world m) es n e field

line_events_stand : (m : RunState) (r : auto.EventsOutcome) (es : List Event) → StandsRan (with_world m) es r → StandsCame m es (outcome_by_events r)
unfolding StandsCame StandsRan
line_events_stand m (auto.Ended text n) es is = tt
line_events_stand m (auto.Full text n e field) es is = is

auto_stands : (m : RunState) (text : List ℕ) (did : ℕ) (r : auto.EventsOutcome) (es : List Event) → StandsRan (with_world m) es r → StandsCame m es (outcome_of_auto text did r)
unfolding StandsCame StandsRan
auto_stands m text did (auto.Ended others n) es is = tt
auto_stands m text did (auto.Full others n e field) es is = is

line_stands : (m : RunState) (a : AcceptedLine) → StandsCame m (events_of_line m a) (outcome_of_line m a)
unfolding StandsCame outcome_of_line
line_stands m (Does e) = line_events_stand m (auto.outcome_of_events (with_world m) (e ∷ [])) (e ∷ []) (events_stand (with_world m) (e ∷ []))
line_stands m (Chooses count) =
    let chosen : List Event = events_chosen count (with_world m) in
    auto_stands m (line (words_of m.mesh (Chooses count))) (length chosen) (auto.outcome_of_events (with_world m) chosen) chosen (events_stand (with_world m) chosen)
line_stands m others = tt

read_stands : (m : RunState) (r : Result AcceptedLine LineFault) → StandsCame m (events_read m r) (outcome_of_read m r)
unfolding StandsCame
read_stands m (Ok a) = line_stands m a
read_stands m (Err f) = tt

piece_stands : (m : RunState) (piece : Piece) → StandsCame m (events_of_piece m piece) (outcome_of_piece m piece)
unfolding StandsCame outcome_of_piece
piece_stands m (Whole line) = read_stands m (line_of m.mesh (is_some m.world) line)
piece_stands m Long = tt
piece_stands m Beyond = tt

pub refused_event_stands : FullEventStands
unfolding StandsCame
refused_event_stands m piece text n e field is =
    let there = subst (StandsCame m (events_of_piece m piece)) is (piece_stands m piece) in
    (there.k, there.there, there.node, there.refused)
