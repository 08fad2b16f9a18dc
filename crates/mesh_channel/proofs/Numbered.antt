-- Each event of a run over a channel is one that a line may be.
use Rattle.std.proofs.Common.{◌≡◌, ◌⊎◌, inl, inr, ℕ, zero, suc, ◌+◌, ◌-◌, ◌*◌, ◌^◌, ◌<◌, ◌≤◌, ◌==◌, Bool, List, [], ◌∷◌, ◌++◌, length, length-append, Option, Some, None, Result, Ok, Err, is_some, refl, sym, ap, subst, ◌∙◌, arith, take}
use Rattle.std.specs.List.{AllByRecursion}
use Rattle.std.proofs.lemmas.List.Splits.{length-slice_split}
use Rattle.std.proofs.lemmas.List.Sums.{count_by-le-length}
use Rattle.std.proofs.lemmas.List.{length-take}
use Rattle.mesh_base.specs.Parts.{parts}
use Rattle.mesh_base.specs.Meshes.{with_node}
use Rattle.std.specs.Option.{unwrap_or}
use Rattle.mesh_base.specs.declared.events.Variant.{Variant}
use Rattle.mesh_grammar.specs.declared.fault.LineFault.{LineFault}
use Rattle.mesh_model.specs.Worlds as worlds
use Rattle.mesh_model.specs.Worlds.{World, Event, Outcome, Idle, Next}
use Rattle.mesh_model.specs.InMesh.{IsEvent}
use Rattle.mesh_shell.specs.Pieces.{Piece, Whole, Long, Beyond, pieces_of}
use Rattle.mesh_shell.proofs.Pieces.{last_few}
use Rattle.mesh_io.specs.declared.limits.Limits.{Limits}
use Rattle.mesh_text.specs.Auto as auto
use Rattle.mesh_text.specs.Auto.{outcome_of_events}
use Rattle.mesh_text.specs.Schedule as schedule
use Rattle.mesh_text.specs.Schedule.{AcceptedLine, Nothing, NewNode, Does, Chooses, ShowsNode, ShowsRoute, ShowsFlight, line_of, world_of, with_world, outcome_at, next_state, with_line_read}
use Rattle.mesh_text.specs.Runs.{run_state_after, events_after}
use Rattle.mesh_text.specs.Text as text
use Rattle.mesh_text.specs.Text.{LineOutcome, On, Refused, Full, outcome_by_events, pieces_of_input}
use Rattle.mesh_text.proofs.InRange.{Allowed, line_allowed}
use Rattle.mesh_text.proofs.RunStates.{IsKept, UsualList, started_kept, stepped_kept, opening_kept, IsKeptCame, not_made}
use Rattle.mesh_text.proofs.RunStateLaws.{steps_after_events}
use Rattle.mesh_fates.specs.declared.rates.Rates.{Rates}
use Rattle.mesh_fates.specs.Channels as channels
use Rattle.mesh_fates.specs.Channels.{Channel, after_given, after_chosen}
use Rattle.mesh_channel.specs.Choices.{Choice, Chosen, tick_behind, next_choice}
use Rattle.mesh_channel.specs.declared.until.Until.{Until}
use Rattle.mesh_channel.specs.declared.until.Until.TheVariants.{Events}
use Rattle.mesh_channel.specs.Chosen.{Drawn, given, event_then, choice_then, chosen_from, chosen_in, chosen}
use Rattle.mesh_channel.specs.Lines.{Line, Passes, Plain, passing_of, line_by, channel_line}
use Rattle.mesh_channel.specs.Text.{RunState, opening, drawn_by, outcome_of_drawn, outcome_of_line, outcome_of_read, outcome_of_piece, channel_by, channel_after, next}
use Rattle.mesh_channel.specs.Runs.{events_by, events_of_piece, events_from, events_of_input}
use Rattle.mesh_channel.proofs.HasLine.{HasLine}
use Rattle.mesh_channel.proofs.InMesh.{LeftUsual, UsualChoice, usual_choice, usual_chosen, usual_given, chosen_left}
use Rattle.mesh_channel.proofs.ChannelRuns.{EndsAt, ends_at, piece_leads, opening_left}
use Rattle.mesh_channel.proofs.Steps.{MakesFew, step_few}
use Rattle.mesh_channel.proofs.Numbers.{IsLeft, IsFew, AllLeft, IsSmall, Fits, fits_choice, flying_numbered, cast_few, left_quiet, left_line, none_few, world_effect_all, world_effect_few, small, Low, low_started, low_stepped}

-- ---- events that the channel chooses

abbrev MOST : ℕ
MOST = 70368744177664

-- lines may be all of them, and what is left behind them is few
record Numbered (d : Drawn) : Type 0 where
  lines : AllByRecursion HasLine d.events
  left : IsFew d.channel.left

numbered_then : (e : Event) (o : Outcome) (c : Channel) (others : Drawn) → HasLine e → IsFew c.left → Numbered others → Numbered (event_then e o c others)
numbered_then e Idle c others one few rest = record { lines = (one, rest.lines); left = rest.left }
numbered_then e (worlds.Full x field) c others one few rest = record { lines = (one, tt); left = few }
numbered_then e (Next w h) c others one few rest = record { lines = (one, rest.lines); left = rest.left }

after_few : (rates : Rates) (m : schedule.RunState) (e : Event) (c : Channel) → IsSmall (world_of m) → IsFew c.left → (c.left ≡ []) ⊎ IsLeft e → IsFew (after_chosen rates (world_of m) (outcome_at m e) c).left
after_few rates m e c small few (inl none) = cast_few rates (world_of m) (outcome_at m e) c small (step_few (world_of m) e) none
after_few rates m e c small few (inr left) = subst (λ k. IsFew k.left) (sym (left_quiet rates (world_of m) e c left)) few

step_counted : (m : schedule.RunState) (e : Event) → (next_state m e).steps ≡ m.steps + 1
unfolding next_state
step_counted m e = refl

numbered_chosen : (most : ℕ) (rates : Rates) (until : Until) (did : ℕ) (m : schedule.RunState) (c : Channel) → most + m.steps ≤ 2 ^ 50 → IsKept m → Low m → LeftUsual c.left → IsFew c.left
    → Numbered (chosen_from most rates until did m c)
unfolding chosen_from Fits UsualChoice
numbered_chosen zero rates until did m c bound kept low usual few = record { lines = tt; left = few }
numbered_chosen (suc most) rates until did m c bound kept low usual few =
    by (next_choice until did (world_of m) c) (fits_choice until did (world_of m) c (flying_numbered m kept low (omega arith)) few)
    (subst (λ k. UsualChoice k (next_choice until did (world_of m) c)) kept.size (usual_choice until did (world_of m) c usual))
    (λ e after one left fewer. numbered_chosen most rates until (did + 1) (next_state m e) after (steps_more e) (stepped_kept m e one kept) (low_stepped m e kept low) left fewer)
  where
    steps_more : (e : Event) → most + (next_state m e).steps ≤ 2 ^ 50
    steps_more e = let same : (next_state m e).steps ≡ m.steps + 1 = step_counted m e in omega arith

    by : (choice : Choice) → Fits choice → UsualChoice (length m.mesh) choice
        → ((e : Event) (after : Channel) → IsEvent (length m.mesh) e → LeftUsual after.left → IsFew after.left → Numbered (chosen_from most rates until (did + 1) (next_state m e) after))
        → Numbered (choice_then rates m choice (λ n after. chosen_from most rates until (did + 1) n after))
    by (Rattle.mesh_channel.specs.Choices.Nothing after) fits one rest = record { lines = tt; left = none_few after.left fits.0 }
    by (Chosen e after) fits one rest =
        let o : Outcome = outcome_at m e in
        let then : Channel = after_chosen rates (world_of m) o after in
        numbered_then e o after (chosen_from most rates until (did + 1) (next_state m e) then) fits.0 fits.1
        (rest e then one.0 (chosen_left rates (world_of m) o after one.1) (after_few rates m e after (small m kept low (omega arith)) fits.1 fits.2))

same_mesh : (m : schedule.RunState) (e : Event) → length m.mesh ≡ length (next_state m e).mesh
unfolding next_state
same_mesh m e = refl

fresh_low : (m : schedule.RunState) (address first : ℕ) → m.world ≡ None → Low m → Low (with_line_read (record m { mesh = with_node m.mesh address first }))
unfolding Low worlds.start
fresh_low m address first fresh low = by m.world fresh low.1
  where
    by : (o : Option World) → o ≡ None → (world_of m).next_copy ≤ 1 + 201 * m.steps
        → (1 ≤ (unwrap_or o (worlds.start m.variant (worlds.first_numbers (with_node m.mesh address first)))).next_copy)
        × ((unwrap_or o (worlds.start m.variant (worlds.first_numbers (with_node m.mesh address first)))).next_copy ≤ 1 + 201 * m.steps)
    by None is old = (omega arith, omega arith)
    by (Some w) is old = absurd (let P : ⊥ = cc in P)

low_after : (m : schedule.RunState) (es : List Event) → UsualList (length m.mesh) es → IsKept m → Low m → Low (run_state_after m es)
unfolding run_state_after UsualList
low_after m [] usual kept low = low
low_after m (e ∷ es) usual kept low = low_after (next_state m e) es (mesh_same usual.1) (stepped_kept m e usual.0 kept) (low_stepped m e kept low)
  where
    mesh_same : UsualList (length m.mesh) es → UsualList (length (next_state m e).mesh) es
    mesh_same all = subst (λ k. UsualList k es) (same_mesh m e) all

-- ---- how many events the channel chooses

event_few : (most : ℕ) (e : Event) (o : Outcome) (c : Channel) (others : Drawn) → length others.events ≤ most → length (event_then e o c others).events ≤ suc most
event_few most e Idle c others few = omega arith
event_few most e (worlds.Full x field) c others few = omega arith
event_few most e (Next w h) c others few = omega arith

chosen_few : (most : ℕ) (rates : Rates) (until : Until) (did : ℕ) (m : schedule.RunState) (c : Channel) → length (chosen_from most rates until did m c).events ≤ most
unfolding chosen_from
chosen_few zero rates until did m c = omega arith
chosen_few (suc most) rates until did m c = by (next_choice until did (world_of m) c) (λ n after. chosen_few most rates until (did + 1) n after)
  where
    by : (choice : Choice) → ((n : schedule.RunState) (after : Channel) → length (chosen_from most rates until (did + 1) n after).events ≤ most)
        → length (choice_then rates m choice (λ n after. chosen_from most rates until (did + 1) n after)).events ≤ suc most
    by (Rattle.mesh_channel.specs.Choices.Nothing after) rest = omega arith
    by (Chosen e after) rest =
        event_few most e (outcome_at m e) after (chosen_from most rates until (did + 1) (next_state m e) (after_chosen rates (world_of m) (outcome_at m e) after)) (rest (next_state m e) (after_chosen rates (world_of m) (outcome_at m e) after))

-- ---- lines

-- a run has gone through so few events where it has read so many lines
abbrev Room : ℕ → schedule.RunState → Type 0
Room k m = m.steps ≤ MOST + 1300 * k

-- what holds of a line's events and of the channel after them
record FitsLine (k : ℕ) (m : RunState) (d : Drawn) : Type 0 where
  numbered : Numbered d
  few : m.run.steps + length d.events ≤ MOST + 1300 * (k + 1)

chosen_fits : (k : ℕ) (rates : Rates) (until : Until) (m : RunState) → 1300 * k ≤ 2 ^ 49 → IsKept m.run → Low m.run → LeftUsual m.channel.left → IsFew m.channel.left → Room k m.run
    → FitsLine k m (chosen rates until m.run m.channel)
chosen_fits k rates until m lines kept low usual few room = by m.run.world
  where
    by : (o : Option World) → FitsLine k m (chosen_in rates until m.run o m.channel)
    by None = record { numbered = record { lines = tt; left = few }; few = omega arith }
    by (Some w) = record {
      numbered = numbered_chosen (MOST - m.run.steps) rates until 0 m.run m.channel (omega arith) kept low usual few;
      few = let count = chosen_few (MOST - m.run.steps) rates until 0 m.run m.channel in omega arith;
    }

-- what is left behind an event of the input
given_all : (rates : Rates) (w : World) (o : Outcome) (c : Channel) → IsSmall w → MakesFew w o → IsFew c.left → AllLeft (after_given rates w o c).left × (length (after_given rates w o c).left ≤ 1200)
unfolding MakesFew
given_all rates w Idle c small made few = (few.all, let count = few.few in omega arith)
given_all rates w (worlds.Full x field) c small made few = (few.all, let count = few.few in omega arith)
given_all rates w (Next v worlds.Changed) c small made few = (few.all, let count = few.few in omega arith)
given_all rates w (Next v (worlds.Taken took effect copies)) c small made few =
    (world_effect_all rates w (worlds.Taken took effect copies) c small made.1 few.all, let count = few.few in let nodes = small.nodes in omega (arith, world_effect_few rates w (worlds.Taken took effect copies) c, made.1))
given_all rates w (Next v (worlds.Sent effect copies)) c small made few =
    (world_effect_all rates w (worlds.Sent effect copies) c small made.1 few.all, let count = few.few in let nodes = small.nodes in omega (arith, world_effect_few rates w (worlds.Sent effect copies) c, made.1))
given_all rates w (Next v (worlds.CopyHeard from to)) c small made few = (few.all, let count = few.few in omega arith)
given_all rates w (Next v (worlds.CopyLost copy)) c small made few = (few.all, let count = few.few in omega arith)
given_all rates w (Next v (worlds.CopyDoubled id to parcel)) c small made few = (few.all, let count = few.few in omega arith)

all_have_lines : (es : List Event) → AllLeft es → AllByRecursion HasLine es
unfolding AllLeft
all_have_lines [] all = tt
all_have_lines (e ∷ es) all = (left_line e all.0, all_have_lines es all.1)

given_fits : (k : ℕ) (rates : Rates) (m : RunState) (e : Event) → 1300 * k ≤ 2 ^ 49 → HasLine e → IsKept m.run → Low m.run → IsFew m.channel.left → Room k m.run
    → FitsLine k m (given rates (with_world m.run) e m.channel)
unfolding AllLeft
given_fits k rates m e lines one kept low few room =
    let n : schedule.RunState = with_world m.run in
    let left = given_all rates (world_of n) (outcome_at n e) m.channel (small n (started_kept m.run kept) (low_started m.run low) (omega arith)) (step_few (world_of n) e) few in
    record {
      numbered = record { lines = (one, all_have_lines (after_given rates (world_of n) (outcome_at n e) m.channel).left left.0); left = none_few [] refl };
      few = omega (arith, left.1);
    }

-- the state after a line has room for the next
unfoldable StaysLow : ℕ → LineOutcome → Type 0
StaysLow k (On t n) = Low n × Room k n
StaysLow k (Refused why) = Unit {0}
StaysLow k (Full t n e field) = Unit {0}

drawn_by_events : (k : ℕ) (n : schedule.RunState) (r : auto.EventsOutcome) → Low n → Room k n → EndsAt n r → StaysLow k (outcome_by_events r)
unfolding EndsAt StaysLow Low
drawn_by_events k n (auto.Ended t j) low room ends = subst (λ i. Low (with_line_read i) × Room k (with_line_read i)) (sym ends) (low, room)
drawn_by_events k n (auto.Full t j e field) low room ends = tt

drawn_low : (k : ℕ) (m : schedule.RunState) (es : List Event) → UsualList (length m.mesh) es → IsKept m → Low m → m.steps + length es ≤ MOST + 1300 * k → StaysLow k (outcome_of_drawn m es)
unfolding StaysLow Low
drawn_low k m [] usual kept low few = (low, omega arith)
drawn_low k m (e ∷ es) usual kept low few =
    drawn_by_events k (run_state_after (with_world m) (e ∷ es)) (outcome_of_events (with_world m) (e ∷ es))
    (low_after (with_world m) (e ∷ es) usual (started_kept m kept) (low_started m low)) (omega (arith, steps_after_events (with_world m) (e ∷ es))) (ends_at (with_world m) (e ∷ es))

-- what holds of a line
record Holds (k : ℕ) (es : List Event) (o : LineOutcome) (c : Channel) : Type 0 where
  lines : AllByRecursion HasLine es
  stays : StaysLow (k + 1) o
  few : IsFew c.left

drawn_holds : (k : ℕ) (m : RunState) (d : Drawn) → FitsLine k m d → UsualList (length m.run.mesh) d.events → IsKept m.run → Low m.run → Holds k d.events (outcome_of_drawn m.run d.events) d.channel
drawn_holds k m d fits usual kept low = record { lines = fits.numbered.lines; stays = drawn_low (k + 1) m.run d.events usual kept low fits.few; few = fits.numbered.left }

own_line : (mesh : _) (e : Event) → Rattle.mesh_text.specs.Ranges.IsEventLine mesh e → HasLine e
own_line mesh (worlds.Give x d b) range = range.2
own_line mesh (worlds.Turn x) range = tt
own_line mesh (worlds.Send x d) range = tt
own_line mesh (worlds.Ask x d) range = tt
own_line mesh (worlds.Link a b) range = tt
own_line mesh (worlds.Cut a b) range = tt
own_line mesh (worlds.Deliver id) range = range.2
own_line mesh (worlds.Lose id) range = range.2
own_line mesh (worlds.Double id) range = range.2

plain_holds : (k : ℕ) (rates : Rates) (m : RunState) (a : AcceptedLine) → 1300 * k ≤ 2 ^ 49 → Allowed m.run.mesh (is_some m.run.world) (Ok a) → IsKept m.run → Low m.run → LeftUsual m.channel.left → IsFew m.channel.left → Room k m.run
    → Holds k (drawn_by rates m (Plain a)).events (outcome_of_line rates m (Plain a)) (drawn_by rates m (Plain a)).channel
unfolding Allowed StaysLow text.outcome_of_line Low
plain_holds k rates m Nothing lines allowed kept low usual few room = record { lines = tt; stays = (low, omega arith); few = few }
plain_holds k rates m (NewNode address first) lines allowed kept low usual few room = record { lines = tt; stays = (fresh_low m.run address first (not_made m.run.world allowed.1) low, omega arith); few = few }
plain_holds k rates m (Does e) lines allowed kept low usual few room =
    let d : Drawn = given rates (with_world m.run) e m.channel in
    drawn_holds k m d (given_fits k rates m e lines (own_line m.run.mesh e allowed.0) kept low few room) (usual_given rates (with_world m.run) e m.channel (length m.run.mesh) allowed.0.1 usual).events kept low
plain_holds k rates m (Chooses count) lines allowed kept low usual few room =
    let d : Drawn = chosen rates (Events count) m.run m.channel in
    drawn_holds k m d (chosen_fits k rates (Events count) m lines kept low usual few room) (usual_chosen rates (Events count) m.run m.channel kept usual).events kept low
plain_holds k rates m (ShowsNode x) lines allowed kept low usual few room = record { lines = tt; stays = (low, omega arith); few = few }
plain_holds k rates m (ShowsRoute x d) lines allowed kept low usual few room = record { lines = tt; stays = (low, omega arith); few = few }
plain_holds k rates m ShowsFlight lines allowed kept low usual few room = record { lines = tt; stays = (low, omega arith); few = few }

refused_holds : (k : ℕ) (c : Channel) (why : _) → IsFew c.left → Holds k [] (Refused why) c
unfolding StaysLow
refused_holds k c why few = record { lines = tt; stays = tt; few = few }

read_holds : (k : ℕ) (rates : Rates) (m : RunState) (passing : Result (Option ℕ) LineFault) (plain : Result AcceptedLine LineFault) → 1300 * k ≤ 2 ^ 49 → Allowed m.run.mesh (is_some m.run.world) plain
    → IsKept m.run → Low m.run → LeftUsual m.channel.left → IsFew m.channel.left → Room k m.run
    → Holds k (events_by rates m (line_by passing plain)) (outcome_of_read rates m (line_by passing plain)) (channel_by rates m (line_by passing plain))
read_holds k rates m (Ok (Some ticks)) plain lines allowed kept low usual few room =
    let until = tick_behind m.channel.tick ticks in
    drawn_holds k m (chosen rates until m.run m.channel) (chosen_fits k rates until m lines kept low usual few room) (usual_chosen rates until m.run m.channel kept usual).events kept low
read_holds k rates m (Ok None) (Ok a) lines allowed kept low usual few room = plain_holds k rates m a lines allowed kept low usual few room
read_holds k rates m (Ok None) (Err f) lines allowed kept low usual few room = refused_holds k m.channel _ few
read_holds k rates m (Err f) plain lines allowed kept low usual few room = refused_holds k m.channel _ few

piece_holds : (k : ℕ) (rates : Rates) (m : RunState) (piece : Piece) → 1300 * k ≤ 2 ^ 49 → IsKept m.run → Low m.run → LeftUsual m.channel.left → IsFew m.channel.left → Room k m.run
    → Holds k (events_of_piece rates m piece) (outcome_of_piece rates m piece) (channel_after rates m piece)
unfolding outcome_of_piece text.outcome_of_piece events_of_piece channel_after channel_line
piece_holds k rates m (Whole bytes) lines kept low usual few room =
    read_holds k rates m (passing_of m.run.mesh bytes) (line_of m.run.mesh (is_some m.run.world) bytes) lines (line_allowed m.run.mesh (is_some m.run.world) bytes kept.mesh.few) kept low usual few room
piece_holds k rates m Long lines kept low usual few room = refused_holds k m.channel _ few
piece_holds k rates m Beyond lines kept low usual few room = refused_holds k m.channel _ few

-- ---- all lines

both_lines : (es fs : List Event) → AllByRecursion HasLine es → AllByRecursion HasLine fs → AllByRecursion HasLine (es ++ fs)
both_lines [] fs one other = other
both_lines (e ∷ es) fs one other = (one.0, both_lines es fs one.1 other)

rest_lines : (rates : Rates) (m : RunState) (piece : Piece) (pieces : List Piece) (k : ℕ) (o : LineOutcome) → IsKeptCame o → StaysLow k o
    → ((n : schedule.RunState) → IsKept n → Low n → Room k n → AllByRecursion HasLine (events_from rates (next rates m piece n) pieces))
    → AllByRecursion HasLine (events_after o (λ n. events_from rates (next rates m piece n) pieces))
unfolding IsKeptCame StaysLow
rest_lines rates m piece pieces k (On t n) kept stays rest = rest n kept stays.0 stays.1
rest_lines rates m piece pieces k (Refused why) kept stays rest = tt
rest_lines rates m piece pieces k (Full t n e field) kept stays rest = tt

lines_from : (k : ℕ) (rates : Rates) (m : RunState) (pieces : List Piece) → k + length pieces ≤ 2 ^ 26 → IsKept m.run → Low m.run → LeftUsual m.channel.left → IsFew m.channel.left → Room k m.run
    → AllByRecursion HasLine (events_from rates m pieces)
unfolding events_from
lines_from k rates m [] count kept low usual few room = tt
lines_from k rates m (piece ∷ pieces) count kept low usual few room =
    let holds = piece_holds k rates m piece (omega arith) kept low usual few room in
    let leads = piece_leads rates m piece kept usual in
    both_lines (events_of_piece rates m piece) (events_after (outcome_of_piece rates m piece) (λ n. events_from rates (next rates m piece n) pieces)) holds.lines
    (rest_lines rates m piece pieces (k + 1) (outcome_of_piece rates m piece) leads.leads.kept holds.stays
    (λ n well lower more. lines_from (k + 1) rates (next rates m piece n) pieces (omega arith) well lower leads.left holds.few more))

-- ---- how many lines an input has

pieces_few : (most : Limits) (more : Bool) (ls : List (List ℕ)) → length (pieces_of most more ls) ≤ length ls
unfolding pieces_of
pieces_few most more [] = omega arith
pieces_few most more (l ∷ []) = let one = last_few most more l in omega arith
pieces_few most more (l ∷ n ∷ ls) = let rest = pieces_few most more (n ∷ ls) in omega arith

input_few : (input : List ℕ) → length (pieces_of_input input) ≤ 2 ^ 25
input_few input =
    let cut : List ℕ = take 16777216 input in
    let parts_count = length-slice_split (λ b. b == 10) cut in
    let bytes = count_by-le-length (λ b. b == 10) cut in
    let whole = length-take 16777216 input in
    omega (arith, pieces_few Rattle.mesh_io.specs.NextLines.schedule_limits (Rattle.std.specs.Prelude.nat_lt 16777216 (length input)) (parts 10 cut))

opening_low : (v : Variant) → Low (schedule.opening v)
unfolding Low worlds.start
opening_low v = (omega arith, omega arith)

pub events_have_lines : (rates : Rates) (v : Variant) (seed : ℕ) (input : List ℕ) → AllByRecursion HasLine (events_of_input rates v seed input)
unfolding events_of_input channels.opening
events_have_lines rates v seed input =
    lines_from 0 rates (opening v seed) (pieces_of_input input) (let few = input_few input in omega arith) (opening_kept v) (opening_low v) (opening_left v seed) (none_few [] refl) (omega arith)
