-- The worlds of a run over a channel are those of the run of its events.
use Rattle.std.proofs.Common.{◌≡◌, ◌≢◌, inl, inr, ℕ, ◌-◌, ◌<◌, ◌≤◌, Bool, false, List, [], ◌∷◌, ◌++◌, Option, Some, None, Result, Ok, Err, length, take, refl, sym, ap, subst, ◌∙◌, arith, is_some}
use Rattle.std.specs.List.{AllByRecursion}
use Rattle.std.proofs.lemmas.List.{length-map}
use Rattle.mesh_base.specs.Meshes.{Nodes}
use Rattle.mesh_base.specs.declared.events.Variant.{Variant}
use Rattle.mesh_base.proofs.Lemmas.Lists.{each_take}
use Rattle.mesh_model.specs.Worlds as worlds
use Rattle.mesh_model.specs.Worlds.{Event, Outcome, Idle, Next, first_numbers}
use Rattle.mesh_model.specs.InMesh.{IsEvent}
use Rattle.mesh_model.proofs.AccountSteps.{account}
use Rattle.mesh_model.proofs.Acyclic.{loop_free}
use Rattle.mesh_grammar.specs.declared.fault.LineFault.{LineFault}
use Rattle.mesh_shell.specs.Pieces.{Piece, Whole, Long, Beyond}
use Rattle.mesh_shell.specs.Fold as shell
use Rattle.mesh_text.specs.Schedule as schedule
use Rattle.mesh_text.specs.Schedule.{AcceptedLine, Nothing, NewNode, Does, Chooses, ShowsNode, ShowsRoute, ShowsFlight, line_of, world_of, with_world, next_state, outcome_at, with_line_read}
use Rattle.mesh_text.specs.Auto as auto
use Rattle.mesh_text.specs.Auto.{outcome_of_events, done_then, before}
use Rattle.mesh_text.specs.Runs as runs
use Rattle.mesh_text.specs.Runs.{run_state_after, events_after, events_read}
use Rattle.mesh_text.specs.Text as text
use Rattle.mesh_text.specs.Text.{pieces_of_input, LineOutcome, On, Refused, Full, outcome_by_events}
use Rattle.mesh_text.proofs.InRange.{Allowed, line_allowed}
use Rattle.mesh_text.proofs.RunStates.{IsKept, UsualList, all_positive, opening_kept, counted_kept, started_kept, IsKeptCame, piece_kept as schedule_kept}
use Rattle.mesh_text.proofs.RunLaws.{NotFull, Follows, follows, GoesBy, result_goes, read_usual, goes_follows}
use Rattle.mesh_text.proofs.RunStateLaws.{world_after_events, mesh_after_events, count_after_events, kept_after_events, variant_after_events, made_after_events}
use Rattle.mesh_fates.specs.declared.rates.Rates.{Rates}
use Rattle.mesh_fates.specs.Channels as channels
use Rattle.mesh_fates.specs.Channels.{Channel}
use Rattle.mesh_channel.specs.Choices.{tick_behind}
use Rattle.mesh_channel.specs.declared.until.Until.TheVariants.{Events}
use Rattle.mesh_channel.specs.Chosen.{Drawn, given, chosen}
use Rattle.mesh_channel.specs.Lines.{Line, Passes, Plain, passing_of, plain_by, line_by, channel_line}
use Rattle.mesh_channel.specs.Text.{RunState, opening, drawn_by, outcome_of_drawn, outcome_of_line, outcome_of_read, line_at, outcome_of_piece, channel_by, channel_after, next, RunText, outcome_in_run, text_from, text_of_input}
use Rattle.mesh_channel.specs.Runs.{events_by, events_of_piece, events_from, events_of_input, mesh_of_input, world_after}
use Rattle.mesh_channel.specs.Laws.{WorldsAreOfEvents, RunsOverChannelsAreLoopFree, EachDatumIsAccountedFor}
use Rattle.mesh_channel.proofs.InMesh.{LeftUsual, none_left, UsualDrawn, usual_chosen, usual_given}

-- ---- events one after another

-- where all were done, the state is the one after them
unfoldable pub EndsAt : schedule.RunState → auto.EventsOutcome → Type 0
EndsAt n (auto.Ended text k) = k ≡ n
EndsAt n (auto.Full text k e field) = Unit {0}

ends_before : (n : schedule.RunState) (text : List ℕ) (r : auto.EventsOutcome) → EndsAt n r → EndsAt n (before text r)
unfolding EndsAt
ends_before n text (auto.Ended others k) is = is
ends_before n text (auto.Full others k e field) is = tt

ends_then : (m n : schedule.RunState) (e : Event) (o : Outcome) (others : schedule.RunState → auto.EventsOutcome) → EndsAt n (others (next_state m e)) → EndsAt n (done_then m e o others)
unfolding EndsAt
ends_then m n e Idle others is = ends_before n _ (others (next_state m e)) is
ends_then m n e (worlds.Full x field) others is = tt
ends_then m n e (Next w h) others is = ends_before n _ (others (next_state m e)) is

pub ends_at : (m : schedule.RunState) (es : List Event) → EndsAt (run_state_after m es) (outcome_of_events m es)
unfolding EndsAt run_state_after outcome_of_events
ends_at m [] = refl
ends_at m (e ∷ es) = ends_then m (run_state_after (next_state m e) es) e (outcome_at m e) (λ n. outcome_of_events n es) (ends_at (next_state m e) es)

-- ---- one line

-- what holds of a line: its events are of the mesh, and it leads to the state after them
pub record Leads (m : schedule.RunState) (es : List Event) (c : LineOutcome) : Type 0 where
  pub goes : GoesBy m es c
  pub kept : IsKeptCame c
  pub usual : UsualList (length m.mesh) es

some_lead : (m : schedule.RunState) (e : Event) (es : List Event) (r : auto.EventsOutcome) → UsualList (length m.mesh) (e ∷ es) → IsKept m → EndsAt (run_state_after (with_world m) (e ∷ es)) r
    → Leads m (e ∷ es) (outcome_by_events r)
unfolding EndsAt GoesBy IsKeptCame
some_lead m e es (auto.Full text n f field) usual is ends = record { goes = tt; kept = tt; usual = usual }
some_lead m e es (auto.Ended text n) usual is ends =
    let all : List Event = e ∷ es in
    subst (λ k. Leads m all (On text (with_line_read k))) (sym ends) (record {
      goes = inr (record {
        variant = variant_after_events (with_world m) all;
        mesh = mesh_after_events (with_world m) all;
        made = made_after_events (with_world m) all refl;
        world = world_after_events (with_world m) all;
        count = count_after_events (with_world m) all;
      });
      kept = counted_kept (run_state_after (with_world m) all) (kept_after_events (with_world m) all usual (started_kept m is));
      usual = usual;
    })

drawn_leads : (m : schedule.RunState) (es : List Event) → UsualList (length m.mesh) es → IsKept m → Leads m es (outcome_of_drawn m es)
unfolding GoesBy IsKeptCame
drawn_leads m [] usual is = record {
  goes = inl (record { variant = refl; mesh = λ _. refl; world = refl; none = refl; count = refl });
  kept = counted_kept m is;
  usual = usual;
}
drawn_leads m (e ∷ es) usual is = some_lead m e es (outcome_of_events (with_world m) (e ∷ es)) usual is (ends_at (with_world m) (e ∷ es))

-- a line of the schedule that is read so
read_kept : (m : schedule.RunState) (bytes : List ℕ) (a : AcceptedLine) → line_of m.mesh (is_some m.world) bytes ≡ Ok a → IsKept m → IsKeptCame (text.outcome_of_line m a)
unfolding text.outcome_of_piece
read_kept m bytes a reads is =
    let same : text.outcome_of_piece m (Whole bytes) ≡ text.outcome_of_read m (Ok a) = ap (text.outcome_of_read m) reads in
    subst IsKeptCame same (schedule_kept m (Whole bytes) is)

other_leads : (m : schedule.RunState) (bytes : List ℕ) (a : AcceptedLine) → line_of m.mesh (is_some m.world) bytes ≡ Ok a → Allowed m.mesh (is_some m.world) (Ok a) → IsKept m
    → Leads m (runs.events_of_line m a) (text.outcome_of_line m a)
other_leads m bytes a reads allowed is = record {
  goes = result_goes m (Ok a) allowed;
  kept = read_kept m bytes a reads is;
  usual = read_usual m (Ok a) allowed is;
}

-- what holds of a line over a channel, whose state has nothing left to do but doublings and losses
pub record LineLeads (rates : Rates) (m : RunState) (es : List Event) (c : LineOutcome) (after : Channel) : Type 0 where
  pub leads : Leads m.run es c
  pub left : LeftUsual after.left

by_drawn : (rates : Rates) (m : RunState) (d : Drawn) → UsualDrawn (length m.run.mesh) d → IsKept m.run → LineLeads rates m d.events (outcome_of_drawn m.run d.events) d.channel
by_drawn rates m d usual is = record { leads = drawn_leads m.run d.events usual.events is; left = usual.left }

plain_leads : (rates : Rates) (m : RunState) (bytes : List ℕ) (a : AcceptedLine) → line_of m.run.mesh (is_some m.run.world) bytes ≡ Ok a → Allowed m.run.mesh (is_some m.run.world) (Ok a) → IsKept m.run → LeftUsual m.channel.left
    → LineLeads rates m (drawn_by rates m (Plain a)).events (outcome_of_line rates m (Plain a)) (drawn_by rates m (Plain a)).channel
unfolding Allowed
plain_leads rates m bytes Nothing reads allowed is left = record { leads = other_leads m.run bytes Nothing reads allowed is; left = left }
plain_leads rates m bytes (NewNode address first) reads allowed is left = record { leads = other_leads m.run bytes (NewNode address first) reads allowed is; left = left }
plain_leads rates m bytes (Does e) reads allowed is left =
    by_drawn rates m (given rates (with_world m.run) e m.channel) (usual_given rates (with_world m.run) e m.channel (length m.run.mesh) allowed.0.1 left) is
plain_leads rates m bytes (Chooses count) reads allowed is left =
    by_drawn rates m (chosen rates (Events count) m.run m.channel) (usual_chosen rates (Events count) m.run m.channel is left) is
plain_leads rates m bytes (ShowsNode x) reads allowed is left = record { leads = other_leads m.run bytes (ShowsNode x) reads allowed is; left = left }
plain_leads rates m bytes (ShowsRoute x d) reads allowed is left = record { leads = other_leads m.run bytes (ShowsRoute x d) reads allowed is; left = left }
plain_leads rates m bytes ShowsFlight reads allowed is left = record { leads = other_leads m.run bytes ShowsFlight reads allowed is; left = left }

refused_leads : (rates : Rates) (m : RunState) (c : Channel) (why : _) → LeftUsual c.left → LineLeads rates m [] (Refused why) c
unfolding GoesBy IsKeptCame UsualList
refused_leads rates m c why left = record { leads = record { goes = refl; kept = tt; usual = tt }; left = left }

read_leads : (rates : Rates) (m : RunState) (bytes : List ℕ) (passing : Result (Option ℕ) LineFault) (plain : Result AcceptedLine LineFault) → line_of m.run.mesh (is_some m.run.world) bytes ≡ plain
    → Allowed m.run.mesh (is_some m.run.world) plain → IsKept m.run → LeftUsual m.channel.left
    → LineLeads rates m (events_by rates m (line_by passing plain)) (outcome_of_read rates m (line_by passing plain)) (channel_by rates m (line_by passing plain))
read_leads rates m bytes (Ok (Some ticks)) plain reads allowed is left =
    let until = tick_behind m.channel.tick ticks in
    by_drawn rates m (chosen rates until m.run m.channel) (usual_chosen rates until m.run m.channel is left) is
read_leads rates m bytes (Ok None) (Ok a) reads allowed is left = plain_leads rates m bytes a reads allowed is left
read_leads rates m bytes (Ok None) (Err f) reads allowed is left = refused_leads rates m m.channel _ left
read_leads rates m bytes (Err f) plain reads allowed is left = refused_leads rates m m.channel _ left

pub piece_leads : (rates : Rates) (m : RunState) (piece : Piece) → IsKept m.run → LeftUsual m.channel.left
    → LineLeads rates m (events_of_piece rates m piece) (outcome_of_piece rates m piece) (channel_after rates m piece)
unfolding outcome_of_piece text.outcome_of_piece events_of_piece channel_after channel_line
piece_leads rates m (Whole bytes) is left =
    read_leads rates m bytes (passing_of m.run.mesh bytes) (line_of m.run.mesh (is_some m.run.world) bytes) refl (line_allowed m.run.mesh (is_some m.run.world) bytes is.mesh.few) is left
piece_leads rates m Long is left = refused_leads rates m m.channel _ left
piece_leads rates m Beyond is left = refused_leads rates m m.channel _ left

-- ---- whole runs

-- the run without its channel
abbrev pub run_in : RunText → text.RunText
run_in w = record { lines = w.lines; last = w.last; verdict = w.verdict; after = w.after.run; complete = w.complete }

goes_in : (rates : Rates) (m : RunState) (piece : Piece) (c : LineOutcome) (others : RunState → RunText)
    → text.goes_on m.run c (λ n. run_in (others (next rates m piece n))) ≡ run_in (shell.goes_on m (outcome_in_run rates m piece c) others)
goes_in rates m piece (On text n) others = refl
goes_in rates m piece (Refused why) others = refl
goes_in rates m piece (Full text n e field) others = refl

pub run_follows : (rates : Rates) (m : RunState) (pieces : List Piece) → IsKept m.run → LeftUsual m.channel.left → Follows m.run (events_from rates m pieces) (run_in (text_from rates m pieces))
unfolding events_from shell.text_from runs.events_from
run_follows rates m [] is left = let none = follows m.run [] is in record { mesh = λ _. refl; low = omega arith; world = none.world; all = λ _. omega arith; usual = tt }
run_follows rates m (piece ∷ pieces) is left =
    let line = piece_leads rates m piece is left in
    subst (Follows m.run (events_from rates m (piece ∷ pieces))) (goes_in rates m piece (outcome_of_piece rates m piece) (λ n. text_from rates n pieces))
    (goes_follows m.run (events_of_piece rates m piece) (outcome_of_piece rates m piece) (λ n. run_in (text_from rates (next rates m piece n) pieces)) (λ n. events_from rates (next rates m piece n) pieces)
    line.leads.goes line.leads.kept line.leads.usual (λ n kept. run_follows rates (next rates m piece n) pieces kept line.left))

goes_kept : (rates : Rates) (m : RunState) (piece : Piece) (c : LineOutcome) (others : RunState → RunText) → IsKeptCame c → IsKept m.run
    → ((n : schedule.RunState) → IsKept n → IsKept (others (next rates m piece n)).after.run) → IsKept (shell.goes_on m (outcome_in_run rates m piece c) others).after.run
unfolding IsKeptCame
goes_kept rates m piece (On text n) others kept is rest = rest n kept
goes_kept rates m piece (Refused why) others kept is rest = is
goes_kept rates m piece (Full text n e field) others kept is rest = is

pub run_kept : (rates : Rates) (m : RunState) (pieces : List Piece) → IsKept m.run → LeftUsual m.channel.left → IsKept (text_from rates m pieces).after.run
unfolding shell.text_from
run_kept rates m [] is left = is
run_kept rates m (piece ∷ pieces) is left =
    let line = piece_leads rates m piece is left in
    goes_kept rates m piece (outcome_of_piece rates m piece) (λ n. text_from rates n pieces) line.leads.kept is (λ n kept. run_kept rates (next rates m piece n) pieces kept line.left)

pub opening_left : (v : Variant) (seed : ℕ) → LeftUsual (opening v seed).channel.left
unfolding channels.opening
opening_left v seed = none_left

-- ---- the laws

input_kept : (rates : Rates) (v : Variant) (seed : ℕ) (input : List ℕ) → IsKept (text_of_input rates v seed input).after.run
unfolding text_of_input shell.text_on
input_kept rates v seed input = run_kept rates (opening v seed) (pieces_of_input input) (opening_kept v) (opening_left v seed)

input_follows : (rates : Rates) (v : Variant) (seed : ℕ) (input : List ℕ) → Follows (schedule.opening v) (events_of_input rates v seed input) (run_in (text_of_input rates v seed input))
unfolding text_of_input shell.text_on events_of_input
input_follows rates v seed input = run_follows rates (opening v seed) (pieces_of_input input) (opening_kept v) (opening_left v seed)

pub worlds_are_of_events : WorldsAreOfEvents
worlds_are_of_events rates v seed input =
    let is = input_follows rates v seed input in
    let events : ℕ = (text_of_input rates v seed input).after.run.sums.events in
    let count : events - 0 ≡ events = omega arith in
    is.world ∙ ap (λ k. world_after rates v seed input k) count

pub runs_over_channels_are_loop_free : RunsOverChannelsAreLoopFree
runs_over_channels_are_loop_free rates v seed input k d =
    loop_free v (first_numbers (mesh_of_input rates v seed input)) (take k (events_of_input rates v seed input)) d
    (all_positive (mesh_of_input rates v seed input) (input_kept rates v seed input).mesh)

pub each_datum_is_accounted_for : EachDatumIsAccountedFor
each_datum_is_accounted_for rates v seed input t k =
    let mesh : Nodes = mesh_of_input rates v seed input in
    let es : List Event = take k (events_of_input rates v seed input) in
    let usual : AllByRecursion (IsEvent (length (first_numbers mesh))) es = subst (λ n. AllByRecursion (IsEvent n) es) (sym (length-map mesh (λ p. p.1)))
    (each_take (IsEvent (length mesh)) k (events_of_input rates v seed input) (input_follows rates v seed input).usual) in
    let sums = account t v (first_numbers mesh) es (all_positive mesh (input_kept rates v seed input).mesh) usual in
    omega arith
