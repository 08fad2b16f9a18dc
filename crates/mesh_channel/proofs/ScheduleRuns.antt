-- The whole run of the schedule that a run over a channel chooses.
use Rattle.std.proofs.Common.{◌≡◌, ◌≢◌, ℕ, zero, suc, ◌+◌, ◌<◌, ◌≤◌, Bool, true, false, List, [], ◌∷◌, ◌++◌, Option, Some, None, Result, Ok, Err, length, map, refl, sym, ap, subst, ◌∙◌, arith, is_some, append-nil}
use Rattle.std.specs.List.{AllByRecursion}
use Rattle.std.proofs.lemmas.List.{map-append}
use Rattle.mesh_base.specs.Meshes.{Nodes, IsMesh}
use Rattle.mesh_base.specs.declared.events.Variant.{Variant}
use Rattle.mesh_model.specs.Worlds.{World, Event}
use Rattle.mesh_model.specs.InMesh.{IsEvent}
use Rattle.mesh_grammar.specs.declared.fault.LineFault.{LineFault}
use Rattle.mesh_grammar.specs.declared.fault.BadWhy.{BadWhy}
use Rattle.mesh_shell.specs.Pieces.{Piece, Whole, Long, Beyond}
use Rattle.mesh_shell.specs.Fold as shell
use Rattle.mesh_text.specs.Schedule as schedule
use Rattle.mesh_text.specs.Schedule.{AcceptedLine, Nothing, NewNode, Does, Chooses, ShowsNode, ShowsRoute, ShowsFlight, line_of, with_world, with_line_read}
use Rattle.mesh_text.specs.Auto as auto
use Rattle.mesh_text.specs.Auto.{outcome_of_events}
use Rattle.mesh_text.specs.Lines.{words_of}
use Rattle.mesh_text.specs.Runs.{run_state_after, events_after}
use Rattle.mesh_text.specs.Text as text
use Rattle.mesh_text.specs.Text.{pieces_of_input, LineOutcome, On, Refused, Full, outcome_by_events}
use Rattle.mesh_text.specs.declared.verdict.Verdict.TheVariants.{Finished, FullAt}
use Rattle.mesh_text.proofs.InRange.{Allowed, line_allowed}
use Rattle.mesh_text.proofs.RunStates.{IsKept, UsualList, opening_kept, IsKeptCame}
use Rattle.mesh_text.proofs.RunStateLaws.{mesh_after_events}
use Rattle.mesh_fates.specs.declared.rates.Rates.{Rates}
use Rattle.mesh_fates.specs.Channels.{Channel}
use Rattle.mesh_channel.specs.Choices.{tick_behind}
use Rattle.mesh_channel.specs.declared.until.Until.{Until}
use Rattle.mesh_channel.specs.declared.until.Until.TheVariants.{Events}
use Rattle.mesh_channel.specs.Chosen.{Drawn, given, chosen, chosen_in}
use Rattle.mesh_channel.specs.Lines.{Line, Passes, Plain, passing_of, line_by, channel_line}
use Rattle.mesh_channel.specs.Text.{RunState, opening, drawn_by, outcome_of_drawn, outcome_of_line, outcome_of_read, outcome_of_piece, channel_after, next, RunText, outcome_in_run, text_from, text_of_input}
use Rattle.mesh_channel.specs.Runs.{events_by, events_of_piece, events_from, events_of_input}
use Rattle.mesh_channel.specs.Schedule.{event_lines, lines_read, lines_of, lines_chosen, lines_after, schedule_from, chosen_schedule}
use Rattle.mesh_channel.proofs.HasLine.{HasLine}
use Rattle.mesh_channel.specs.Laws.{IsReplay, ChosenScheduleIsReplayed}
use Rattle.mesh_channel.proofs.InMesh.{LeftUsual, usual_chosen, usual_given}
use Rattle.mesh_channel.proofs.ChannelRuns.{EndsAt, ends_at, piece_leads, opening_left}
use Rattle.mesh_channel.proofs.Numbered.{events_have_lines}
use Rattle.mesh_channel.proofs.Replays.{at_line, pieces_of, event_line, AllLines, Replays, drawn_replays, node_replays, node_shown_replays, route_shown_replays, flight_shown_replays, blank_replays}

-- ---- a run that has started has nodes

abbrev HasNodes : schedule.RunState → Type 0
HasNodes m = is_some m.world ≡ true → 1 ≤ length m.mesh

unfoldable NodesCame : LineOutcome → Type 0
NodesCame (On t n) = HasNodes n
NodesCame (Refused why) = Unit {0}
NodesCame (Full t n e field) = Unit {0}

some_nodes : (m n : schedule.RunState) (r : auto.EventsOutcome) → n.mesh ≡ m.mesh → 1 ≤ length m.mesh → EndsAt n r → NodesCame (outcome_by_events r)
unfolding EndsAt NodesCame
some_nodes m n (auto.Ended t k) same some ends = λ made. let count : length k.mesh ≡ length m.mesh = ap (λ i. length i.mesh) ends ∙ ap length same in omega arith
some_nodes m n (auto.Full t k e field) same some ends = tt

drawn_nodes : (m : schedule.RunState) (es : List Event) → HasNodes m → (es ≢ [] → 1 ≤ length m.mesh) → NodesCame (outcome_of_drawn m es)
unfolding NodesCame
drawn_nodes m [] has some = has
drawn_nodes m (e ∷ es) has some =
    some_nodes m (run_state_after (with_world m) (e ∷ es)) (outcome_of_events (with_world m) (e ∷ es)) (mesh_after_events (with_world m) (e ∷ es))
    (some (λ none. let P : ⊥ = cc in P)) (ends_at (with_world m) (e ∷ es))

chosen_some : (rates : Rates) (until : Until) (m : schedule.RunState) (c : Channel) → HasNodes m → (chosen rates until m c).events ≢ [] → 1 ≤ length m.mesh
chosen_some rates until m c has = by m.world refl
  where
    by : (o : Option World) → m.world ≡ o → (chosen_in rates until m o c).events ≢ [] → 1 ≤ length m.mesh
    by None is some = absurd (some refl)
    by (Some w) is some = has (ap is_some is)

-- ---- events that lines may have

all_lines : (mesh : Nodes) (es : List Event) → 1 ≤ length mesh → UsualList (length mesh) es → AllByRecursion HasLine es → AllLines mesh es
unfolding UsualList
all_lines mesh [] some usual number = tt
all_lines mesh (e ∷ es) some usual number = (event_line mesh e some usual.0 number.0, all_lines mesh es some usual.1 number.1)

lines_if : (mesh : Nodes) (es : List Event) → (es ≢ [] → 1 ≤ length mesh) → UsualList (length mesh) es → AllByRecursion HasLine es → AllLines mesh es
lines_if mesh [] some usual number = tt
lines_if mesh (e ∷ es) some usual number = all_lines mesh (e ∷ es) (some (λ none. let P : ⊥ = cc in P)) usual number

all_front : (es fs : List Event) → AllByRecursion HasLine (es ++ fs) → AllByRecursion HasLine es
all_front [] fs all = tt
all_front (e ∷ es) fs all = (all.0, all_front es fs all.1)

all_rest : (es fs : List Event) → AllByRecursion HasLine (es ++ fs) → AllByRecursion HasLine fs
all_rest [] fs all = all
all_rest (e ∷ es) fs all = all_rest es fs all.1

-- ---- one line

-- the run of a schedule from here on has done what a line comes to, and goes on with these lines; and after it there are nodes
record Stands (m : RunState) (c : LineOutcome) (ls : List (List ℕ)) : Type 0 where
  replays : (k : ℕ) (rest : List Piece) (r : text.RunText) → r ≡ text.text_from (at_line m.run k) (pieces_of ls ++ rest) → ((why : BadWhy) → c ≡ Refused why → rest ≡ []) → Replays m.run c (λ n. text.text_from n rest) r
  nodes : NodesCame c

drawn_stands : (m : RunState) (d : Drawn) → IsKept m.run → HasNodes m.run → (d.events ≢ [] → 1 ≤ length m.run.mesh) → UsualList (length m.run.mesh) d.events → AllByRecursion HasLine d.events
    → Stands m (outcome_of_drawn m.run d.events) (event_lines m.run.mesh d.events)
drawn_stands m d is has some usual number = record {
  replays = λ k rest r same none. subst (Replays m.run (outcome_of_drawn m.run d.events) (λ n. text.text_from n rest)) (sym same) (drawn_replays m.run k d.events rest is.mesh (lines_if m.run.mesh d.events some usual number));
  nodes = drawn_nodes m.run d.events has some;
}

absurd_made : (m : schedule.RunState) → is_some m.world ≡ false → {A : Type 0} → is_some m.world ≡ true → A
absurd_made m early made = absurd (let clash : true ≡ false = sym made ∙ early in let P : ⊥ = cc in P)

plain_stands : (rates : Rates) (m : RunState) (a : AcceptedLine) → Allowed m.run.mesh (is_some m.run.world) (Ok a) → IsKept m.run → LeftUsual m.channel.left → HasNodes m.run
    → AllByRecursion HasLine (drawn_by rates m (Plain a)).events → Stands m (outcome_of_line rates m (Plain a)) (lines_of rates m (Plain a))
unfolding Allowed NodesCame text.outcome_of_line
plain_stands rates m Nothing allowed is left has number = record {
  replays = λ k rest r same none. subst (Replays m.run (text.outcome_of_line m.run Nothing) (λ n. text.text_from n rest)) (sym same) (blank_replays m.run k rest);
  nodes = has;
}
plain_stands rates m (NewNode address first) allowed is left has number = record {
  replays = λ k rest r same none. subst (Replays m.run (text.outcome_of_line m.run (NewNode address first)) (λ n. text.text_from n rest)) (sym same) (node_replays m.run k address first rest is.mesh allowed.0 allowed.1);
  nodes = λ made. absurd_made m.run allowed.1 made;
}
plain_stands rates m (Does e) allowed is left has number =
    let d : Drawn = given rates (with_world m.run) e m.channel in
    drawn_stands m d is has (λ _. allowed.0.0) (usual_given rates (with_world m.run) e m.channel (length m.run.mesh) allowed.0.1 left).events number
plain_stands rates m (Chooses count) allowed is left has number =
    let d : Drawn = chosen rates (Events count) m.run m.channel in
    drawn_stands m d is has (chosen_some rates (Events count) m.run m.channel has) (usual_chosen rates (Events count) m.run m.channel is left).events number
plain_stands rates m (ShowsNode x) allowed is left has number = record {
  replays = λ k rest r same none. subst (Replays m.run (text.outcome_of_line m.run (ShowsNode x)) (λ n. text.text_from n rest)) (sym same) (node_shown_replays m.run k x rest is.mesh allowed.0);
  nodes = λ made. let some = allowed.0 in omega arith;
}
plain_stands rates m (ShowsRoute x d) allowed is left has number = record {
  replays = λ k rest r same none. subst (Replays m.run (text.outcome_of_line m.run (ShowsRoute x d)) (λ n. text.text_from n rest)) (sym same) (route_shown_replays m.run k x d rest is.mesh allowed.0);
  nodes = λ made. let some = allowed.0.0 in omega arith;
}
plain_stands rates m ShowsFlight allowed is left has number = record {
  replays = λ k rest r same none. subst (Replays m.run (text.outcome_of_line m.run ShowsFlight) (λ n. text.text_from n rest)) (sym same) (flight_shown_replays m.run k rest is.mesh allowed.0);
  nodes = λ made. allowed.0;
}

refused_stands : (m : RunState) (why : BadWhy) → Stands m (Refused why) []
unfolding Replays NodesCame shell.text_from
refused_stands m why = record {
  replays = λ k rest r same none. (k, same ∙ ap (text.text_from (at_line m.run k)) (none why refl));
  nodes = tt;
}

read_stands : (rates : Rates) (m : RunState) (passing : Result (Option ℕ) LineFault) (plain : Result AcceptedLine LineFault) → Allowed m.run.mesh (is_some m.run.world) plain → IsKept m.run → LeftUsual m.channel.left → HasNodes m.run
    → AllByRecursion HasLine (events_by rates m (line_by passing plain)) → Stands m (outcome_of_read rates m (line_by passing plain)) (lines_read rates m (line_by passing plain))
read_stands rates m (Ok (Some ticks)) plain allowed is left has number =
    let until : Until = tick_behind m.channel.tick ticks in
    drawn_stands m (chosen rates until m.run m.channel) is has (chosen_some rates until m.run m.channel has) (usual_chosen rates until m.run m.channel is left).events number
read_stands rates m (Ok None) (Ok a) allowed is left has number = plain_stands rates m a allowed is left has number
read_stands rates m (Ok None) (Err f) allowed is left has number = refused_stands m _
read_stands rates m (Err f) plain allowed is left has number = refused_stands m _

piece_stands : (rates : Rates) (m : RunState) (piece : Piece) → IsKept m.run → LeftUsual m.channel.left → HasNodes m.run → AllByRecursion HasLine (events_of_piece rates m piece)
    → Stands m (outcome_of_piece rates m piece) (lines_chosen rates m piece)
unfolding outcome_of_piece text.outcome_of_piece events_of_piece lines_chosen channel_line
piece_stands rates m (Whole bytes) is left has number =
    read_stands rates m (passing_of m.run.mesh bytes) (line_of m.run.mesh (is_some m.run.world) bytes) (line_allowed m.run.mesh (is_some m.run.world) bytes is.mesh.few) is left has number
piece_stands rates m Long is left has number = refused_stands m _
piece_stands rates m Beyond is left has number = refused_stands m _

-- ---- all lines

before_replays : (t : List ℕ) (r : text.RunText) (w : RunText) → IsReplay r w → IsReplay (shell.lines_before t r) (shell.lines_before t w)
before_replays t r w is = record { lines = ap (λ l. t ++ l) is.lines; verdict = is.verdict; last = is.last; after = is.after }

-- the runs of the lines that follow
Follows : Rates → RunState → Piece → List Piece → LineOutcome → Type 0
Follows rates m piece pieces (On t n) = (k : ℕ) → IsReplay (text.text_from (at_line n k) (pieces_of (schedule_from rates (next rates m piece n) pieces))) (text_from rates (next rates m piece n) pieces)
Follows rates m piece pieces (Refused why) = Unit {0}
Follows rates m piece pieces (Full t n e field) = Unit {0}

rest_pieces : Rates → RunState → Piece → List Piece → LineOutcome → List Piece
rest_pieces rates m piece pieces c = pieces_of (lines_after c (λ n. schedule_from rates (next rates m piece n) pieces))

full_alike : (k j : ℕ) (v : _) → v ≡ FullAt k → Rattle.mesh_channel.specs.Laws.AreAlike v (FullAt j)
full_alike k j v is = rw is tt

by_outcome : (rates : Rates) (m : RunState) (piece : Piece) (pieces : List Piece) (c : LineOutcome) (r : text.RunText)
    → Replays m.run c (λ n. text.text_from n (rest_pieces rates m piece pieces c)) r → Follows rates m piece pieces c
    → IsReplay r (shell.goes_on m (outcome_in_run rates m piece c) (λ n. text_from rates n pieces))
unfolding Replays Follows rest_pieces
by_outcome rates m piece pieces (On t n) r replays follows =
    subst (λ s. IsReplay s (shell.lines_before t (text_from rates (next rates m piece n) pieces))) (sym replays.1)
    (before_replays t (text.text_from (at_line n replays.0) (pieces_of (schedule_from rates (next rates m piece n) pieces))) (text_from rates (next rates m piece n) pieces) (follows replays.0))
by_outcome rates m piece pieces (Refused why) r replays follows =
    subst (λ s. IsReplay s (shell.goes_on m (outcome_in_run rates m piece (Refused why)) (λ n. text_from rates n pieces))) (sym replays.1)
    (record { lines = refl; verdict = tt; last = λ finished. absurd (let P : ⊥ = cc in P); after = λ _. refl })
by_outcome rates m piece pieces (Full t n e field) r replays follows = record {
  lines = replays.1;
  verdict = full_alike replays.0 (m.run.lines + 1) r.verdict replays.2;
  last = λ finished. absurd (let P : ⊥ = cc in P);
  after = λ not_full. absurd (not_full (m.run.lines + 1) refl);
}

none_behind : (rates : Rates) (m : RunState) (piece : Piece) (pieces : List Piece) (c : LineOutcome) (why : BadWhy) → c ≡ Refused why → rest_pieces rates m piece pieces c ≡ []
unfolding rest_pieces
none_behind rates m piece pieces (On t n) why is = absurd (let P : ⊥ = cc in P)
none_behind rates m piece pieces (Refused w) why is = refl
none_behind rates m piece pieces (Full t n e field) why is = absurd (let P : ⊥ = cc in P)

pub replays_from : (rates : Rates) (m : RunState) (pieces : List Piece) (k : ℕ) → IsKept m.run → LeftUsual m.channel.left → HasNodes m.run → AllByRecursion HasLine (events_from rates m pieces)
    → IsReplay (text.text_from (at_line m.run k) (pieces_of (schedule_from rates m pieces))) (text_from rates m pieces)
unfolding schedule_from events_from shell.text_from rest_pieces IsKeptCame NodesCame Follows
replays_from rates m [] k is left has number = record { lines = refl; verdict = tt; last = λ _. refl; after = λ _. refl }
replays_from rates m (piece ∷ pieces) k is left has number =
    by_outcome rates m piece pieces c r (stands.replays k (rest_pieces rates m piece pieces c) r cut (none_behind rates m piece pieces c)) (follows c leads.leads.kept stands.nodes (all_rest (events_of_piece rates m piece) _ number)
    (λ n j kept nodes rest. replays_from rates (next rates m piece n) pieces j kept leads.left nodes rest))
  where
    c : LineOutcome
    c = outcome_of_piece rates m piece

    ls : List (List ℕ)
    ls = lines_chosen rates m piece

    r : text.RunText
    r = text.text_from (at_line m.run k) (pieces_of (ls ++ lines_after c (λ n. schedule_from rates (next rates m piece n) pieces)))

    stands : Stands m c ls
    stands = piece_stands rates m piece is left has (all_front (events_of_piece rates m piece) _ number)

    leads : Rattle.mesh_channel.proofs.ChannelRuns.LineLeads rates m (events_of_piece rates m piece) c (channel_after rates m piece)
    leads = piece_leads rates m piece is left

    cut : r ≡ text.text_from (at_line m.run k) (pieces_of ls ++ rest_pieces rates m piece pieces c)
    cut = ap (text.text_from (at_line m.run k)) (map-append Whole ls (lines_after c (λ n. schedule_from rates (next rates m piece n) pieces)))

    follows : (o : LineOutcome) → IsKeptCame o → NodesCame o → AllByRecursion HasLine (events_after o (λ n. events_from rates (next rates m piece n) pieces))
        → ((n : schedule.RunState) (j : ℕ) → IsKept n → HasNodes n → AllByRecursion HasLine (events_from rates (next rates m piece n) pieces)
        → IsReplay (text.text_from (at_line n j) (pieces_of (schedule_from rates (next rates m piece n) pieces))) (text_from rates (next rates m piece n) pieces))
        → Follows rates m piece pieces o
    follows (On t n) kept nodes rest more = λ j. more n j kept nodes rest
    follows (Refused why) kept nodes rest more = tt
    follows (Full t n e field) kept nodes rest more = tt

pub chosen_schedule_is_replayed : ChosenScheduleIsReplayed
unfolding text_of_input shell.text_on events_of_input chosen_schedule
chosen_schedule_is_replayed rates v seed input =
    replays_from rates (opening v seed) (pieces_of_input input) 0 (opening_kept v) (opening_left v seed) (λ made. absurd (let P : ⊥ = cc in P)) (events_have_lines rates v seed input)
