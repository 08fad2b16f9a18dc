-- The text of a run has a line for each time that a datum was delivered or dropped, whatever ends the run.
use Rattle.std.proofs.Common.{◌≡◌, ℕ, zero, suc, ◌+◌, ◌⊎◌, inl, inr, Bool, true, false, cond, List, [], ◌∷◌, ◌++◌, codes, Option, Some, None, Result, Ok, Err, length, append-nil, is_some, refl, sym, ap, ap₂, subst, ◌∙◌, arith}
use Rattle.std.specs.Prelude.{slice_get}
use Rattle.std.specs.Option.{unwrap_or}
use Rattle.std.specs.List.{AllByRecursion, count_by}
use Rattle.std.specs.Fmt.{decimal}
use Rattle.std.proofs.lemmas.List.{length-map}
use Rattle.std.proofs.lemmas.List.Sums.{sum_by-cons}
use Rattle.mesh_base.specs.declared.events.Full.{Full as Counter}
use Rattle.mesh_base.specs.declared.events.Variant.{Variant}
use Rattle.mesh_base.specs.Meshes.{Nodes, with_node}
use Rattle.aodv_model.specs.Cores.{Body}
use Rattle.mesh_model.specs.Worlds as worlds
use Rattle.mesh_model.specs.Worlds.{World, Event, Give, Turn, Send, Ask, Link, Cut, Deliver, Lose, Double, Outcome, Idle, Next, after, step, run, start, first_numbers}
use Rattle.mesh_model.specs.Accounts.{Test, delivered_data, dropped_data, over_run}
use Rattle.mesh_model.specs.Choices.{pick}
use Rattle.mesh_model.specs.Routes.{route_end}
use Rattle.mesh_model.proofs.MeshSteps.{start_placed}
use Rattle.mesh_model.proofs.Sizes.{start_size}
use Rattle.mesh_grammar.specs.declared.fault.LineFault.{LineFault}
use Rattle.mesh_grammar.specs.Written.{line, command_text}
use Rattle.mesh_shell.specs.Pieces.{Piece, Whole, Long, Beyond}
use Rattle.mesh_shell.specs.Fold as shell
use Rattle.mesh_text.specs.Schedule.{RunState, opening, AcceptedLine, Nothing, NewNode, Does, Chooses, ShowsNode, ShowsRoute, ShowsFlight, line_of, world_of, with_world, outcome_at, next_state}
use Rattle.mesh_text.specs.Lines.{words_of}
use Rattle.mesh_text.specs.Effects.{datum_text, outcome_lines}
use Rattle.mesh_text.specs.Tables.{node_text_in, end_text, flight_text}
use Rattle.mesh_text.specs.Ranges.{IsInRange}
use Rattle.mesh_text.specs.Auto as auto
use Rattle.mesh_text.specs.Auto.{events_chosen}
use Rattle.mesh_text.specs.Text.{LineOutcome, On, Refused, Full, text_in, outcome_by_events, outcome_of_auto, outcome_of_line, outcome_of_read, outcome_of_piece, RunText, goes_on, text_from, text_of_input}
use Rattle.mesh_text.specs.Runs.{events_of_line, events_read, events_of_piece, events_after, events_from, events_of_input, mesh_of_input}
use Rattle.mesh_text.specs.EveryWorld.{opening_world}
use Rattle.mesh_text.specs.NamedData.{only_datum, lines_equal}
use Rattle.mesh_text.specs.Laws.{EachDatumIsNamed}
use Rattle.mesh_text.proofs.InRange.{Allowed, line_allowed}
use Rattle.mesh_text.proofs.RunStates.{IsKept, IsKeptCame, all_positive, opening_kept, input_kept, piece_kept}
use Rattle.mesh_text.proofs.RunLaws.{base, Quiet, IsRan, GoesBy, Follows, follows, piece_goes, made_base, events_are_of_mesh}
use Rattle.mesh_text.proofs.Clean.{decimal_clean}
use Rattle.mesh_text.proofs.Tellings.{Naming, Tells, lines_by, deliveries_in, drops_in, tells_none, tells_append, silent_append, silent_before, silent_after, silent_line}
use Rattle.mesh_text.proofs.TableTexts.{node_in_silent, end_silent, flight_silent}
use Rattle.mesh_text.proofs.NamedData.{HasCleanBody, one_word, two_words, event_named, chosen_clean, event_line_clean, node_words_clean}
use Rattle.mesh_text.proofs.DataInMesh.{runs_agree}
use Rattle.mesh_text.proofs.DatumLines.{datum_named, deliveries_agree, drops_agree}

-- a text names what these events deliver and drop from a world on
abbrev Names : Naming → Nodes → World → List Event → List ℕ → Type 0
Names k mesh w es text = Tells k (over_run (delivered_data (deliveries_in k mesh)) w es) (over_run (dropped_data (drops_in k mesh)) w es) text

over_none : (f : Event → Outcome → ℕ) (w : World) → over_run f w [] ≡ 0
unfolding over_run
over_none f w = refl

over_append : (f : Event → Outcome → ℕ) (w : World) (xs ys : List Event) → over_run f w (xs ++ ys) ≡ over_run f w xs + over_run f (run w xs) ys
unfolding over_run run
over_append f w [] ys = omega arith
over_append f w (e ∷ es) ys = omega (arith, over_append f (after w (step w e)) es ys)

-- a silent text, where there are no events
silent_names : {k : Naming} → (mesh : Nodes) (w : World) (es : List Event) (text : List ℕ) → es ≡ [] → Tells k 0 0 text → Names k mesh w es text
unfolding over_run
silent_names {k = k} mesh w es text none tells = subst (λ l. Names k mesh w l text) (sym none) tells

names_silent : {k : Naming} → (mesh : Nodes) (w : World) (es : List Event) (text : List ℕ) → es ≡ [] → Names k mesh w es text → Tells k 0 0 text
unfolding over_run
names_silent {k = k} mesh w es text none names = subst (λ l. Names k mesh w l text) none names

-- ---- events one after another

-- an event that is refused is the last
unfoldable pub Stops : Outcome → List Event → Type 0
Stops Idle es = Unit {0}
Stops (worlds.Full x f) es = es ≡ []
Stops (Next w h) es = Unit {0}

unfoldable AllStop : RunState → List Event → Type 0
AllStop m [] = Unit {0}
AllStop m (e ∷ es) = Stops (outcome_at m e) es × AllStop (next_state m e) es

pub alone_stops : (o : Outcome) → Stops o []
unfolding Stops
alone_stops Idle = tt
alone_stops (worlds.Full x f) = refl
alone_stops (Next w h) = tt

event_stops : (m : RunState) (e : Event) (o : Outcome) (others : RunState → List Event) → outcome_at m e ≡ o → ((n : RunState) → AllStop n (others n)) → AllStop m (auto.event_then m e o others)
unfolding Stops AllStop
event_stops m e Idle others is rest = (subst (λ o. Stops o (others (next_state m e))) (sym is) tt, rest (next_state m e))
event_stops m e (worlds.Full x f) others is rest = (alone_stops (outcome_at m e), tt)
event_stops m e (Next w h) others is rest = (subst (λ o. Stops o (others (next_state m e))) (sym is) tt, rest (next_state m e))

choice_stops : (m : RunState) (chosen : Option Event) (others : RunState → List Event) → ((n : RunState) → AllStop n (others n)) → AllStop m (auto.choice_then m chosen others)
unfolding AllStop
choice_stops m None others rest = tt
choice_stops m (Some e) others rest = event_stops m e (outcome_at m e) others refl rest

chosen_stop : (most : ℕ) (m : RunState) → AllStop m (events_chosen most m)
unfolding AllStop events_chosen
chosen_stop zero m = tt
chosen_stop (suc most) m = choice_stops m (pick (world_of m)) (λ n. events_chosen most n) (λ n. chosen_stop most n)

-- their text
told : auto.EventsOutcome → List ℕ
told (auto.Ended text n) = text
told (auto.Full text n e field) = text

told_before : (text : List ℕ) (r : auto.EventsOutcome) → text ++ told r ≡ told (auto.before text r)
unfolding told
told_before text (auto.Ended others n) = refl
told_before text (auto.Full others n e field) = refl

full_delivers : (t : Test) (e : Event) (x : ℕ) (f : Counter) → delivered_data t e (worlds.Full x f) ≡ 0
full_delivers t (Turn y) x f = refl
full_delivers t others x f = refl

done_names : {k : Naming} → (mesh : Nodes) (m : RunState) (e : Event) (es : List Event) (o : Outcome) (others : RunState → auto.EventsOutcome) → Stops o es
    → Tells k (delivered_data (deliveries_in k mesh) e o) (dropped_data (drops_in k mesh) e o) (outcome_lines m.mesh e o) → Names k mesh (after (world_of m) o) es (told (others (next_state m e)))
    → Tells k (delivered_data (deliveries_in k mesh) e o + over_run (delivered_data (deliveries_in k mesh)) (after (world_of m) o) es)
    (dropped_data (drops_in k mesh) e o + over_run (dropped_data (drops_in k mesh)) (after (world_of m) o) es) (told (auto.done_then m e o others))
unfolding Stops told
done_names {k = k} mesh m e es Idle others stops one rest =
    subst (Tells k _ _) (told_before (outcome_lines m.mesh e Idle) (others (next_state m e)))
    (tells_append (delivered_data (deliveries_in k mesh) e Idle) (dropped_data (drops_in k mesh) e Idle) _ _ (outcome_lines m.mesh e Idle) (told (others (next_state m e))) one rest)
done_names {k = k} mesh m e es (worlds.Full x f) others stops one rest =
    let a : delivered_data (deliveries_in k mesh) e (worlds.Full x f) ≡ 0 = full_delivers (deliveries_in k mesh) e x f in
    let b : over_run (delivered_data (deliveries_in k mesh)) (world_of m) es ≡ 0 = ap (over_run (delivered_data (deliveries_in k mesh)) (world_of m)) stops ∙ over_none _ (world_of m) in
    let c : over_run (dropped_data (drops_in k mesh)) (world_of m) es ≡ 0 = ap (over_run (dropped_data (drops_in k mesh)) (world_of m)) stops ∙ over_none _ (world_of m) in
    let d : 0 ≡ delivered_data (deliveries_in k mesh) e (worlds.Full x f) + over_run (delivered_data (deliveries_in k mesh)) (world_of m) es = omega arith in
    let l : 0 ≡ 0 + over_run (dropped_data (drops_in k mesh)) (world_of m) es = omega arith in
    subst (λ i. Tells k i (0 + over_run (dropped_data (drops_in k mesh)) (world_of m) es) []) d (subst (λ j. Tells k 0 j []) l tells_none)
done_names {k = k} mesh m e es (Next w h) others stops one rest =
    subst (Tells k _ _) (told_before (outcome_lines m.mesh e (Next w h)) (others (next_state m e)))
    (tells_append (delivered_data (deliveries_in k mesh) e (Next w h)) (dropped_data (drops_in k mesh) e (Next w h)) _ _ (outcome_lines m.mesh e (Next w h)) (told (others (next_state m e))) one rest)

-- the mesh is this, where there are events
abbrev Fits : Nodes → RunState → List Event → Type 0
Fits mesh m es = (es ≡ []) ⊎ (m.mesh ≡ mesh)

fits_some : (mesh : Nodes) (m : RunState) (e : Event) (es : List Event) → Fits mesh m (e ∷ es) → m.mesh ≡ mesh
fits_some mesh m e es (inl none) = absurd (let P : ⊥ = cc in P)
fits_some mesh m e es (inr is) = is

events_name : {k : Naming} → (mesh : Nodes) (m : RunState) (es : List Event) → AllStop m es → AllByRecursion HasCleanBody es → Fits mesh m es → Names k mesh (world_of m) es (told (auto.outcome_of_events m es))
unfolding AllStop told auto.outcome_of_events over_run next_state
events_name mesh m [] stop clean fits = tells_none
events_name {k = k} mesh m (e ∷ es) stop clean fits =
    let is : m.mesh ≡ mesh = fits_some mesh m e es fits in
    let o : Outcome = outcome_at m e in
    done_names mesh m e es o (λ n. auto.outcome_of_events n es) stop.0
    (subst (λ nodes. Tells k (delivered_data (deliveries_in k nodes) e o) (dropped_data (drops_in k nodes) e o) (outcome_lines m.mesh e o)) is (event_named m e clean.0))
    (events_name mesh (next_state m e) es stop.1 clean.1 (inr is))

-- ---- a line

came_text : (r : auto.EventsOutcome) → told r ≡ text_in (outcome_by_events r)
unfolding told
came_text (auto.Ended text n) = refl
came_text (auto.Full text n e field) = refl

auto_names : {k : Naming} → (d x : ℕ) (text : List ℕ) (did : ℕ) (r : auto.EventsOutcome) → Tells k 0 0 text → Tells k d x (told r) → Tells k d x (text_in (outcome_of_auto text did r))
unfolding told
auto_names {k = k} d x text did (auto.Ended others n) silent is =
    let end : Tells k 0 0 (auto.auto_end did) = silent_line (codes "auto did " ++ decimal did) (decimal_clean did) refl refl in
    silent_after d x (text ++ others) (auto.auto_end did) (silent_before d x text others silent is) end
auto_names d x text did (auto.Full others n e field) silent is = silent_before d x text others silent is

line_names : {k : Naming} → (mesh : Nodes) (m : RunState) (a : AcceptedLine) → IsInRange m.mesh a → Fits mesh m (events_of_line m a) → Names k mesh (world_of m) (events_of_line m a) (text_in (outcome_of_line m a))
unfolding outcome_of_line words_of command_text AllStop
line_names mesh m Nothing range fits = silent_names mesh (world_of m) [] [] refl tells_none
line_names mesh m (NewNode address first) range fits =
    silent_names mesh (world_of m) [] (line (words_of m.mesh (NewNode address first))) refl
    (silent_line (words_of m.mesh (NewNode address first)) (node_words_clean address first) refl refl)
line_names {k = k} mesh m (Does e) range fits =
    subst (Names k mesh (world_of m) (e ∷ [])) (came_text (auto.outcome_of_events (with_world m) (e ∷ [])))
    (events_name mesh (with_world m) (e ∷ []) (alone_stops (outcome_at (with_world m) e), tt) (event_line_clean m.mesh e range, tt) fits)
line_names mesh m (Chooses count) range fits =
    let chosen : List Event = events_chosen count (with_world m) in
    auto_names _ _ (line (words_of m.mesh (Chooses count))) (length chosen) (auto.outcome_of_events (with_world m) chosen)
    (silent_line (words_of m.mesh (Chooses count)) (decimal_clean count) refl refl)
    (events_name mesh (with_world m) chosen (chosen_stop count (with_world m)) (chosen_clean count (with_world m)) fits)
line_names mesh m (ShowsNode x) range fits =
    let shown : List ℕ = node_text_in m.mesh (slice_get (world_of m).nodes x) in
    silent_names mesh (world_of m) [] (line (words_of m.mesh (ShowsNode x)) ++ shown) refl
    (silent_append (line (words_of m.mesh (ShowsNode x))) shown
    (silent_line (words_of m.mesh (ShowsNode x)) (one_word x m.mesh) refl refl) (node_in_silent m.mesh (slice_get (world_of m).nodes x)))
line_names mesh m (ShowsRoute x d) range fits =
    let shown : List ℕ = end_text m.mesh (route_end (world_of m) x d) in
    silent_names mesh (world_of m) [] (line (words_of m.mesh (ShowsRoute x d)) ++ shown) refl
    (silent_append (line (words_of m.mesh (ShowsRoute x d))) shown
    (silent_line (words_of m.mesh (ShowsRoute x d)) (two_words m.mesh x d) refl refl) (end_silent m.mesh (route_end (world_of m) x d)))
line_names mesh m ShowsFlight range fits =
    let shown : List ℕ = flight_text m.mesh (world_of m).flying in
    silent_names mesh (world_of m) [] (line (words_of m.mesh ShowsFlight) ++ shown) refl
    (silent_append (line (words_of m.mesh ShowsFlight)) shown
    (silent_line (words_of m.mesh ShowsFlight) refl refl refl) (flight_silent m.mesh (world_of m).flying))

read_names : {k : Naming} → (mesh : Nodes) (m : RunState) (r : Result AcceptedLine LineFault) → Allowed m.mesh (is_some m.world) r → Fits mesh m (events_read m r)
    → Names k mesh (world_of m) (events_read m r) (text_in (outcome_of_read m r))
unfolding Allowed
read_names mesh m (Ok a) allowed fits = line_names mesh m a allowed.0 fits
read_names mesh m (Err f) allowed fits = silent_names mesh (world_of m) [] [] refl tells_none

piece_names : {k : Naming} → (mesh : Nodes) (m : RunState) (piece : Piece) → IsKept m → Fits mesh m (events_of_piece m piece)
    → Names k mesh (world_of m) (events_of_piece m piece) (text_in (outcome_of_piece m piece))
unfolding outcome_of_piece
piece_names mesh m (Whole line) is fits = read_names mesh m (line_of m.mesh (is_some m.world) line) (line_allowed m.mesh (is_some m.world) line is.mesh.few) fits
piece_names mesh m Long is fits = silent_names mesh (world_of m) [] [] refl tells_none
piece_names mesh m Beyond is fits = silent_names mesh (world_of m) [] [] refl tells_none

-- ---- a run

-- after a line with no event
quiet_names : {k : Naming} → (mesh : Nodes) (m n : RunState) (es more : List Event) (text lines : List ℕ) → Quiet m n es → Names k mesh (world_of m) es text → Names k mesh (base n mesh) more lines
    → Names k mesh (base m mesh) (es ++ more) (text ++ lines)
quiet_names {k = k} mesh m n es more text lines quiet own rest =
    let same : base n mesh ≡ base m mesh = ap₂ (λ o v. unwrap_or o (start v (first_numbers mesh))) quiet.world quiet.variant in
    subst (λ l. Names k mesh (base m mesh) (l ++ more) (text ++ lines)) (sym quiet.none)
    (silent_before _ _ text lines (names_silent mesh (world_of m) es text quiet.none own) (subst (λ w. Names k mesh w more lines) same rest))

-- after a line with events
ran_names : {k : Naming} → (mesh : Nodes) (m n : RunState) (es more : List Event) (text lines : List ℕ) → m.mesh ≡ mesh → IsRan m n es → Names k mesh (world_of m) es text → Names k mesh (base n mesh) more lines
    → Names k mesh (base m mesh) (es ++ more) (text ++ lines)
ran_names {k = k} mesh m n es more text lines is ran own rest =
    let here : world_of m ≡ base m mesh = ap (base m) is in
    let there : base n mesh ≡ run (world_of m) es = made_base n.world (start n.variant (first_numbers mesh)) (start n.variant (first_numbers n.mesh)) ran.made ∙ ran.world in
    let f : Event → Outcome → ℕ = delivered_data (deliveries_in k mesh) in
    let g : Event → Outcome → ℕ = dropped_data (drops_in k mesh) in
    let both : Tells k (over_run f (world_of m) es + over_run f (run (world_of m) es) more) (over_run g (world_of m) es + over_run g (run (world_of m) es) more) (text ++ lines) =
    tells_append _ _ _ _ text lines own (subst (λ w. Names k mesh w more lines) there rest) in
    let all : Names k mesh (world_of m) (es ++ more) (text ++ lines) =
    subst (λ d. Tells k d (over_run g (world_of m) (es ++ more)) (text ++ lines)) (sym (over_append f (world_of m) es more))
    (subst (λ x. Tells k (over_run f (world_of m) es + over_run f (run (world_of m) es) more) x (text ++ lines)) (sym (over_append g (world_of m) es more)) both) in
    subst (λ w. Names k mesh w (es ++ more) (text ++ lines)) here all

-- where the run ends
ended_names : {k : Naming} → (mesh : Nodes) (m : RunState) (es : List Event) (text : List ℕ) → m.mesh ≡ mesh → Names k mesh (world_of m) es text → Names k mesh (base m mesh) (es ++ []) text
ended_names {k = k} mesh m es text is own =
    subst (λ l. Names k mesh (base m mesh) l text) (sym (append-nil es)) (subst (λ w. Names k mesh w es text) (ap (base m) is) own)

goes_name : {k : Naming} → (mesh : Nodes) (m : RunState) (es : List Event) (c : LineOutcome) (others : RunState → RunText) (more : RunState → List Event) → GoesBy m es c → IsKeptCame c
    → (Fits mesh m es → Names k mesh (world_of m) es (text_in c)) → ((n : RunState) → IsKept n → Follows n (more n) (others n))
    → ((n : RunState) → IsKept n → (others n).after.mesh ≡ mesh → Names k mesh (base n mesh) (more n) (others n).lines)
    → (goes_on m c others).after.mesh ≡ mesh → Names k mesh (base m mesh) (es ++ events_after c more) (goes_on m c others).lines
unfolding GoesBy IsKeptCame
goes_name mesh m es (On text n) others more (inl quiet) kept own led rest is =
    quiet_names mesh m n es (more n) text (others n).lines quiet (own (inl quiet.none)) (rest n kept is)
goes_name mesh m es (On text n) others more (inr ran) kept own led rest is =
    let here : m.mesh ≡ mesh = sym ((led n kept).mesh ran.made ∙ ran.mesh) ∙ is in
    ran_names mesh m n es (more n) text (others n).lines here ran (own (inr here)) (rest n kept is)
goes_name mesh m es (Refused why) others more none kept own led rest is = ended_names mesh m es [] is (own (inr is))
goes_name mesh m es (Full text n e field) others more goes kept own led rest is = ended_names mesh m es text is (own (inr is))

run_names : {k : Naming} → (mesh : Nodes) (m : RunState) (pieces : List Piece) → IsKept m → (text_from m pieces).after.mesh ≡ mesh → Names k mesh (base m mesh) (events_from m pieces) (text_from m pieces).lines
unfolding events_from shell.text_from
run_names mesh m [] kept is = silent_names mesh (base m mesh) [] [] refl tells_none
run_names mesh m (piece ∷ pieces) kept is =
    goes_name mesh m (events_of_piece m piece) (outcome_of_piece m piece) (λ n. text_from n pieces) (λ n. events_from n pieces) (piece_goes m piece kept) (piece_kept m piece kept)
    (piece_names mesh m piece kept) (λ n led. follows n pieces led) (λ n led same. run_names mesh n pieces led same) is

input_names : {k : Naming} → (v : Variant) (input : List ℕ) → Names k (mesh_of_input v input) (opening_world v input) (events_of_input v input) (text_of_input v input).lines
unfolding events_of_input text_of_input shell.text_on
input_names v input = run_names (mesh_of_input v input) (opening v) _ (opening_kept v) refl

-- ---- the law

zero_by : (b : Bool) (n : ℕ) → n ≡ cond b 1 0 → b ≡ false → n ≡ 0
zero_by true n is other = absurd (let P : ⊥ = cc in P)
zero_by false n is other = is

none_in : (p : List ℕ → Bool) → p [] ≡ false → lines_by p [] ≡ 0
none_in p other =
    let all = sum_by-cons (λ l. cond (p l) 1 0) [] [] in
    let one = zero_by (p []) (cond (p []) 1 0) refl other in
    let none : count_by p [] ≡ 0 = refl in
    omega arith

whole_text : (k : Naming) (d x : ℕ) (text : List ℕ) → Tells k d x text → (lines_by k.delivery text ≡ d) × (lines_by k.drop text ≡ x)
whole_text k d x text is =
    let a = ap (lines_by k.delivery) (append-nil text) in
    let b = is.delivered [] in
    let c = ap (lines_by k.drop) (append-nil text) in
    let e = is.dropped [] in
    let none = none_in k.delivery (k.other_delivery [] refl) in
    let no_drop = none_in k.drop (k.other_drop [] refl) in
    (omega arith, omega arith)

pub each_datum_is_named : EachDatumIsNamed
each_datum_is_named v input o d body lo ld =
    let mesh : Nodes = mesh_of_input v input in
    let es : List Event = events_of_input v input in
    let w : World = opening_world v input in
    let kept : IsKept (text_of_input v input).after = input_kept v input in
    let size : length w.nodes ≡ length mesh = start_size v (first_numbers mesh) ∙ length-map mesh (λ p. p.1) in
    let in_mesh = start_placed v (first_numbers mesh) (all_positive mesh kept.mesh) in
    let named = whole_text (datum_named mesh o d body) _ _ (text_of_input v input).lines (input_names v input) in
    let delivered = runs_agree (length mesh) (deliveries_in (datum_named mesh o d body) mesh) (only_datum o d body) w es (deliveries_agree mesh o d body kept.mesh lo ld) size in_mesh (events_are_of_mesh v input) in
    let dropped = runs_agree (length mesh) (drops_in (datum_named mesh o d body) mesh) (only_datum o d body) w es (drops_agree mesh o d body kept.mesh lo ld) size in_mesh (events_are_of_mesh v input) in
    (named.0 ∙ delivered.0, named.1 ∙ dropped.1)
