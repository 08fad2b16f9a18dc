-- The text of a run names each datum that it delivered, and each that was dropped.
use Rattle.std.proofs.Common.{◌≡◌, ℕ, ◌+◌, true, List, [], ◌∷◌, ◌++◌, codes, Option, Some, None, Result, Ok, Err, length, refl, ap, subst, arith, append-nil, is_some}
use Rattle.std.specs.Prelude.{slice_get}
use Rattle.std.specs.List.{AllByRecursion}
use Rattle.std.specs.Fmt.{decimal}
use Rattle.mesh_base.specs.declared.events.Full.{Full as Counter}
use Rattle.mesh_base.specs.declared.events.Variant.{Variant}
use Rattle.mesh_base.specs.Addresses.{dotted_decimal}
use Rattle.mesh_base.specs.Meshes.{Nodes, addr_at, with_node}
use Rattle.aodv_model.specs.Cores.{Item, Core}
use Rattle.aodv_model.specs.Handlers.{Reaction, may_send, send, may_ask, ask}
use Rattle.aodv_model.specs.Fullness.{send_full, ask_full}
use Rattle.aodv_model.proofs.Entries.{if_case}
use Rattle.mesh_model.specs.Worlds as worlds
use Rattle.mesh_model.specs.Worlds.{World, Node, Copy, Event, Give, Turn, Send, Ask, Link, Cut, Deliver, Lose, Double, Outcome, Idle, Next, Sent, range, copies, done_by, are_linked, find_copy, send_of, ask_of, unless_full, at_node, at_copy, step}
use Rattle.mesh_model.specs.Accounts.{Test, any, delivered_at, delivered_data, dropped_data}
use Rattle.mesh_model.specs.Choices.{pick, IsChoice}
use Rattle.mesh_model.specs.Routes.{route_end}
use Rattle.mesh_model.proofs.Chosen.{OnSome, pick_is_enabled}
use Rattle.mesh_meaning.specs.Events.{node_of}
use Rattle.mesh_grammar.specs.declared.fault.LineFault.{LineFault}
use Rattle.mesh_shell.specs.Pieces.{Piece, Whole, Long, Beyond}
use Rattle.mesh_grammar.specs.Written.{line, command_text}
use Rattle.mesh_shell.specs.Fold as shell
use Rattle.mesh_text.specs.Schedule.{RunState, opening, AcceptedLine, Nothing, NewNode, Does, Chooses, ShowsNode, ShowsRoute, ShowsFlight, line_of, world_of, with_world, outcome_at, next_state, with_line_read}
use Rattle.mesh_text.specs.Lines.{words_of, event_words}
use Rattle.mesh_text.specs.Effects.{outcome_text, outcome_lines}
use Rattle.mesh_text.specs.Tables.{node_text_in, end_text, flight_text}
use Rattle.mesh_text.specs.Ranges.{IsEventLine, IsInRange}
use Rattle.mesh_text.specs.Auto as auto
use Rattle.mesh_text.specs.Text.{LineOutcome, On, Refused, Full, outcome_by_events, outcome_of_auto, outcome_of_line, outcome_of_read, outcome_of_piece, RunText, goes_on, text_from, text_of_input}
use Rattle.mesh_text.specs.Accounts.{lines_with}
use Rattle.mesh_text.specs.Laws.{DataAreNamed}
use Rattle.mesh_text.proofs.InRange.{Allowed, line_allowed}
use Rattle.mesh_text.proofs.Picks.{each_chosen}
use Rattle.mesh_text.proofs.RunStates.{IsKept, IsKeptCame, opening_kept, piece_kept}
use Rattle.mesh_text.proofs.RunLaws.{NotFull}
use Rattle.mesh_text.proofs.Clean.{is_clean, clean_append, decimal_clean, dotted_clean, clean_body}
use Rattle.mesh_text.proofs.Tellings.{Naming, all_named, deliveries_in, drops_in, Tells, tells_none, tells_append, silent_append, silent_before, silent_after, silent_line, world_effect_told}
use Rattle.mesh_text.proofs.TableTexts.{node_in_silent, end_silent, flight_silent}

-- ---- only turns deliver

NoDelivery : Outcome → Type 0
NoDelivery o = (t : Test) (x : ℕ) → delivered_at t x o ≡ 0

node_none : (f : Core → List Item → Outcome) (o : Option Node) → ((core : Core) (queue : List Item) → NoDelivery (f core queue)) → NoDelivery (at_node o f)
unfolding NoDelivery
node_none f None each = λ t x. refl
node_none f (Some n) each = each n.core n.queue

copy_none : (f : Copy → Outcome) (o : Option Copy) → ((c : Copy) → NoDelivery (f c)) → NoDelivery (at_copy o f)
unfolding NoDelivery
copy_none f None each = λ t x. refl
copy_none f (Some c) each = each c

unless_none : (x : ℕ) (full : Option Counter) (o : Outcome) → NoDelivery o → NoDelivery (unless_full x full o)
unfolding NoDelivery
unless_none x None o h = h
unless_none x (Some f) o h = λ t y. refl

send_none : (w : World) (x d : ℕ) (core : Core) (queue : List Item) → NoDelivery (send_of w x d core queue)
unfolding NoDelivery
send_none w x d core queue =
    let did : Reaction = send core (range w x) d in
    let goes : Outcome = Next (done_by w x did queue) (Sent did.effect (copies w x (did.effect).cast)) in
    if_case NoDelivery (may_send core d) (unless_full x (send_full core (range w x) d) goes) Idle (λ _. unless_none x (send_full core (range w x) d) goes (λ t y. refl)) (λ _ t y. refl)

ask_none : (w : World) (x d : ℕ) (core : Core) (queue : List Item) → NoDelivery (ask_of w x d core queue)
unfolding NoDelivery
ask_none w x d core queue =
    let did : Reaction = ask core d in
    let goes : Outcome = Next (done_by w x did queue) (Sent did.effect (copies w x (did.effect).cast)) in
    if_case NoDelivery (may_ask core d) (unless_full x (ask_full core) goes) Idle (λ _. unless_none x (ask_full core) goes (λ t y. refl)) (λ _ t y. refl)

-- what an event delivers, at the node at which it is
pub delivered_here : (t : Test) (w : World) (e : Event) → delivered_at t (node_of e) (step w e) ≡ delivered_data t e (step w e)
unfolding step NoDelivery
delivered_here t w (Give x d b) = node_none _ (slice_get w.nodes x) (λ core queue t y. refl) t x
delivered_here t w (Turn x) = refl
delivered_here t w (Send x d) = node_none _ (slice_get w.nodes x) (send_none w x d) t x
delivered_here t w (Ask x d) = node_none _ (slice_get w.nodes x) (ask_none w x d) t x
delivered_here t w (Link a b) = if_case NoDelivery (are_linked w.links a b) Idle _ (λ _ t y. refl) (λ _ t y. refl) t 0
delivered_here t w (Cut a b) = if_case NoDelivery (are_linked w.links a b) _ Idle (λ _ t y. refl) (λ _ t y. refl) t 0
delivered_here t w (Deliver id) = copy_none _ (find_copy w.flying id) (λ c t y. refl) t 0
delivered_here t w (Lose id) = copy_none _ (find_copy w.flying id) (λ c t y. refl) t 0
delivered_here t w (Double id) = copy_none _ (find_copy w.flying id) (λ c t y. refl) t 0

-- ---- an event

-- the words of an event that names no datum with an LF
abbrev pub HasCleanBody : Event → Type 0
HasCleanBody (Give x d body) = is_clean body ≡ true
HasCleanBody others = Unit {0}

pub one_word : (a : ℕ) (mesh : Nodes) → is_clean (dotted_decimal (addr_at mesh a)) ≡ true
one_word a mesh = dotted_clean (addr_at mesh a)

pub two_words : (mesh : Nodes) (a b : ℕ) → is_clean (dotted_decimal (addr_at mesh a) ++ 32 ∷ dotted_decimal (addr_at mesh b)) ≡ true
two_words mesh a b = clean_append (dotted_decimal (addr_at mesh a)) (32 ∷ dotted_decimal (addr_at mesh b)) (dotted_clean (addr_at mesh a)) (dotted_clean (addr_at mesh b))

event_silent : {k : Naming} → (mesh : Nodes) (e : Event) → HasCleanBody e → Tells k 0 0 (line (event_words mesh e))
unfolding event_words command_text
event_silent mesh (Give x d body) clean =
    silent_line (event_words mesh (Give x d body))
    (clean_append (dotted_decimal (addr_at mesh x) ++ 32 ∷ dotted_decimal (addr_at mesh d)) (32 ∷ body) (two_words mesh x d) clean) refl refl
event_silent mesh (Turn x) clean = silent_line (event_words mesh (Turn x)) (one_word x mesh) refl refl
event_silent mesh (Send x d) clean = silent_line (event_words mesh (Send x d)) (two_words mesh x d) refl refl
event_silent mesh (Ask x d) clean = silent_line (event_words mesh (Ask x d)) (two_words mesh x d) refl refl
event_silent mesh (Link a b) clean = silent_line (event_words mesh (Link a b)) (two_words mesh a b) refl refl
event_silent mesh (Cut a b) clean = silent_line (event_words mesh (Cut a b)) (two_words mesh a b) refl refl
event_silent mesh (Deliver id) clean = silent_line (event_words mesh (Deliver id)) (decimal_clean id) refl refl
event_silent mesh (Lose id) clean = silent_line (event_words mesh (Lose id)) (decimal_clean id) refl refl
event_silent mesh (Double id) clean = silent_line (event_words mesh (Double id)) (decimal_clean id) refl refl

outcome_told : {k : Naming} → (mesh : Nodes) (x : ℕ) (e : Event) (o : Outcome) → Tells k (delivered_at (deliveries_in k mesh) x o) (dropped_data (drops_in k mesh) e o) (outcome_text mesh x o)
outcome_told mesh x e Idle = silent_line (codes "  idle") refl refl refl
outcome_told mesh x e (worlds.Full y field) = tells_none
outcome_told mesh x e (Next w world_effect) = world_effect_told mesh x world_effect

-- an event names what it delivers and drops
pub event_named : {k : Naming} → (m : RunState) (e : Event) → HasCleanBody e
    → Tells k (delivered_data (deliveries_in k m.mesh) e (outcome_at m e)) (dropped_data (drops_in k m.mesh) e (outcome_at m e)) (outcome_lines m.mesh e (outcome_at m e))
unfolding outcome_lines
event_named {k = k} m e clean =
    let o : Outcome = outcome_at m e in
    let x : ℕ = dropped_data (drops_in k m.mesh) e o in
    silent_before (delivered_data (deliveries_in k m.mesh) e o) x (line (event_words m.mesh e)) (outcome_text m.mesh (node_of e) o)
    (event_silent m.mesh e clean)
    (subst (λ d. Tells k d x (outcome_text m.mesh (node_of e) o)) (delivered_here (deliveries_in k m.mesh) (world_of m) e) (outcome_told m.mesh (node_of e) e o))

-- from m to n by a text
record Told (m n : RunState) (text : List ℕ) : Type 0 where
  d : ℕ
  x : ℕ
  tells : Tells all_named d x text
  delivered : n.sums.delivered ≡ m.sums.delivered + d
  lost : n.sums.lost ≡ m.sums.lost + x

silent_told : (m n : RunState) (text : List ℕ) → Tells all_named 0 0 text → n.sums.delivered ≡ m.sums.delivered → n.sums.lost ≡ m.sums.lost → Told m n text
silent_told m n text tells same lost = record { d = 0; x = 0; tells = tells; delivered = omega arith; lost = omega arith }

told_then : (m n k : RunState) (s t : List ℕ) → Told m n s → Told n k t → Told m k (s ++ t)
told_then m n k s t first second =
    let a = first.delivered in let b = second.delivered in let c = first.lost in let e = second.lost in
    record {
      d = first.d + second.d;
      x = first.x + second.x;
      tells = tells_append first.d first.x second.d second.x s t first.tells second.tells;
      delivered = omega arith;
      lost = omega arith;
    }

event_told : (m : RunState) (e : Event) → HasCleanBody e → Told m (next_state m e) (outcome_lines m.mesh e (outcome_at m e))
unfolding next_state
event_told m e clean = record {
  d = delivered_data any e (outcome_at m e);
  x = dropped_data any e (outcome_at m e);
  tells = event_named m e clean;
  delivered = refl;
  lost = refl;
}

-- ---- events one after another

ToldRan : RunState → auto.EventsOutcome → Type 0
ToldRan m (auto.Ended text n) = Told m n text
ToldRan m (auto.Full text n e field) = Unit {0}

before_told : (m n : RunState) (text : List ℕ) (r : auto.EventsOutcome) → Told m n text → ToldRan n r → ToldRan m (auto.before text r)
unfolding ToldRan
before_told m n text (auto.Ended others k) first is = told_then m n k text others first is
before_told m n text (auto.Full others k e field) first is = tt

done_told : (m : RunState) (e : Event) (o : Outcome) (others : RunState → auto.EventsOutcome) → Told m (next_state m e) (outcome_lines m.mesh e o) → ToldRan (next_state m e) (others (next_state m e))
    → ToldRan m (auto.done_then m e o others)
unfolding ToldRan
done_told m e Idle others first is = before_told m (next_state m e) _ (others (next_state m e)) first is
done_told m e (worlds.Full x field) others first is = tt
done_told m e (Next w world_effect) others first is = before_told m (next_state m e) _ (others (next_state m e)) first is

events_told : (m : RunState) (es : List Event) → AllByRecursion HasCleanBody es → ToldRan m (auto.outcome_of_events m es)
unfolding ToldRan auto.outcome_of_events
events_told m [] clean = silent_told m m [] tells_none refl refl
events_told m (e ∷ es) clean =
    done_told m e (outcome_at m e) (λ n. auto.outcome_of_events n es) (event_told m e clean.0) (events_told (next_state m e) es clean.1)

-- no event that is chosen gives a datum

choice_clean : (e : Event) → IsChoice e → HasCleanBody e
choice_clean (Give x d body) choice = absurd choice
choice_clean others choice = tt

picked_clean : (w : World) → OnSome HasCleanBody (pick w)
unfolding OnSome
picked_clean w = by (pick w) refl
  where
    by : (o : Option Event) → pick w ≡ o → OnSome HasCleanBody o
    by None is = tt
    by (Some e) is = choice_clean e (pick_is_enabled w e is).0

pub chosen_clean : (most : ℕ) (m : RunState) → AllByRecursion HasCleanBody (auto.events_chosen most m)
chosen_clean most m = each_chosen (λ n. Unit {0}) HasCleanBody (λ n _. picked_clean (world_of n)) (λ n e clean _. tt) most m tt

-- ---- a line

ToldCame : RunState → LineOutcome → Type 0
ToldCame m (On text n) = Told m n text
ToldCame m (Refused why) = Unit {0}
ToldCame m (Full text n e field) = Unit {0}

line_events_told : (m : RunState) (r : auto.EventsOutcome) → ToldRan (with_world m) r → ToldCame m (outcome_by_events r)
unfolding ToldCame ToldRan
line_events_told m (auto.Ended text n) is = record { d = is.d; x = is.x; tells = is.tells; delivered = is.delivered; lost = is.lost }
line_events_told m (auto.Full text n e field) is = tt

auto_told : (m : RunState) (text : List ℕ) (did : ℕ) (r : auto.EventsOutcome) → Tells all_named 0 0 text → ToldRan (with_world m) r → ToldCame m (outcome_of_auto text did r)
unfolding ToldCame ToldRan
auto_told m text did (auto.Ended others n) silent is =
    let end : Tells all_named 0 0 (auto.auto_end did) = silent_line (codes "auto did " ++ decimal did) (decimal_clean did) refl refl in
    record {
      d = is.d;
      x = is.x;
      tells = silent_after is.d is.x (text ++ others) (auto.auto_end did) (silent_before is.d is.x text others silent is.tells) end;
      delivered = is.delivered;
      lost = is.lost;
    }
auto_told m text did (auto.Full others n e field) silent is = tt

pub event_line_clean : (mesh : Nodes) (e : Event) → IsEventLine mesh e → HasCleanBody e
event_line_clean mesh (Give x d body) range = clean_body body range.2.2
event_line_clean mesh others range = tt

pub node_words_clean : (address first : ℕ) → is_clean (dotted_decimal address ++ codes " sn " ++ decimal first) ≡ true
node_words_clean address first =
    clean_append (dotted_decimal address ++ codes " sn ") (decimal first) (clean_append (dotted_decimal address) (codes " sn ") (dotted_clean address) refl) (decimal_clean first)

line_told : (m : RunState) (a : AcceptedLine) → IsInRange m.mesh a → ToldCame m (outcome_of_line m a)
unfolding ToldCame outcome_of_line words_of command_text
line_told m Nothing range = silent_told m (with_line_read m) [] tells_none refl refl
line_told m (NewNode address first) range =
    silent_told m (with_line_read (record m { mesh = with_node m.mesh address first })) (line (words_of m.mesh (NewNode address first)))
    (silent_line (words_of m.mesh (NewNode address first)) (node_words_clean address first) refl refl) refl refl
line_told m (Does e) range = line_events_told m (auto.outcome_of_events (with_world m) (e ∷ [])) (events_told (with_world m) (e ∷ []) (event_line_clean m.mesh e range, tt))
line_told m (Chooses count) range =
    let chosen : List Event = auto.events_chosen count (with_world m) in
    auto_told m (line (words_of m.mesh (Chooses count))) (length chosen) (auto.outcome_of_events (with_world m) chosen)
    (silent_line (words_of m.mesh (Chooses count)) (decimal_clean count) refl refl) (events_told (with_world m) chosen (chosen_clean count (with_world m)))
line_told m (ShowsNode x) range =
    let shown : List ℕ = node_text_in m.mesh (slice_get (world_of m).nodes x) in
    silent_told m (with_line_read (with_world m)) (line (words_of m.mesh (ShowsNode x)) ++ shown)
    (silent_append (line (words_of m.mesh (ShowsNode x))) shown
    (silent_line (words_of m.mesh (ShowsNode x)) (one_word x m.mesh) refl refl) (node_in_silent m.mesh (slice_get (world_of m).nodes x))) refl refl
line_told m (ShowsRoute x d) range =
    let shown : List ℕ = end_text m.mesh (route_end (world_of m) x d) in
    silent_told m (with_line_read (with_world m)) (line (words_of m.mesh (ShowsRoute x d)) ++ shown)
    (silent_append (line (words_of m.mesh (ShowsRoute x d))) shown
    (silent_line (words_of m.mesh (ShowsRoute x d)) (two_words m.mesh x d) refl refl) (end_silent m.mesh (route_end (world_of m) x d))) refl refl
line_told m ShowsFlight range =
    let shown : List ℕ = flight_text m.mesh (world_of m).flying in
    silent_told m (with_line_read (with_world m)) (line (words_of m.mesh ShowsFlight) ++ shown)
    (silent_append (line (words_of m.mesh ShowsFlight)) shown
    (silent_line (words_of m.mesh ShowsFlight) refl refl refl) (flight_silent m.mesh (world_of m).flying)) refl refl

read_told : (m : RunState) (r : Result AcceptedLine LineFault) → Allowed m.mesh (is_some m.world) r → ToldCame m (outcome_of_read m r)
unfolding ToldCame Allowed
read_told m (Ok a) allowed = line_told m a allowed.0
read_told m (Err f) allowed = tt

piece_told : (m : RunState) (piece : Piece) → IsKept m → ToldCame m (outcome_of_piece m piece)
unfolding ToldCame outcome_of_piece
piece_told m (Whole line) is = read_told m (line_of m.mesh (is_some m.world) line) (line_allowed m.mesh (is_some m.world) line is.mesh.few)
piece_told m Long is = tt
piece_told m Beyond is = tt

-- ---- a run

ToldRun : RunState → RunText → Type 0
ToldRun m w = NotFull w.verdict → Told m w.after w.lines

goes_told : (m : RunState) (c : LineOutcome) (others : RunState → RunText) → ToldCame m c → IsKeptCame c → ((n : RunState) → IsKept n → ToldRun n (others n)) → ToldRun m (goes_on m c others)
unfolding ToldCame IsKeptCame ToldRun NotFull
goes_told m (On text n) others is kept rest not_full = told_then m n (others n).after text (others n).lines is (rest n kept not_full)
goes_told m (Refused why) others is kept rest not_full = silent_told m m [] tells_none refl refl
goes_told m (Full text n e field) others is kept rest not_full = absurd (not_full (m.lines + 1) refl)

text_told : (m : RunState) (pieces : List Piece) → IsKept m → ToldRun m (text_from m pieces)
unfolding ToldRun shell.text_from
text_told m [] is not_full = silent_told m m [] tells_none refl refl
text_told m (piece ∷ pieces) is not_full =
    goes_told m (outcome_of_piece m piece) (λ n. text_from n pieces) (piece_told m piece is) (piece_kept m piece is) (λ n kept. text_told n pieces kept) not_full

abbrev deliveries : List ℕ → ℕ
deliveries text = lines_with (codes "  delivered ") text

abbrev drops : List ℕ → ℕ
drops text = lines_with (codes "  dropped ") text

told_whole : (v : Variant) (n : RunState) (text : List ℕ) → Told (opening v) n text → (deliveries text ≡ n.sums.delivered) × (drops text ≡ n.sums.lost)
told_whole v n text is =
    let a = ap deliveries (append-nil text) in
    let b = (is.tells).delivered [] in
    let c = ap drops (append-nil text) in
    let d = (is.tells).dropped [] in
    let e = is.delivered in
    let f = is.lost in
    let none : deliveries [] ≡ 0 = refl in
    let no_drop : drops [] ≡ 0 = refl in
    (omega arith, omega arith)

pub data_are_named : DataAreNamed
unfolding text_of_input shell.text_on ToldRun NotFull
data_are_named v input not_full = told_whole v (text_of_input v input).after (text_of_input v input).lines (text_told (opening v) _ (opening_kept v) not_full)
