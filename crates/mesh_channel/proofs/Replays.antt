-- The run of the schedule that a run over a channel chooses has the same lines, and comes to the same.
use Rattle.std.proofs.Common.{◌≡◌, ◌≢◌, ℕ, zero, suc, ◌+◌, ◌<◌, ◌≤◌, Bool, true, false, List, [], ◌∷◌, ◌++◌, Option, Some, None, Result, Ok, Err, length, map, refl, sym, ap, ap₂, subst, ◌∙◌, arith, is_some, append_assoc, append-nil}
use Rattle.std.specs.List.{AllByRecursion}
use Rattle.mesh_base.specs.Meshes.{Nodes, IsMesh}
use Rattle.mesh_base.specs.declared.events.Full.{Full as Counter}
use Rattle.mesh_model.specs.Worlds as worlds
use Rattle.mesh_model.specs.Worlds.{World, Event, Give, Turn, Send, Ask, Link, Cut, Deliver, Lose, Double, Outcome, Idle, Next}
use Rattle.mesh_model.specs.InMesh.{IsEvent}
use Rattle.mesh_grammar.specs.Written.{line}
use Rattle.mesh_grammar.specs.declared.fault.LineFault.{LineFault}
use Rattle.mesh_grammar.specs.declared.fault.BadWhy.{BadWhy}
use Rattle.mesh_shell.specs.Pieces.{Piece, Whole, Long, Beyond}
use Rattle.mesh_shell.specs.Fold as shell
use Rattle.mesh_text.specs.Schedule as schedule
use Rattle.mesh_text.specs.Schedule.{AcceptedLine, Nothing, NewNode, Does, Chooses, ShowsNode, ShowsRoute, ShowsFlight, line_of, world_of, with_world, next_state, outcome_at, with_line_read}
use Rattle.mesh_text.specs.Auto as auto
use Rattle.mesh_text.specs.Auto.{outcome_of_events, done_then, before}
use Rattle.mesh_text.specs.Effects.{outcome_lines}
use Rattle.mesh_text.specs.Lines.{words_of, full_line}
use Rattle.mesh_text.specs.Ranges.{IsEventLine, IsInRange, IsInTime}
use Rattle.mesh_text.specs.Text as text
use Rattle.mesh_text.specs.Text.{LineOutcome, On, Refused, Full, outcome_by_events}
use Rattle.mesh_text.specs.declared.verdict.Verdict.{Verdict}
use Rattle.mesh_text.specs.declared.verdict.Verdict.TheVariants.{Finished, RefusedAt, FullAt}
use Rattle.mesh_text.proofs.Printed.{printed_line_parses}
use Rattle.mesh_channel.proofs.HasLine.{HasLine}
use Rattle.mesh_channel.specs.Schedule.{event_lines}
use Rattle.mesh_channel.specs.Text.{outcome_of_drawn}

-- a state with another number of lines
abbrev pub at_line : schedule.RunState → ℕ → schedule.RunState
at_line m k = record m { lines = k }

-- lines as pieces of an input
abbrev pub pieces_of : List (List ℕ) → List Piece
pieces_of ls = map Whole ls

-- ---- an event of the mesh has a line

pub event_line : (mesh : Nodes) (e : Event) → 1 ≤ length mesh → IsEvent (length mesh) e → HasLine e → IsEventLine mesh e
event_line mesh (Give x d body) some usual number = (some, usual, number)
event_line mesh (Turn x) some usual number = (some, usual, tt)
event_line mesh (Send x d) some usual number = (some, usual, tt)
event_line mesh (Ask x d) some usual number = (some, usual, tt)
event_line mesh (Link a b) some usual number = (some, usual, tt)
event_line mesh (Cut a b) some usual number = (some, usual, tt)
event_line mesh (Deliver id) some usual number = (some, usual, number)
event_line mesh (Lose id) some usual number = (some, usual, number)
event_line mesh (Double id) some usual number = (some, usual, number)

-- ---- one line of the schedule

line_came : (s : schedule.RunState) (a : AcceptedLine) → IsMesh s.mesh → IsInRange s.mesh a → IsInTime (is_some s.world) a → text.outcome_of_piece s (Whole (words_of s.mesh a)) ≡ text.outcome_of_line s a
unfolding text.outcome_of_piece
line_came s a mesh range early = ap (text.outcome_of_read s) (printed_line_parses s.mesh (is_some s.world) a mesh range early)

-- what an event comes to, on a line of its own
abbrev came_alone : schedule.RunState → Event → Outcome → LineOutcome
came_alone n e Idle = On (outcome_lines n.mesh e Idle) (with_line_read (next_state n e))
came_alone n e (worlds.Full x field) = Full [] n e field
came_alone n e (Next w h) = On (outcome_lines n.mesh e (Next w h)) (with_line_read (next_state n e))

alone_is : (n : schedule.RunState) (e : Event) (o : Outcome) → outcome_by_events (done_then n e o (λ k. outcome_of_events k [])) ≡ came_alone n e o
unfolding outcome_of_events
alone_is n e Idle = ap (λ t. On t (with_line_read (next_state n e))) (append-nil (outcome_lines n.mesh e Idle))
alone_is n e (worlds.Full x field) = refl
alone_is n e (Next w h) = ap (λ t. On t (with_line_read (next_state n e))) (append-nil (outcome_lines n.mesh e (Next w h)))

event_came : (s : schedule.RunState) (e : Event) → IsMesh s.mesh → IsEventLine s.mesh e → text.outcome_of_piece s (Whole (words_of s.mesh (Does e))) ≡ came_alone (with_world s) e (outcome_at (with_world s) e)
unfolding text.outcome_of_line outcome_of_events
event_came s e mesh range = line_came s (Does e) mesh range tt ∙ alone_is (with_world s) e (outcome_at (with_world s) e)

-- ---- events one after another, each on a line of its own

-- the run r has done these events, with their text, and goes on from a state as they have led to;
-- or it has ended at the one that is refused
unfoldable pub Did : auto.EventsOutcome → (schedule.RunState → text.RunText) → text.RunText → Type 0
Did (auto.Ended t n) more r = (k : ℕ) × (r ≡ shell.lines_before t (more (at_line n k)))
Did (auto.Full t n e field) more r = (k : ℕ) × (r.lines ≡ t) × (r.verdict ≡ FullAt k)

did_before : (t : List ℕ) (o : auto.EventsOutcome) (more : schedule.RunState → text.RunText) (r : text.RunText) → Did o more r → Did (before t o) more (shell.lines_before t r)
unfolding Did
did_before t (auto.Ended others n) more r did = (did.0, ap (shell.lines_before t) did.1 ∙ joined (more (at_line n did.0)))
  where
    joined : (w : text.RunText) → shell.lines_before t (shell.lines_before others w) ≡ shell.lines_before (t ++ others) w
    joined w = ap (λ l. record w { lines = l }) (sym (append_assoc t others w.lines))
did_before t (auto.Full others n e field) more r did = (did.0, ap (λ l. t ++ l) did.1, did.2)

started_is : (m : schedule.RunState) (e : Event) (k : ℕ) → with_world (with_line_read (next_state (at_line m k) e)) ≡ at_line (next_state m e) (k + 1)
unfolding next_state
started_is m e k = refl

next_mesh : (m : schedule.RunState) (e : Event) → (next_state m e).mesh ≡ m.mesh
unfolding next_state
next_mesh m e = refl

abbrev pub AllLines : Nodes → List Event → Type 0
AllLines mesh es = AllByRecursion (IsEventLine mesh) es

pub events_did : (n s : schedule.RunState) (es : List Event) (pieces : List Piece) → with_world s ≡ at_line n s.lines → IsMesh n.mesh → AllLines n.mesh es
    → (es ≡ [] → s ≡ at_line n s.lines)
    → Did (outcome_of_events n es) (λ k. text.text_from k pieces) (text.text_from s (pieces_of (event_lines n.mesh es) ++ pieces))
unfolding Did outcome_of_events shell.text_from next_state
events_did n s [] pieces same mesh all none = (s.lines, ap (λ k. text.text_from k pieces) (none refl))
events_did n s (e ∷ es) pieces same mesh all none =
    by (outcome_at n e) refl (events_did (next_state n e) (with_line_read (next_state (at_line n s.lines) e)) es pieces (started_is n e s.lines) mesh all.1 (λ _. refl))
  where
    s_mesh : s.mesh ≡ n.mesh
    s_mesh = ap (λ k. k.mesh) same

    rest : List Piece
    rest = pieces_of (event_lines n.mesh es) ++ pieces

    came : text.outcome_of_piece s (Whole (words_of n.mesh (Does e))) ≡ came_alone (at_line n s.lines) e (outcome_at n e)
    came = ap (λ k. text.outcome_of_piece s (Whole (words_of k (Does e)))) (sym s_mesh)
        ∙ event_came s e (subst IsMesh (sym s_mesh) mesh) (subst (λ k. IsEventLine k e) (sym s_mesh) all.0)
        ∙ ap (λ k. came_alone k e (outcome_at k e)) same

    begun : text.text_from s (pieces_of (event_lines n.mesh (e ∷ es)) ++ pieces) ≡ text.goes_on s (text.outcome_of_piece s (Whole (words_of n.mesh (Does e)))) (λ k. text.text_from k rest)
    begun = refl

    whole : (o : Outcome) → outcome_at n e ≡ o → text.text_from s (pieces_of (event_lines n.mesh (e ∷ es)) ++ pieces) ≡ text.goes_on s (came_alone (at_line n s.lines) e o) (λ k. text.text_from k rest)
    whole o is = begun ∙ ap (λ c. text.goes_on s c (λ k. text.text_from k rest)) (came ∙ ap (came_alone (at_line n s.lines) e) is)

    after : schedule.RunState
    after = with_line_read (next_state (at_line n s.lines) e)

    by : (o : Outcome) → outcome_at n e ≡ o → Did (outcome_of_events (next_state n e) es) (λ k. text.text_from k pieces) (text.text_from after rest)
        → Did (done_then n e o (λ k. outcome_of_events k es)) (λ k. text.text_from k pieces) (text.text_from s (pieces_of (event_lines n.mesh (e ∷ es)) ++ pieces))
    by Idle is others = subst (Did (done_then n e Idle (λ k. outcome_of_events k es)) (λ k. text.text_from k pieces)) (sym (whole Idle is))
        (did_before (outcome_lines n.mesh e Idle) (outcome_of_events (next_state n e) es) (λ k. text.text_from k pieces) (text.text_from after rest) others)
    by (worlds.Full x field) is others = (s.lines + 1, ap (λ r. r.lines) (whole (worlds.Full x field) is), ap (λ r. r.verdict) (whole (worlds.Full x field) is))
    by (Next w h) is others = subst (Did (done_then n e (Next w h) (λ k. outcome_of_events k es)) (λ k. text.text_from k pieces)) (sym (whole (Next w h) is))
        (did_before (outcome_lines n.mesh e (Next w h)) (outcome_of_events (next_state n e) es) (λ k. text.text_from k pieces) (text.text_from after rest) others)

-- ---- the lines that stand in the place of one

-- the run r has done what a line comes to, and goes on from a state as it has led to
unfoldable pub Replays : schedule.RunState → LineOutcome → (schedule.RunState → text.RunText) → text.RunText → Type 0
Replays m (On t n) more r = (k : ℕ) × (r ≡ shell.lines_before t (more (at_line n k)))
Replays m (Refused why) more r = (k : ℕ) × (r ≡ text.finished_run (at_line m k))
Replays m (Full t n e field) more r = (k : ℕ) × (r.lines ≡ t) × (r.verdict ≡ FullAt k)

by_did : (m : schedule.RunState) (o : auto.EventsOutcome) (more : schedule.RunState → text.RunText) (r : text.RunText) → Did o more r → Replays m (outcome_by_events o) more r
unfolding Did Replays
by_did m (auto.Ended t n) more r did = did
by_did m (auto.Full t n e field) more r did = did

pub drawn_replays : (m : schedule.RunState) (k : ℕ) (es : List Event) (pieces : List Piece) → IsMesh m.mesh → AllLines m.mesh es
    → Replays m (outcome_of_drawn m es) (λ n. text.text_from n pieces) (text.text_from (at_line m k) (pieces_of (event_lines m.mesh es) ++ pieces))
unfolding Replays
drawn_replays m k [] pieces mesh all = (k, refl)
drawn_replays m k (e ∷ es) pieces mesh all =
    by_did m (outcome_of_events (with_world m) (e ∷ es)) (λ n. text.text_from n pieces) (text.text_from (at_line m k) (pieces_of (event_lines m.mesh (e ∷ es)) ++ pieces))
    (events_did (with_world m) (at_line m k) (e ∷ es) pieces refl mesh all (λ none. absurd (let P : ⊥ = cc in P)))

-- a line of the schedule that has no events
other_came : (m : schedule.RunState) (k : ℕ) (a : AcceptedLine) (pieces : List Piece) → IsMesh m.mesh → IsInRange m.mesh a → IsInTime (is_some m.world) a
    → text.text_from (at_line m k) (Whole (words_of m.mesh a) ∷ pieces) ≡ text.goes_on (at_line m k) (text.outcome_of_line (at_line m k) a) (λ n. text.text_from n pieces)
unfolding shell.text_from
other_came m k a pieces mesh range early = ap (λ c. text.goes_on (at_line m k) c (λ n. text.text_from n pieces)) (line_came (at_line m k) a mesh range early)

pub node_replays : (m : schedule.RunState) (k address first : ℕ) (pieces : List Piece) → IsMesh m.mesh → IsInRange m.mesh (NewNode address first) → IsInTime (is_some m.world) (NewNode address first)
    → Replays m (text.outcome_of_line m (NewNode address first)) (λ n. text.text_from n pieces) (text.text_from (at_line m k) (Whole (words_of m.mesh (NewNode address first)) ∷ pieces))
unfolding Replays text.outcome_of_line
node_replays m k address first pieces mesh range early = (k + 1, other_came m k (NewNode address first) pieces mesh range early)

pub node_shown_replays : (m : schedule.RunState) (k x : ℕ) (pieces : List Piece) → IsMesh m.mesh → IsInRange m.mesh (ShowsNode x)
    → Replays m (text.outcome_of_line m (ShowsNode x)) (λ n. text.text_from n pieces) (text.text_from (at_line m k) (Whole (words_of m.mesh (ShowsNode x)) ∷ pieces))
unfolding Replays text.outcome_of_line
node_shown_replays m k x pieces mesh range = (k + 1, other_came m k (ShowsNode x) pieces mesh range tt)

pub route_shown_replays : (m : schedule.RunState) (k x d : ℕ) (pieces : List Piece) → IsMesh m.mesh → IsInRange m.mesh (ShowsRoute x d)
    → Replays m (text.outcome_of_line m (ShowsRoute x d)) (λ n. text.text_from n pieces) (text.text_from (at_line m k) (Whole (words_of m.mesh (ShowsRoute x d)) ∷ pieces))
unfolding Replays text.outcome_of_line
route_shown_replays m k x d pieces mesh range = (k + 1, other_came m k (ShowsRoute x d) pieces mesh range tt)

pub flight_shown_replays : (m : schedule.RunState) (k : ℕ) (pieces : List Piece) → IsMesh m.mesh → IsInRange m.mesh ShowsFlight
    → Replays m (text.outcome_of_line m ShowsFlight) (λ n. text.text_from n pieces) (text.text_from (at_line m k) (Whole (words_of m.mesh ShowsFlight) ∷ pieces))
unfolding Replays text.outcome_of_line
flight_shown_replays m k pieces mesh range = (k + 1, other_came m k ShowsFlight pieces mesh range tt)

pub blank_replays : (m : schedule.RunState) (k : ℕ) (pieces : List Piece) → Replays m (text.outcome_of_line m Nothing) (λ n. text.text_from n pieces) (text.text_from (at_line m k) pieces)
unfolding Replays text.outcome_of_line
blank_replays m k pieces = (k, refl)
