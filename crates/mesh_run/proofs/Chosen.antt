-- Events one after another: those that the run chooses, or the one of a line.
use Rattle.std.proofs.Common.{◌≡◌, ℕ, zero, suc, ◌+◌, ◌-◌, ◌<◌, ◌≤◌, Bool, List, [], ◌∷◌, ◌++◌, Option, Some, None, Result, Ok, Err, length, refl, sym, ap, subst, ◌∙◌, arith}
use Rattle.std.specs.Prelude.{IfSome}
use Rattle.std.specs.Io.KnownBytes.{Appends}
use Rattle.mesh_base.specs.declared.events.Full.{Full as Counter}
use Rattle.mesh_io.specs.Puts.{AppendsPrefix}
use Rattle.mesh_model.specs.Worlds as worlds
use Rattle.mesh_model.specs.Worlds.{Event, Outcome, Idle, Next}
use Rattle.mesh_model.specs.InMesh.{IsEvent}
use Rattle.mesh_model.specs.Choices.{pick}
use Rattle.mesh_meaning.specs.Events.{event_of}
use Rattle.mesh_text.specs.Schedule.{RunState, Does, Chooses, with_line_read, with_world, next_state, outcome_at, world_of}
use Rattle.mesh_text.specs.Lines.{words_of}
use Rattle.mesh_grammar.specs.Written.{line}
use Rattle.mesh_text.specs.Effects.{outcome_lines}
use Rattle.mesh_text.specs.Auto.{EventsOutcome, Ended, Full as EventsFull, before, done_then, outcome_of_events, event_then, choice_then, events_chosen, auto_end}
use Rattle.mesh_text.specs.Text.{LineOutcome, On, Refused, Full, outcome_by_events, outcome_of_auto, outcome_of_line, text_in}
use Rattle.mesh_run.specs.declared.stop.Stop.{Stop}
use Rattle.mesh_run.specs.declared.stop.Stop.TheVariants as stop
use Rattle.mesh_run.specs.Runs.{output_if, IsStill, IsLineDone, IsLineStopped, outcome_by, IsEventsDone, IsEventsRun, text_of}
use Rattle.mesh_run.proofs.Shown.{shown_none, shown_join, front_join, front_more}

-- ---- how many are left

pub one_less : (most did : ℕ) → did < most → most - did ≡ suc (most - (did + 1))
one_less most did h = omega arith

none_left : (most did : ℕ) → most ≤ did → most - did ≡ 0
none_left most did h = omega arith

-- one event by itself
one_alone : (m : RunState) (e : Event) (o : Outcome) → e ∷ [] ≡ event_then m e o (λ n. [])
one_alone m e Idle = refl
one_alone m e (worlds.Full x field) = refl
one_alone m e (Next w i) = refl

chosen_suc : (k : ℕ) (m : RunState) → events_chosen (suc k) m ≡ choice_then m (pick (world_of m)) (λ n. events_chosen k n)
unfolding events_chosen
chosen_suc k m = refl

chosen_zero : (m : RunState) → events_chosen 0 m ≡ []
unfolding events_chosen
chosen_zero m = refl

-- none is left to be chosen
pub chosen_none : (k : ℕ) (m : RunState) → None ≡ pick (world_of m) → events_chosen k m ≡ []
chosen_none zero m h = chosen_zero m
chosen_none (suc k) m h = chosen_suc k m ∙ ap (λ o. choice_then m o (λ n. events_chosen k n)) (sym h)

-- as many were done as were asked for
pub chosen_all : (most did : ℕ) (m : RunState) → most ≤ did → events_chosen (most - did) m ≡ []
chosen_all most did m h = ap (λ k. events_chosen k m) (none_left most did h) ∙ chosen_zero m

-- one more
pub chosen_next : (most did : ℕ) (m : RunState) (e : Event) → did < most → Some e ≡ pick (world_of m)
    → events_chosen (most - did) m ≡ event_then m e (outcome_at m e) (λ n. events_chosen (most - (did + 1)) n)
chosen_next most did m e h picked =
    ap (λ k. events_chosen k m) (one_less most did h) ∙ chosen_suc (most - (did + 1)) m ∙ ap (λ o. choice_then m o (λ n. events_chosen (most - (did + 1)) n)) (sym picked)

-- what comes of one event, and then of others
ran_then : (m : RunState) (e : Event) (o : Outcome) (others : RunState → List Event) → outcome_at m e ≡ o
    → outcome_of_events m (event_then m e o others) ≡ done_then m e o (λ n. outcome_of_events n (others n))
unfolding outcome_of_events
ran_then m e Idle others is = ap (λ o. done_then m e o (λ n. outcome_of_events n (others (next_state m e)))) is
ran_then m e (worlds.Full x field) others is = ap (λ o. done_then m e o (λ n. outcome_of_events n [])) is
ran_then m e (Next w i) others is = ap (λ o. done_then m e o (λ n. outcome_of_events n (others (next_state m e)))) is

pub ran_next : (m : RunState) (e : Event) (others : RunState → List Event)
    → outcome_of_events m (event_then m e (outcome_at m e) others) ≡ done_then m e (outcome_at m e) (λ n. outcome_of_events n (others n))
ran_next m e others = ran_then m e (outcome_at m e) others refl

pub nothing_more : (say : Bool) (m : RunState) (events : List Event) (a : Option (List ℕ)) → events ≡ [] → IsEventsDone say (outcome_of_events m events) m a a
unfolding outcome_of_events
nothing_more say m events a none = record { text = []; is = ap (outcome_of_events m) none; grown = shown_none say a }

-- one was done, so as many are left as there were but one
then_counts : (say : Bool) (m n : RunState) (e : Event) (o : Outcome) (others : RunState → List Event) (a b : Option (List ℕ)) → IsLineDone say (outcome_by m e o) n a b → n ≡ next_state m e
    → length (event_then m e o others) ≡ suc (length (others n))
then_counts say m n e Idle others a b done next = ap (λ k. suc (length (others k))) (sym next)
then_counts say m n e (worlds.Full x field) others a b done next = absurd (let h : Full [] m e field ≡ On done.text n = done.is in let P : ⊥ = cc in P)
then_counts say m n e (Next w i) others a b done next = ap (λ k. suc (length (others k))) (sym next)

pub chosen_counts : (say : Bool) (most did : ℕ) (m n : RunState) (e : Event) (a b : Option (List ℕ)) → did < most → Some e ≡ pick (world_of m)
    → IsLineDone say (outcome_by m e (outcome_at m e)) n a b → n ≡ next_state m e → length (events_chosen (most - did) m) ≡ suc (length (events_chosen (most - (did + 1)) n))
chosen_counts say most did m n e a b h p done next =
    ap length (chosen_next most did m e h p) ∙ then_counts say m n e (outcome_at m e) (λ x. events_chosen (most - (did + 1)) x) a b done next

-- ---- one event, and then the others

pub text-before : (text : List ℕ) (ran : EventsOutcome) → text_of (before text ran) ≡ text ++ text_of ran
text-before text (Ended others after) = refl
text-before text (EventsFull others n e field) = refl

before_to : (say : Bool) (m n k : RunState) (text : List ℕ) (ran : EventsOutcome) (a b c : Option (List ℕ)) (r : Result ℕ Stop) → n.mesh ≡ m.mesh → n.lines ≡ m.lines
    → Appends a b (output_if say text) → IsEventsRun say n ran k b c r → IsEventsRun say m (before text ran) k a c r
before_to say m n k text ran a b c (Ok did) em el p q =
    record { text = text ++ q.text; is = ap (before text) q.is; grown = shown_join say a b c text q.text p q.grown }
before_to say m n k text ran a b c (Err (stop.BadLine f)) em el p q = q
before_to say m n k text ran a b c (Err (stop.Full event node field)) em el p q = record {
  text = text ++ q.text;
  is = ap (before text) q.is;
  refused = q.refused;
  grown = shown_join say a b c text q.text p q.grown;
  still = record { event = subst (λ l. IsEvent (length l) (event_of event)) em q.still.event; mesh = q.still.mesh ∙ em; lines = q.still.lines ∙ el };
}
before_to say m n k text ran a b c (Err stop.WriteFault) em el p q =
    let P : List ℕ → Type 0 = λ l. AppendsPrefix a c (output_if say l) in
    subst P (sym (text-before text ran)) (front_join say a b c text (text_of ran) p q)
before_to say m n k text ran a b c (Err stop.NoMemory) em el p q =
    let P : List ℕ → Type 0 = λ l. AppendsPrefix a c (output_if say l) in
    subst P (sym (text-before text ran)) (front_join say a b c text (text_of ran) p q)

-- the state after what came of an event
state_of_came : RunState → LineOutcome → RunState
state_of_came m (On text n) = n
state_of_came m (Refused why) = m
state_of_came m (Full text n e field) = m

-- an event that was done
pub on_then : (say : Bool) (m n k : RunState) (e : Event) (text : List ℕ) (ran : RunState → EventsOutcome) (a b c : Option (List ℕ)) (r : Result ℕ Stop)
    → (g : IsLineDone say (On text (next_state m e)) n a b) → IsEventsRun say n (ran n) k b c r → IsEventsRun say m (before text (ran (next_state m e))) k a c r
unfolding next_state state_of_came
on_then say m n k e text ran a b c r g q =
    let same : next_state m e ≡ n = ap (state_of_came m) g.is in
    let words : text ≡ g.text = ap text_in g.is in
    let P : RunState → Type 0 = λ p. IsEventsRun say m (before text (ran p)) k a c r in
    let Q : List ℕ → Type 0 = λ l. Appends a b (output_if say l) in
    subst P (sym same) (before_to say m n k text (ran n) a b c r (ap (λ p. p.mesh) (sym same)) (ap (λ p. p.lines) (sym same)) (subst Q (sym words) g.grown) q)

pub then_goes : (say : Bool) (m n k : RunState) (e : Event) (o : Outcome) (others : RunState → EventsOutcome) (a b c : Option (List ℕ)) (r : Result ℕ Stop)
    → IsLineDone say (outcome_by m e o) n a b → IsEventsRun say n (others n) k b c r → IsEventsRun say m (done_then m e o others) k a c r
then_goes say m n k e Idle others a b c r g q = on_then say m n k e (outcome_lines m.mesh e Idle) others a b c r g q
then_goes say m n k e (worlds.Full x field) others a b c r g q = absurd (let h : Full [] m e field ≡ On g.text n = g.is in let P : ⊥ = cc in P)
then_goes say m n k e (Next w i) others a b c r g q = on_then say m n k e (outcome_lines m.mesh e (Next w i)) others a b c r g q

-- an event that was not done, or not written whole
pub on_stops : (say : Bool) (m n p : RunState) (text : List ℕ) (ran : EventsOutcome) (a b : Option (List ℕ)) (t : Stop)
    → IsLineStopped say m (On text p) n a b t → IsEventsRun say m (before text ran) n a b (Err t)
on_stops say m n p text ran a b (stop.BadLine f) g = absurd (let h = g.0 in let P : ⊥ = cc in P)
on_stops say m n p text ran a b (stop.Full event node field) g = absurd (let h : On text p ≡ Full g.text n (event_of event) field = g.is in let P : ⊥ = cc in P)
on_stops say m n p text ran a b stop.WriteFault g =
    let P : List ℕ → Type 0 = λ l. AppendsPrefix a b (output_if say l) in
    subst P (sym (text-before text ran)) (front_more say a b text (text_of ran) g)
on_stops say m n p text ran a b stop.NoMemory g =
    let P : List ℕ → Type 0 = λ l. AppendsPrefix a b (output_if say l) in
    subst P (sym (text-before text ran)) (front_more say a b text (text_of ran) g)

ran_in : EventsOutcome → LineOutcome → EventsOutcome
ran_in d (On text n) = d
ran_in d (Refused why) = d
ran_in d (Full text n e field) = EventsFull text n e field

-- one that is refused for a full counter
pub full_stops : (say : Bool) (m n : RunState) (e : Event) (full : Counter) (a b : Option (List ℕ)) (t : Stop)
    → IsLineStopped say m (Full [] m e full) n a b t → IsEventsRun say m (EventsFull [] m e full) n a b (Err t)
unfolding ran_in
full_stops say m n e full a b (stop.BadLine f) g = absurd (let h = g.0 in let P : ⊥ = cc in P)
full_stops say m n e full a b (stop.Full event node field) g = record {
  text = g.text;
  is = ap (ran_in (EventsFull [] m e full)) g.is;
  refused = g.refused;
  grown = g.grown;
  still = g.still;
}
full_stops say m n e full a b stop.WriteFault g = g
full_stops say m n e full a b stop.NoMemory g = g

pub then_stops : (say : Bool) (m n : RunState) (e : Event) (o : Outcome) (others : RunState → EventsOutcome) (a b : Option (List ℕ)) (t : Stop)
    → IsLineStopped say m (outcome_by m e o) n a b t → IsEventsRun say m (done_then m e o others) n a b (Err t)
then_stops say m n e Idle others a b t g = on_stops say m n (next_state m e) (outcome_lines m.mesh e Idle) (others (next_state m e)) a b t g
then_stops say m n e (worlds.Full x full) others a b t g = full_stops say m n e full a b t g
then_stops say m n e (Next w i) others a b t g = on_stops say m n (next_state m e) (outcome_lines m.mesh e (Next w i)) (others (next_state m e)) a b t g

-- one event more
pub ran_goes : (say : Bool) (most did : ℕ) (m n k : RunState) (e : Event) (a b c : Option (List ℕ)) (r : Result ℕ Stop) → did < most → Some e ≡ pick (world_of m)
    → IsLineDone say (outcome_by m e (outcome_at m e)) n a b → IsEventsRun say n (outcome_of_events n (events_chosen (most - (did + 1)) n)) k b c r
    → IsEventsRun say m (outcome_of_events m (events_chosen (most - did) m)) k a c r
ran_goes say most did m n k e a b c r h p g q =
    let P : EventsOutcome → Type 0 = λ ran. IsEventsRun say m ran k a c r in
    subst P (sym (ap (outcome_of_events m) (chosen_next most did m e h p) ∙ ran_next m e (λ x. events_chosen (most - (did + 1)) x)))
    (then_goes say m n k e (outcome_at m e) (λ x. outcome_of_events x (events_chosen (most - (did + 1)) x)) a b c r g q)

pub ran_stops : (say : Bool) (most did : ℕ) (m n : RunState) (e : Event) (a b : Option (List ℕ)) (t : Stop) → did < most → Some e ≡ pick (world_of m)
    → IsLineStopped say m (outcome_by m e (outcome_at m e)) n a b t → IsEventsRun say m (outcome_of_events m (events_chosen (most - did) m)) n a b (Err t)
ran_stops say most did m n e a b t h p g =
    let P : EventsOutcome → Type 0 = λ ran. IsEventsRun say m ran n a b (Err t) in
    subst P (sym (ap (outcome_of_events m) (chosen_next most did m e h p) ∙ ran_next m e (λ x. events_chosen (most - (did + 1)) x)))
    (then_stops say m n e (outcome_at m e) (λ x. outcome_of_events x (events_chosen (most - (did + 1)) x)) a b t g)

-- one event by itself
alone_is : (m : RunState) (e : Event) → outcome_of_events m (e ∷ []) ≡ done_then m e (outcome_at m e) (λ n. outcome_of_events n [])
alone_is m e = ap (outcome_of_events m) (one_alone m e (outcome_at m e)) ∙ ran_next m e (λ n. [])

alone_goes : (say : Bool) (m n : RunState) (e : Event) (a b : Option (List ℕ)) → IsLineDone say (outcome_by m e (outcome_at m e)) n a b → IsEventsDone say (outcome_of_events m (e ∷ [])) n a b
alone_goes say m n e a b g =
    let P : EventsOutcome → Type 0 = λ ran. IsEventsRun say m ran n a b (Ok 1) in
    subst P (sym (alone_is m e)) (then_goes say m n n e (outcome_at m e) (λ x. outcome_of_events x []) a b b (Ok 1) g (nothing_more say n [] b refl))

alone_stops : (say : Bool) (m n : RunState) (e : Event) (a b : Option (List ℕ)) (t : Stop) → IsLineStopped say m (outcome_by m e (outcome_at m e)) n a b t
    → IsEventsRun say m (outcome_of_events m (e ∷ [])) n a b (Err t)
alone_stops say m n e a b t g =
    let P : EventsOutcome → Type 0 = λ ran. IsEventsRun say m ran n a b (Err t) in
    subst P (sym (alone_is m e)) (then_stops say m n e (outcome_at m e) (λ x. outcome_of_events x []) a b t g)

-- ---- the line of an event

-- what is known after a refusal, of the state before the run was started
still_since : (m s n : RunState) (e : Event) → s ≡ with_world m → IsStill s n e → IsStill m n e
still_since m s n e same still = record {
  event = subst (λ x. IsEvent (length x.mesh) e) same still.event;
  mesh = still.mesh ∙ ap (λ x. x.mesh) same;
  lines = still.lines ∙ ap (λ x. x.lines) same;
}

came-does : (m s : RunState) (e : Event) → s ≡ with_world m → outcome_of_line m (Does e) ≡ outcome_by_events (outcome_of_events s (e ∷ []))
unfolding outcome_of_line
came-does m s e same = ap (λ k. outcome_by_events (outcome_of_events k (e ∷ []))) (sym same)

pub text_by : (ran : EventsOutcome) → text_in (outcome_by_events ran) ≡ text_of ran
text_by (Ended text n) = refl
text_by (EventsFull text n e field) = refl

pub does_goes : (say : Bool) (m s n : RunState) (e : Event) (a b : Option (List ℕ)) → s ≡ with_world m → IsLineDone say (outcome_by s e (outcome_at s e)) n a b
    → IsLineDone say (outcome_of_line m (Does e)) (with_line_read n) a b
does_goes say m s n e a b same done =
    let g = alone_goes say s n e a b done in
    record { text = g.text; is = came-does m s e same ∙ ap outcome_by_events g.is; grown = g.grown }

does_front : (say : Bool) (m s : RunState) (e : Event) (a b : Option (List ℕ)) → s ≡ with_world m → AppendsPrefix a b (output_if say (text_of (outcome_of_events s (e ∷ []))))
    → AppendsPrefix a b (output_if say (text_in (outcome_of_line m (Does e))))
does_front say m s e a b same g =
    let P : List ℕ → Type 0 = λ l. AppendsPrefix a b (output_if say l) in
    subst P (sym (ap text_in (came-does m s e same) ∙ text_by (outcome_of_events s (e ∷ [])))) g

does_stopped : (say : Bool) (m s n : RunState) (e : Event) (a b : Option (List ℕ)) (t : Stop) → s ≡ with_world m → IsEventsRun say s (outcome_of_events s (e ∷ [])) n a b (Err t)
    → IsLineStopped say m (outcome_of_line m (Does e)) n a b t
does_stopped say m s n e a b (stop.BadLine f) same g = absurd g
does_stopped say m s n e a b (stop.Full event node field) same g = record {
  text = g.text;
  is = came-does m s e same ∙ ap outcome_by_events g.is;
  refused = g.refused;
  grown = g.grown;
  still = still_since m s n (event_of event) same g.still;
}
does_stopped say m s n e a b stop.WriteFault same g = does_front say m s e a b same g
does_stopped say m s n e a b stop.NoMemory same g = does_front say m s e a b same g

pub does_stops : (say : Bool) (m s n : RunState) (e : Event) (a b : Option (List ℕ)) (t : Stop) → s ≡ with_world m → IsLineStopped say s (outcome_by s e (outcome_at s e)) n a b t
    → IsLineStopped say m (outcome_of_line m (Does e)) n a b t
does_stops say m s n e a b t same g = does_stopped say m s n e a b t same (alone_stops say s n e a b t g)

-- ---- the line of chosen events

-- here `k` is what the line comes to, and `ran` the events, of which there were `did`, from state s on
front_in : (say : Bool) (w : List ℕ) (did : ℕ) (ran : EventsOutcome) (a b c : Option (List ℕ)) → Appends a b (output_if say w) → AppendsPrefix b c (output_if say (text_of ran))
    → AppendsPrefix a c (output_if say (text_in (outcome_of_auto w did ran)))
front_in say w did (Ended others after) a b c p q = front_more say a c (w ++ others) (auto_end did) (front_join say a b c w others p q)
front_in say w did (EventsFull others n e field) a b c p q = front_join say a b c w others p q

front_at : (say : Bool) (w : List ℕ) (did : ℕ) (ran : EventsOutcome) (a b : Option (List ℕ)) → AppendsPrefix a b (output_if say w) → AppendsPrefix a b (output_if say (text_in (outcome_of_auto w did ran)))
front_at say w did (Ended others after) a b p = front_more say a b (w ++ others) (auto_end did) (front_more say a b w others p)
front_at say w did (EventsFull others n e field) a b p = front_more say a b w others p

pub line_goes : (say : Bool) (k : LineOutcome) (w : List ℕ) (did : ℕ) (ran : EventsOutcome) (n next : RunState) (a b c d : Option (List ℕ)) → k ≡ outcome_of_auto w did ran → Appends a b (output_if say w)
    → IsEventsDone say ran n b c → Appends c d (output_if say (auto_end did)) → next ≡ with_line_read n → IsLineDone say k next a d
line_goes say k w did ran n next a b c d is p q r counts = record {
  text = w ++ q.text ++ auto_end did;
  is = is ∙ ap (outcome_of_auto w did) q.is ∙ ap (λ x. On (w ++ q.text ++ auto_end did) x) (sym counts);
  grown = shown_join say a c d (w ++ q.text) (auto_end did) (shown_join say a b c w q.text p q.grown) r;
}

-- the line itself is not written whole
pub line_front : (say : Bool) (k : LineOutcome) (w : List ℕ) (did : ℕ) (ran : EventsOutcome) (a b : Option (List ℕ)) → k ≡ outcome_of_auto w did ran → AppendsPrefix a b (output_if say w) → AppendsPrefix a b (output_if say (text_in k))
line_front say k w did ran a b is p =
    let P : LineOutcome → Type 0 = λ x. AppendsPrefix a b (output_if say (text_in x)) in
    subst P (sym is) (front_at say w did ran a b p)

-- nor the line after the events
pub line_end_front : (say : Bool) (k : LineOutcome) (w : List ℕ) (did : ℕ) (ran : EventsOutcome) (n : RunState) (a b c d : Option (List ℕ)) → k ≡ outcome_of_auto w did ran → Appends a b (output_if say w)
    → IsEventsDone say ran n b c → AppendsPrefix c d (output_if say (auto_end did)) → AppendsPrefix a d (output_if say (text_in k))
line_end_front say k w did ran n a b c d is p q r =
    let P : LineOutcome → Type 0 = λ x. AppendsPrefix a d (output_if say (text_in x)) in
    subst P (sym (is ∙ ap (outcome_of_auto w did) q.is)) (front_join say a c d (w ++ q.text) (auto_end did) (shown_join say a b c w q.text p q.grown) r)

-- an event was not done, or not written whole
pub line_stops : (say : Bool) (m s : RunState) (k : LineOutcome) (w : List ℕ) (did : ℕ) (ran : EventsOutcome) (n : RunState) (a b c : Option (List ℕ)) (t : Stop) → s ≡ with_world m → k ≡ outcome_of_auto w did ran
    → Appends a b (output_if say w) → IsEventsRun say s ran n b c (Err t) → IsLineStopped say m k n a c t
line_stops say m s k w did ran n a b c (stop.BadLine f) same is p q = absurd q
line_stops say m s k w did ran n a b c (stop.Full event node field) same is p q = record {
  text = w ++ q.text;
  is = is ∙ ap (outcome_of_auto w did) q.is;
  refused = q.refused;
  grown = shown_join say a b c w q.text p q.grown;
  still = still_since m s n (event_of event) same q.still;
}
line_stops say m s k w did ran n a b c stop.WriteFault same is p q =
    let P : LineOutcome → Type 0 = λ x. AppendsPrefix a c (output_if say (text_in x)) in
    subst P (sym is) (front_in say w did ran a b c p q)
line_stops say m s k w did ran n a b c stop.NoMemory same is p q =
    let P : LineOutcome → Type 0 = λ x. AppendsPrefix a c (output_if say (text_in x)) in
    subst P (sym is) (front_in say w did ran a b c p q)

-- ---- the same of the schedule's run

came-chooses : (m s : RunState) (count did : ℕ) → s ≡ with_world m → did ≡ length (events_chosen count s)
    → outcome_of_line m (Chooses count) ≡ outcome_of_auto (line (words_of m.mesh (Chooses count))) did (outcome_of_events s (events_chosen count s))
unfolding outcome_of_line
came-chooses m s count did same many =
    ap (λ k. outcome_of_auto (line (words_of m.mesh (Chooses count))) (length (events_chosen count k)) (outcome_of_events k (events_chosen count k))) (sym same)
    ∙ ap (λ x. outcome_of_auto (line (words_of m.mesh (Chooses count))) x (outcome_of_events s (events_chosen count s))) (sym many)

pub auto_goes : (say : Bool) (m s n k : RunState) (count did : ℕ) (a b c d : Option (List ℕ)) → s ≡ with_world m → did ≡ length (events_chosen count s)
    → Appends a b (output_if say (line (words_of m.mesh (Chooses count))))
    → IsEventsDone say (outcome_of_events s (events_chosen count s)) n b c → Appends c d (output_if say (auto_end did)) → k ≡ with_line_read n → IsLineDone say (outcome_of_line m (Chooses count)) k a d
auto_goes say m s n k count did a b c d same many p q r next =
    line_goes say (outcome_of_line m (Chooses count)) (line (words_of m.mesh (Chooses count))) did (outcome_of_events s (events_chosen count s)) n k a b c d (came-chooses m s count did same many) p q r next

pub auto_front : (say : Bool) (m s : RunState) (count : ℕ) (a b : Option (List ℕ)) → s ≡ with_world m → AppendsPrefix a b (output_if say (line (words_of m.mesh (Chooses count))))
    → AppendsPrefix a b (output_if say (text_in (outcome_of_line m (Chooses count))))
auto_front say m s count a b same p =
    line_front say (outcome_of_line m (Chooses count)) (line (words_of m.mesh (Chooses count))) _ (outcome_of_events s (events_chosen count s)) a b (came-chooses m s count _ same refl) p

pub auto_end_front : (say : Bool) (m s n : RunState) (count did : ℕ) (a b c d : Option (List ℕ)) → s ≡ with_world m → did ≡ length (events_chosen count s)
    → Appends a b (output_if say (line (words_of m.mesh (Chooses count)))) → IsEventsDone say (outcome_of_events s (events_chosen count s)) n b c → AppendsPrefix c d (output_if say (auto_end did))
    → AppendsPrefix a d (output_if say (text_in (outcome_of_line m (Chooses count))))
auto_end_front say m s n count did a b c d same many p q r =
    line_end_front say (outcome_of_line m (Chooses count)) (line (words_of m.mesh (Chooses count))) did (outcome_of_events s (events_chosen count s)) n a b c d (came-chooses m s count did same many) p q r

pub auto_stops : (say : Bool) (m s n : RunState) (count : ℕ) (a b c : Option (List ℕ)) (t : Stop) → s ≡ with_world m
    → Appends a b (output_if say (line (words_of m.mesh (Chooses count)))) → IsEventsRun say s (outcome_of_events s (events_chosen count s)) n b c (Err t)
    → IsLineStopped say m (outcome_of_line m (Chooses count)) n a c t
auto_stops say m s n count a b c t same p q =
    line_stops say m s (outcome_of_line m (Chooses count)) (line (words_of m.mesh (Chooses count))) _ (outcome_of_events s (events_chosen count s)) n a b c t same (came-chooses m s count _ same refl) p q
