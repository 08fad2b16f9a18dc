-- By how much a line lets the sums and the steps grow.
use Rattle.std.proofs.Common.{◌≡◌, inl, inr, if◌then◌else◌, ℕ, suc, ◌+◌, ◌*◌, ◌≤◌, Bool, true, false, List, [], ◌∷◌, Option, Some, None, Result, Ok, Err, OnOk, length, is_some, refl, ap, subst, arith}
use Rattle.mesh_base.specs.declared.limits.TheConstants.{MOST_NODES, MOST_EVENTS}
use Rattle.mesh_model.specs.Worlds as worlds
use Rattle.mesh_model.specs.Worlds.{World, start, first_numbers, Event, Outcome, Idle, Next, WorldEffect, Taken, CopyLost, Give, Turn}
use Rattle.aodv_model.specs.Handlers.{Took, Own, Stored, FromNeighbour}
use Rattle.mesh_base.specs.declared.events.Variant.{Variant}
use Rattle.mesh_base.specs.Meshes.{Nodes, with_node}
use Rattle.std.specs.Option.{unwrap_or}
use Rattle.mesh_model.proofs.Sizes.{same_size}
use Rattle.mesh_model.proofs.Doublings.{one_at_most}
use Rattle.mesh_model.specs.Accounts.{any, in_taken, in_dropped, given_data, delivered_data, delivered_in, dropped_data, dropped_in, doubled_at}
use Rattle.mesh_shell.specs.Pieces.{Whole}
use Rattle.mesh_grammar.specs.Written.{line}
use Rattle.mesh_text.specs.Schedule.{RunState, AcceptedLine, Nothing, NewNode, Does, Chooses, ShowsNode, ShowsRoute, ShowsFlight, line_of, world_of, with_world, next_state, with_line_read, outcome_at, idle_by}
use Rattle.mesh_text.specs.Lines.{words_of}
use Rattle.mesh_text.specs.Auto as auto
use Rattle.mesh_text.specs.Ranges.{IsInRange}
use Rattle.mesh_text.specs.Text.{LineOutcome, On, Refused, Full, outcome_by_events, outcome_of_auto, outcome_of_line}
use Rattle.mesh_text.specs.Runs.{events_read, events_of_piece}
use Rattle.mesh_text.proofs.InRange.{in_range}
use Rattle.mesh_text.proofs.LineLaws.{chosen_few, line_has_few_events}
use Rattle.mesh_text.proofs.RunStates.{doubled_at_most}
use Rattle.mesh_io.specs.Cutting.{IsCounted}
use Rattle.mesh_run.specs.declared.stop.Stop.{Stop}
use Rattle.mesh_run.specs.Runs.{IsLineDone, IsLineRun}
use Rattle.mesh_run.specs.Sums.{IsGrown}
use Rattle.mesh_run.proofs.NextCopies.{few_copies}

-- ---- no sum grows by more than one

idle_few : (o : Outcome) → idle_by o ≤ 1
idle_few Idle = omega arith
idle_few (worlds.Full x field) = omega arith
idle_few (Next w world_effect) = omega arith

given_few : (e : Event) (o : Outcome) → given_data any e o ≤ 1
given_few (Give x d body) Idle = omega arith
given_few (Give x d body) (worlds.Full y field) = omega arith
given_few (Give x d body) (Next w world_effect) = omega arith
given_few others o = omega arith

taken_few : (x : ℕ) (took : Took) → in_taken any x took ≤ 1
taken_few x (Own b) = omega arith
taken_few x (Stored d) = omega arith
taken_few x (FromNeighbour from m) = one_at_most m

delivered_in_few : (x : ℕ) (h : WorldEffect) → delivered_in any x h ≤ 1
delivered_in_few x (Taken took effect copies) = by_test effect.deliver
  where
    by_test : (b : Bool) → (if b then in_taken any x took else 0) ≤ 1
    by_test true = taken_few x took
    by_test false = omega arith
delivered_in_few x others = omega arith

delivered_few : (e : Event) (o : Outcome) → delivered_data any e o ≤ 1
delivered_few (Turn x) Idle = omega arith
delivered_few (Turn x) (worlds.Full y field) = omega arith
delivered_few (Turn x) (Next w world_effect) = delivered_in_few x world_effect
delivered_few others o = omega arith

dropped_few : (took : Took) → in_dropped any took ≤ 1
dropped_few (Own b) = omega arith
dropped_few (Stored d) = omega arith
dropped_few (FromNeighbour from m) = one_at_most m

lost_in_few : (h : WorldEffect) → dropped_in any h ≤ 1
lost_in_few (Taken took effect copies) = by_test effect.lost
  where
    by_test : (b : Bool) → (if b then in_dropped any took else 0) ≤ 1
    by_test true = dropped_few took
    by_test false = omega arith
lost_in_few (CopyLost c) = one_at_most c.message
lost_in_few others = omega arith

lost_few : (e : Event) (o : Outcome) → dropped_data any e o ≤ 1
lost_few e Idle = omega arith
lost_few e (worlds.Full x field) = omega arith
lost_few e (Next w world_effect) = lost_in_few world_effect

copied_few : (o : Outcome) → doubled_at o ≤ 1
copied_few Idle = omega arith
copied_few (worlds.Full x field) = omega arith
copied_few (Next w world_effect) = doubled_at_most world_effect

-- ---- an event, and others

pub grown_same : (m n : RunState) → n.steps ≡ m.steps → n.sums ≡ m.sums → (world_of n).next_copy ≡ (world_of m).next_copy → IsGrown m n
grown_same m n steps sums copies =
    let events = ap (λ s. s.events) sums in let idle = ap (λ s. s.idle) sums in let given_is = ap (λ s. s.given) sums in
    let delivered_is = ap (λ s. s.delivered) sums in let lost = ap (λ s. s.lost) sums in let copied = ap (λ s. s.copied) sums in
    record { steps = omega arith; events = omega arith; idle = omega arith; given = omega arith; delivered = omega arith; lost = omega arith; copied = omega arith; copies = omega arith }

pub grown_both : (m n k : RunState) → IsGrown m n → IsGrown n k → IsGrown m k
grown_both m n k a b =
    let a0 = a.steps in let a1 = a.events in let a2 = a.idle in let a3 = a.given in let a4 = a.delivered in let a5 = a.lost in let a6 = a.copied in let a7 = a.copies in
    let b0 = b.steps in let b1 = b.events in let b2 = b.idle in let b3 = b.given in let b4 = b.delivered in let b5 = b.lost in let b6 = b.copied in let b7 = b.copies in
    record { steps = omega arith; events = omega arith; idle = omega arith; given = omega arith; delivered = omega arith; lost = omega arith; copied = omega arith; copies = omega arith }

-- a mesh has room for the nodes of the world
abbrev pub IsSized : RunState → Type 0
IsSized m = length (world_of m).nodes ≤ MOST_NODES

stepped_sized : (m : RunState) (e : Event) → IsSized m → IsSized (next_state m e)
unfolding next_state
stepped_sized m e sized = let same = same_size (world_of m) e in omega arith

grown_event : (m : RunState) (e : Event) → IsSized m → IsGrown m (next_state m e)
unfolding next_state
grown_event m e sized =
    let more = few_copies (world_of m) e sized in
    let o : Outcome = outcome_at m e in
    let i = idle_few o in let g = given_few e o in let d = delivered_few e o in let l = lost_few e o in let c = copied_few o in
    record { steps = omega arith; events = omega arith; idle = omega arith; given = omega arith; delivered = omega arith; lost = omega arith; copied = omega arith; copies = omega arith }

-- from m to n by at most so many events
record Grows (m n : RunState) (most : ℕ) : Type 0 where
  grown : IsSized m → IsGrown m n
  lines : n.lines ≡ m.lines
  steps : n.steps ≤ m.steps + most

GrowsTo : RunState → auto.EventsOutcome → ℕ → Type 0
GrowsTo m (auto.Ended text n) most = Grows m n most
GrowsTo m (auto.Full text n e field) most = Unit {0}

-- ---- events one after another

grows_before : (m : RunState) (e : Event) (text : List ℕ) (r : auto.EventsOutcome) (most : ℕ) → GrowsTo (next_state m e) r most → GrowsTo m (auto.before text r) (suc most)
unfolding GrowsTo next_state
grows_before m e text (auto.Ended others n) most g =
    let steps = g.steps in
    record { grown = λ sized. grown_both m (next_state m e) n (grown_event m e sized) (g.grown (stepped_sized m e sized)); lines = g.lines; steps = omega arith }
grows_before m e text (auto.Full others n f field) most g = tt

grows_done : (m : RunState) (e : Event) (o : Outcome) (others : RunState → auto.EventsOutcome) (most : ℕ) → GrowsTo (next_state m e) (others (next_state m e)) most → GrowsTo m (auto.done_then m e o others) (suc most)
unfolding GrowsTo
grows_done m e Idle others most g = grows_before m e _ (others (next_state m e)) most g
grows_done m e (worlds.Full x field) others most g = tt
grows_done m e (Next w world_effect) others most g = grows_before m e _ (others (next_state m e)) most g

grows_by : (m : RunState) (events : List Event) → GrowsTo m (auto.outcome_of_events m events) (length events)
unfolding GrowsTo auto.outcome_of_events
grows_by m [] = record { grown = λ sized. grown_same m m refl refl refl; lines = refl; steps = omega arith }
grows_by m (e ∷ events) = grows_done m e (outcome_at m e) (λ n. auto.outcome_of_events n events) (length events) (grows_by (next_state m e) events)

-- ---- a line

-- the line was counted, and it did at most a quarter of the most events for each of its bytes
pub record LineGrows (m n : RunState) (bytes : ℕ) : Type 0 where
  pub lines : n.lines ≡ m.lines + 1
  pub grown : IsSized m → IsGrown m n
  pub steps : 4 * n.steps ≤ 4 * m.steps + MOST_EVENTS * bytes

GrowsOn : RunState → LineOutcome → ℕ → Type 0
GrowsOn m (On text n) bytes = LineGrows m n bytes
GrowsOn m (Refused why) bytes = Unit {0}
GrowsOn m (Full text n e field) bytes = Unit {0}

line_shown : (m : RunState) (bytes : ℕ) → LineGrows m (with_line_read (with_world m)) bytes
line_shown m bytes = record { lines = refl; grown = λ sized. grown_same m (with_line_read (with_world m)) refl refl refl; steps = omega arith }

-- events that are few for the bytes of their line
events_grow : (m n : RunState) (events bytes : ℕ) → Grows (with_world m) n events → 4 * events ≤ MOST_EVENTS * bytes → LineGrows m (with_line_read n) bytes
events_grow m n events bytes g few =
    let steps = g.steps in let lines = g.lines in
    record {
      lines = omega arith;
      grown = λ sized. let is = g.grown sized in record { steps = is.steps; events = is.events; idle = is.idle; given = is.given; delivered = is.delivered; lost = is.lost; copied = is.copied; copies = is.copies };
      steps = omega arith;
    }

line_events : (m : RunState) (r : auto.EventsOutcome) (events bytes : ℕ) → GrowsTo (with_world m) r events → 4 * events ≤ MOST_EVENTS * bytes → GrowsOn m (outcome_by_events r) bytes
unfolding GrowsTo GrowsOn
line_events m (auto.Ended text n) events bytes g few = events_grow m n events bytes g few
line_events m (auto.Full text n e field) events bytes g few = tt

line_auto : (m : RunState) (text : List ℕ) (did : ℕ) (r : auto.EventsOutcome) (events bytes : ℕ) → GrowsTo (with_world m) r events → 4 * events ≤ MOST_EVENTS * bytes → GrowsOn m (outcome_of_auto text did r) bytes
unfolding GrowsTo GrowsOn
line_auto m text did (auto.Ended others n) events bytes g few = events_grow m n events bytes g few
line_auto m text did (auto.Full others n e field) events bytes g few = tt

-- before there is a world its next copy is the first, whichever nodes there are
other_nodes : (v : Variant) (some more : Nodes) (o : Option World) → (unwrap_or o (start v (first_numbers more))).next_copy ≡ (unwrap_or o (start v (first_numbers some))).next_copy
unfolding start
other_nodes v some more None = refl
other_nodes v some more (Some w) = refl

line_by : (m : RunState) (bytes : List ℕ) (a : AcceptedLine) → IsInRange m.mesh a → line_of m.mesh (is_some m.world) bytes ≡ Ok a → 4 * length (events_of_piece m (Whole bytes)) ≤ MOST_EVENTS * length bytes
    → GrowsOn m (outcome_of_line m a) (length bytes)
unfolding GrowsOn outcome_of_line
line_by m bytes Nothing range is few = record { lines = refl; grown = λ sized. grown_same m (with_line_read m) refl refl refl; steps = omega arith }
line_by m bytes (NewNode address first) range is few = record { lines = refl; grown = λ sized. grown_same m _ refl refl (other_nodes m.variant m.mesh (with_node m.mesh address first) m.world); steps = omega arith }
line_by m bytes (Does e) range is few =
    line_events m (auto.outcome_of_events (with_world m) (e ∷ [])) (length (e ∷ [])) (length bytes) (grows_by (with_world m) (e ∷ [])) (subst (λ r. 4 * length (events_read m r) ≤ MOST_EVENTS * length bytes) is few)
line_by m bytes (Chooses count) range is few =
    let chosen : List Event = auto.events_chosen count (with_world m) in
    line_auto m (line (words_of m.mesh (Chooses count))) (length chosen) (auto.outcome_of_events (with_world m) chosen) (length chosen) (length bytes) (grows_by (with_world m) chosen)
    (subst (λ r. 4 * length (events_read m r) ≤ MOST_EVENTS * length bytes) is few)
line_by m bytes (ShowsNode x) range is few = line_shown m (length bytes)
line_by m bytes (ShowsRoute x d) range is few = line_shown m (length bytes)
line_by m bytes ShowsFlight range is few = line_shown m (length bytes)

pub line_grows : (m n : RunState) (bytes text : List ℕ) (a : AcceptedLine) → length m.mesh ≤ MOST_NODES → line_of m.mesh (is_some m.world) bytes ≡ Ok a → outcome_of_line m a ≡ On text n → LineGrows m n (length bytes)
unfolding GrowsOn
line_grows m n bytes text a few is on =
    let range = in_range m.mesh (is_some m.world) bytes a few is in
    subst (λ k. GrowsOn m k (length bytes)) on (line_by m bytes a range.0 is (line_has_few_events m bytes few))

-- where it was done
pub done_grows : {P : Type 0} (say : Bool) (m n : RunState) (bytes : List ℕ) (a : AcceptedLine) (before now : Option (List ℕ)) (r : Result (Unit {0}) Stop) → (LineGrows m n (length bytes) → P) → length m.mesh ≤ MOST_NODES
    → line_of m.mesh (is_some m.world) bytes ≡ Ok a → IsLineRun say m (outcome_of_line m a) n before now r → OnOk r P
done_grows say m n bytes a before now (Ok done) of few is run = of (line_grows m n bytes run.text a few is run.is)
done_grows say m n bytes a before now (Err stop) of few is run = tt

-- the same by what a line is: it grows no more than one of four bytes
value_by : (m : RunState) (a : AcceptedLine) → IsInRange m.mesh a → GrowsOn m (outcome_of_line m a) 4
unfolding GrowsOn outcome_of_line
value_by m Nothing range = record { lines = refl; grown = λ sized. grown_same m (with_line_read m) refl refl refl; steps = omega arith }
value_by m (NewNode address first) range = record { lines = refl; grown = λ sized. grown_same m _ refl refl (other_nodes m.variant m.mesh (with_node m.mesh address first) m.world); steps = omega arith }
value_by m (Does e) range = line_events m (auto.outcome_of_events (with_world m) (e ∷ [])) (length (e ∷ [])) 4 (grows_by (with_world m) (e ∷ [])) (omega arith)
value_by m (Chooses count) range =
    let chosen : List Event = auto.events_chosen count (with_world m) in
    let few : length chosen ≤ count = chosen_few count (with_world m) in
    let most : count ≤ MOST_EVENTS = range.2 in
    line_auto m (line (words_of m.mesh (Chooses count))) (length chosen) (auto.outcome_of_events (with_world m) chosen) (length chosen) 4 (grows_by (with_world m) chosen) (omega arith)
value_by m (ShowsNode x) range = line_shown m 4
value_by m (ShowsRoute x d) range = line_shown m 4
value_by m ShowsFlight range = line_shown m 4

pub value_grows : (say : Bool) (m n : RunState) (a : AcceptedLine) (before now : Option (List ℕ)) → IsInRange m.mesh a → IsLineDone say (outcome_of_line m a) n before now → LineGrows m n 4
unfolding GrowsOn
value_grows say m n a before now range done = subst (λ k. GrowsOn m k 4) done.is (value_by m a range)

-- lines that were done, and one more, by the bytes that were given
pub steps_more : (len given_data after : ℕ) (ended : Bool) (n m s bytes : ℕ) → IsCounted len given_data after ended → bytes ≡ len → 4 * n ≤ 4 * m + MOST_EVENTS * bytes → 4 * m ≤ 4 * s + MOST_EVENTS * given_data
    → 4 * n ≤ 4 * s + MOST_EVENTS * after
steps_more len given_data after ended n m s bytes (inl lf) size more few = omega arith
steps_more len given_data after ended n m s bytes (inr last) size more few = let count = last.0 in omega arith
