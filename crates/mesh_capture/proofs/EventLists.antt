-- Events one after another, as they are written, are read from a state to the state after them.
use Rattle.std.proofs.Common.{◌≡◌, ℕ, ◌+◌, ◌≤◌, true, false, List, [], ◌∷◌, ◌++◌, Option, Some, None, length, length-append, refl, sym, ap, ◌∙◌, subst, arith}
use Rattle.mesh_base.specs.declared.events.Full.{Full as Counter}
use Rattle.mesh_base.specs.Meshes.{Nodes}
use Rattle.std.specs.Prelude.{slice_get}
use Rattle.aodv_model.proofs.Entries.{if_case}
use Rattle.aodv_model.specs.Cores.{New, Heard}
use Rattle.mesh_io.specs.declared.limits.TheConstants.{LONGEST_TEXT}
use Rattle.mesh_model.specs.Worlds as worlds
use Rattle.mesh_model.specs.Worlds.{World, Node, Copy, Event, Give, Turn, Send, Ask, Link, Cut, Deliver, Lose, Double, Outcome, Idle, Next, Changed, CopyHeard, CopyLost, CopyDoubled, after, step, at_node, at_copy, find_copy, push, without_copy, with_double, is_parcel, with_link, without_link, are_linked}
use Rattle.mesh_text.specs.Auto as auto
use Rattle.mesh_text.specs.Effects.{outcome_lines}
use Rattle.mesh_text.specs.Ranges.{IsEventLine}
use Rattle.mesh_text.specs.Schedule.{RunState, world_of, outcome_at, next_state}
use Rattle.mesh_text.proofs.NamedRuns.{Stops}
use Rattle.mesh_lines.specs.declared.below.Below.{Below}
use Rattle.mesh_capture.specs.declared.frame.Frame.{Frame}
use Rattle.mesh_capture.specs.Copies.{Reading}
use Rattle.mesh_capture.specs.Runs.{frame_if, frames_of_event, frames_from}
use Rattle.mesh_capture.proofs.Effects.{stand}
use Rattle.mesh_capture.proofs.Events.{IsDone, event_lines_read}
use Rattle.mesh_capture.proofs.Growth.{event_pays}
use Rattle.mesh_capture.proofs.LastLines.{MayCast}
use Rattle.mesh_capture.proofs.Steady.{IsSteady, steady_plain, stepped_steady, Speaks, spoken, AllSpeak}
use Rattle.mesh_capture.proofs.Told.{IsTold, reading_of, told_none, told_append}

-- what is known in a state, after so many lines
abbrev pub reading_at : RunState → Below → ℕ → Reading
reading_at m b k = reading_of m.mesh (stand (world_of m).flying m.sums.events b) k

-- a text leads from one run state to another, and ends these copies
abbrev pub ReadsTo : RunState → Below → List ℕ → List Frame → RunState → Below → Type 0
ReadsTo m b text fs n c = (k : ℕ) → (j : ℕ) × IsTold (reading_at m b k) text fs (reading_at n c j)

pub to_none : (m : RunState) (b : Below) → ReadsTo m b [] [] m b
to_none m b k = (k, told_none (reading_at m b k))

pub to_append : (m n o : RunState) (b c d : Below) (s t : List ℕ) (fs gs : List Frame) → ReadsTo m b s fs n c → ReadsTo n c t gs o d → ReadsTo m b (s ++ t) (fs ++ gs) o d
to_append m n o b c d s t fs gs first rest k =
    let one = first k in
    let two = rest one.0 in
    (two.0, told_append (reading_at m b k) (reading_at n c one.0) (reading_at o d two.0) s t fs gs one.1 two.1)

-- the packets of these events from a state on
abbrev pub frames_of : RunState → List Event → List Frame
frames_of m es = frames_from m.mesh (m.sums.events + 1) (world_of m) es

-- ---- one event

abbrev OneTold : RunState → Below → Event → Outcome → Type 0
OneTold m b e o = (c : Below) × ReadsTo m b (outcome_lines m.mesh e o) (frames_of_event m.mesh (m.sums.events + 1) (world_of m) e) (next_state m e) c

one_told : (k : ℕ) (m : RunState) (b : Below) (e : Event) (o : Outcome) → outcome_at m e ≡ o → IsDone o → IsEventLine m.mesh e → IsSteady k m → k + length (outcome_lines m.mesh e o) ≤ LONGEST_TEXT → OneTold m b e o
unfolding next_state
one_told k m b e o same done range is fits =
    let paid = event_pays m.mesh (world_of m) e in
    let copies = is.copies in
    let long : length (outcome_lines m.mesh e (outcome_at m e)) ≡ length (outcome_lines m.mesh e o) = ap (λ o. length (outcome_lines m.mesh e o)) same in
    subst (OneTold m b e) same
    (event_lines_read m.mesh (world_of m) m.sums.events b e (steady_plain k m is) range (subst IsDone (sym same) done) (omega (arith, paid, copies, long, fits)))

-- ---- events that are refused

full_ends_none : (mesh : Nodes) (n : ℕ) (w : World) (e : Event) (x : ℕ) (f : Counter) → step w e ≡ worlds.Full x f → frames_of_event mesh n w e ≡ []
unfolding step
full_ends_none mesh n w (Deliver id) x f is = by_copy (find_copy w.flying id) is
  where
    by_copy : (o : Option Copy) → at_copy o (λ c. Next (push (without_copy w id) c.to (Heard c.from c.message)) (CopyHeard c.from c.to)) ≡ worlds.Full x f → frame_if mesh n false o ≡ []
    by_copy None is = refl
    by_copy (Some c) is = absurd (let P : ⊥ = cc in P)
full_ends_none mesh n w (Lose id) x f is = by_copy (find_copy w.flying id) is
  where
    by_copy : (o : Option Copy) → at_copy o (λ c. Next (without_copy w id) (CopyLost c)) ≡ worlds.Full x f → frame_if mesh n true o ≡ []
    by_copy None is = refl
    by_copy (Some c) is = absurd (let P : ⊥ = cc in P)
full_ends_none mesh n w others x f is = refl

-- only an event that may cast is refused
wrong : (x : ℕ) (f : Counter) (o : Outcome) → IsDone o → o ≡ worlds.Full x f → ⊥
wrong x f o done is = subst IsDone is done

full_casts : (w : World) (e : Event) (x : ℕ) (f : Counter) → step w e ≡ worlds.Full x f → MayCast e
unfolding step
full_casts w (Give y d body) x f is = by_node (slice_get w.nodes y) is
  where
    by_node : (o : Option Node) → at_node o (λ core queue. Next (push w y (New body d)) Changed) ≡ worlds.Full x f → ⊥
    by_node None is = wrong x f Idle tt is
    by_node (Some n) is = wrong x f (Next (push w y (New body d)) Changed) tt is
full_casts w (Turn y) x f is = tt
full_casts w (Send y d) x f is = tt
full_casts w (Ask y d) x f is = tt
full_casts w (Link a b) x f is = if_case (λ o. o ≡ worlds.Full x f → ⊥) (are_linked w.links a b) Idle (Next (with_link w a b) Changed) (λ _. wrong x f Idle tt) (λ _. wrong x f (Next (with_link w a b) Changed) tt) is
full_casts w (Cut a b) x f is = if_case (λ o. o ≡ worlds.Full x f → ⊥) (are_linked w.links a b) (Next (without_link w a b) Changed) Idle (λ _. wrong x f (Next (without_link w a b) Changed) tt) (λ _. wrong x f Idle tt) is
full_casts w (Deliver id) x f is = by_copy (find_copy w.flying id) is
  where
    by_copy : (o : Option Copy) → at_copy o (λ c. Next (push (without_copy w id) c.to (Heard c.from c.message)) (CopyHeard c.from c.to)) ≡ worlds.Full x f → ⊥
    by_copy None is = wrong x f Idle tt is
    by_copy (Some c) is = wrong x f (Next (push (without_copy w id) c.to (Heard c.from c.message)) (CopyHeard c.from c.to)) tt is
full_casts w (Lose id) x f is = by_copy (find_copy w.flying id) is
  where
    by_copy : (o : Option Copy) → at_copy o (λ c. Next (without_copy w id) (CopyLost c)) ≡ worlds.Full x f → ⊥
    by_copy None is = wrong x f Idle tt is
    by_copy (Some c) is = wrong x f (Next (without_copy w id) (CopyLost c)) tt is
full_casts w (Double id) x f is = by_copy (find_copy w.flying id) is
  where
    by_copy : (o : Option Copy) → at_copy o (λ c. Next (with_double w c) (CopyDoubled w.next_copy c.to (is_parcel c.message))) ≡ worlds.Full x f → ⊥
    by_copy None is = wrong x f Idle tt is
    by_copy (Some c) is = wrong x f (Next (with_double w c) (CopyDoubled w.next_copy c.to (is_parcel c.message))) tt is

-- ---- events one after another

-- the event that a full counter has refused
pub record IsRefused (m : RunState) (e : Event) (field : Counter) : Type 0 where
  pub range : IsEventLine m.mesh e
  pub node : ℕ
  pub full : outcome_at m e ≡ worlds.Full node field

pub refused_casts : (m : RunState) (e : Event) (f : Counter) → IsRefused m e f → MayCast e
refused_casts m e f refused = full_casts (world_of m) e refused.node f refused.full

-- of the same nodes and lines
pub record IsAlong (m n : RunState) : Type 0 where
  pub mesh : n.mesh ≡ m.mesh
  pub lines : n.lines ≡ m.lines

stepped_along : (m : RunState) (e : Event) (n : RunState) → IsAlong (next_state m e) n → IsAlong m n
unfolding next_state
stepped_along m e n along = record { mesh = along.mesh; lines = along.lines }

unfoldable pub RanTold : ℕ → RunState → List Event → auto.EventsOutcome → Type 0
RanTold k m es (auto.Ended text n) =
    (b : Below) → k + length text ≤ LONGEST_TEXT → (c : Below) × ReadsTo m b text (frames_of m es) n c × IsSteady (k + length text) n × IsAlong m n
RanTold k m es (auto.Full text n e field) =
    (b : Below) → k + length text ≤ LONGEST_TEXT → (c : Below) × ReadsTo m b text (frames_of m es) n c × IsSteady (k + length text) n × IsAlong m n × IsRefused n e field

done_before : (k : ℕ) (m : RunState) (e : Event) (es : List Event) (o : Outcome) (r : auto.EventsOutcome) → outcome_at m e ≡ o → IsDone o → Speaks m e → IsSteady k m
    → (IsEventLine m.mesh e → RanTold (k + length (outcome_lines m.mesh e o)) (next_state m e) es r) → RanTold k m (e ∷ es) (auto.before (outcome_lines m.mesh e o) r)
unfolding RanTold frames_from next_state
done_before k m e es o (auto.Ended others n) same done speaks is more = λ b fits.
    let text : List ℕ = outcome_lines m.mesh e o in
    let all = length-append text others in
    let range = spoken k m e (omega arith) is speaks in
    let one = one_told k m b e o same done range is (omega arith) in
    let rest = more range one.0 (omega arith) in
    let sum : k + length text + length others ≡ k + length (text ++ others) = omega arith in
    (rest.0, to_append m (next_state m e) n b one.0 rest.0 text others _ (frames_of (next_state m e) es) one.1 rest.1, subst (λ j. IsSteady j n) sum rest.2, stepped_along m e n rest.3)
done_before k m e es o (auto.Full others n f field) same done speaks is more = λ b fits.
    let text : List ℕ = outcome_lines m.mesh e o in
    let all = length-append text others in
    let range = spoken k m e (omega arith) is speaks in
    let one = one_told k m b e o same done range is (omega arith) in
    let rest = more range one.0 (omega arith) in
    let sum : k + length text + length others ≡ k + length (text ++ others) = omega arith in
    (rest.0, to_append m (next_state m e) n b one.0 rest.0 text others _ (frames_of (next_state m e) es) one.1 rest.1, subst (λ j. IsSteady j n) sum rest.2, stepped_along m e n rest.3, rest.4)

pub same_steady : (k : ℕ) (m : RunState) → IsSteady k m → IsSteady (k + 0) m
same_steady k m is = let sum : k ≡ k + 0 = omega arith in subst (λ j. IsSteady j m) sum is

pub done_told : (k : ℕ) (m : RunState) (e : Event) (es : List Event) (o : Outcome) (others : RunState → auto.EventsOutcome) → outcome_at m e ≡ o → Speaks m e → Stops o es → IsSteady k m
    → (IsEventLine m.mesh e → RanTold (k + length (outcome_lines m.mesh e o)) (next_state m e) es (others (next_state m e))) → RanTold k m (e ∷ es) (auto.done_then m e o others)
unfolding RanTold Stops frames_from
done_told k m e es Idle others same speaks stops is more = done_before k m e es Idle (others (next_state m e)) same tt speaks is more
done_told k m e es (worlds.Full x field) others same speaks stops is more =
    let none : frames_of_event m.mesh (m.sums.events + 1) (world_of m) e ≡ [] = full_ends_none m.mesh (m.sums.events + 1) (world_of m) e x field same in
    let no_frames : [] ≡ frames_of m (e ∷ es) = sym (
    ap (λ l. frames_of_event m.mesh (m.sums.events + 1) (world_of m) e ++ frames_from m.mesh (m.sums.events + 1 + 1) (after (world_of m) (step (world_of m) e)) l) stops
    ∙ ap (λ fs. fs ++ []) none) in
    λ b fits. (
      b,
      subst (λ fs. ReadsTo m b [] fs m b) no_frames (to_none m b),
      same_steady k m is,
      record { mesh = refl; lines = refl },
      record { range = spoken k m e (omega arith) is speaks; node = x; full = same },
    )
done_told k m e es (Next v h) others same speaks stops is more = done_before k m e es (Next v h) (others (next_state m e)) same tt speaks is more

pub events_told : (k : ℕ) (m : RunState) (es : List Event) → AllSpeak m es → IsSteady k m → RanTold k m es (auto.outcome_of_events m es)
unfolding RanTold AllSpeak auto.outcome_of_events frames_from
events_told k m [] speak is = λ b fits. (b, to_none m b, same_steady k m is, record { mesh = refl; lines = refl })
events_told k m (e ∷ es) speak is =
    done_told k m e es (outcome_at m e) (λ n. auto.outcome_of_events n es) refl speak.0 speak.1 is
    (λ range. events_told (k + length (outcome_lines m.mesh e (outcome_at m e))) (next_state m e) es speak.2 (stepped_steady k m e range is))
