-- What comes of an event, of a line with one event, and of events that were chosen after a line.
use Rattle.std.proofs.Common.{◌≡◌, ℕ, ◌+◌, Bool, true, is_some, List, [], ◌++◌, Option, length, refl, sym, ap, subst, ◌∙◌}
use Rattle.std.specs.Io.KnownBytes.{Appends}
use Rattle.mesh_base.specs.declared.events.Full.{Full as Field}
use Rattle.mesh_base.specs.declared.events.Done.{Done}
use Rattle.mesh_base.specs.declared.events.Done.TheVariants as done
use Rattle.mesh_base.specs.declared.events.Event.{Event as EventGiven}
use Rattle.mesh_base.specs.Meshes.{Nodes, with_node}
use Rattle.mesh_io.specs.Puts.{AppendsPrefix}
use Rattle.mesh_io.proofs.Writing.{AppendsPrefix-none}
use Rattle.mesh_model.specs.Worlds as worlds
use Rattle.mesh_model.specs.Worlds.{World, Event, Outcome, Idle, Next}
use Rattle.mesh_model.specs.InMesh.{IsEvent}
use Rattle.mesh_meaning.specs.Events.{event_of, node_of}
use Rattle.mesh_meaning.specs.Answers.{outcome_in}
use Rattle.mesh_text.specs.Lines.{words_of}
use Rattle.mesh_grammar.specs.Written.{line}
use Rattle.mesh_text.specs.Schedule.{RunState, AcceptedLine, NewNode, ShowsNode, ShowsRoute, ShowsFlight, with_line_read, with_world, next_state, outcome_at, world_of}
use Rattle.mesh_text.specs.Effects.{outcome_lines}
use Rattle.mesh_text.specs.Tables.{node_text_in, end_text, flight_text}
use Rattle.mesh_model.specs.Routes.{route_end}
use Rattle.std.specs.List.{slice_get}
use Rattle.mesh_text.specs.Text.{On, Full, outcome_of_line, text_in}
use Rattle.mesh_world.specs.declared.steps.StepError.{StepError}
use Rattle.mesh_world.specs.declared.steps.StepError.TheVariants as errors
use Rattle.mesh_run.specs.RunStates.{IsAnswer, IsRefusal}
use Rattle.mesh_run.specs.Stops.{event_stop_of, stop_of}
use Rattle.mesh_run.specs.Runs.{output_if, IsLineDone, IsLineFull, IsLineStopped, outcome_by}
use Rattle.mesh_run.proofs.Shown.{shown_none}
use Rattle.mesh_run.proofs.OwnNode.{step_own}

-- ---- an event by itself

pub by_done : (m : RunState) (e : Event) (mesh : Nodes) (x : ℕ) (w : World) (d : Done) (packet : List ℕ)
    → outcome_by m e (outcome_in mesh x w d packet) ≡ On (outcome_lines m.mesh e (outcome_in mesh x w d packet)) (next_state m e)
by_done m e mesh x w done.Idle packet = refl
by_done m e mesh x w done.Changed packet = refl
by_done m e mesh x w (done.Taken took effect air) packet = refl
by_done m e mesh x w (done.Sent effect air) packet = refl
by_done m e mesh x w (done.Heard from to) packet = refl
by_done m e mesh x w (done.Lost flying) packet = refl
by_done m e mesh x w (done.Doubled id to parcel) packet = refl

-- an event that has an answer goes on
answer_came : (m n : RunState) (e : Event) (d : Done) (packet : List ℕ) → IsAnswer m e d n packet → outcome_by m e (outcome_at m e) ≡ On (outcome_lines m.mesh e (outcome_at m e)) n
answer_came m n e d packet a =
    ap (outcome_by m e) a.outcome ∙ by_done m e m.mesh (node_of e) (world_of n) d packet ∙ ap (λ o. On (outcome_lines m.mesh e o) (next_state m e)) (sym a.outcome)
    ∙ ap (λ k. On (outcome_lines m.mesh e (outcome_at m e)) k) (sym a.run_state)

-- the text of an answer, whichever world is told of
pub answer_text : (m n : RunState) (e : Event) (d : Done) (packet : List ℕ) → IsAnswer m e d n packet
    → outcome_lines m.mesh e (outcome_in m.mesh (node_of e) (world_of n) d packet) ≡ outcome_lines m.mesh e (outcome_at m e)
answer_text m n e d packet a = ap (outcome_lines m.mesh e) (sym a.outcome)

pub answer_goes : (say : Bool) (m n : RunState) (e : Event) (d : Done) (packet : List ℕ) (a b : Option (List ℕ)) → IsAnswer m e d n packet
    → Appends a b (output_if say (outcome_lines m.mesh e (outcome_in m.mesh (node_of e) (world_of n) d packet))) → IsLineDone say (outcome_by m e (outcome_at m e)) n a b
answer_goes say m n e d packet a b is p =
    let P : List ℕ → Type 0 = λ l. Appends a b (output_if say l) in
    record { text = outcome_lines m.mesh e (outcome_at m e); is = answer_came m n e d packet is; grown = subst P (answer_text m n e d packet is) p }

pub answer_front : (say : Bool) (m n : RunState) (e : Event) (d : Done) (packet : List ℕ) (a b : Option (List ℕ)) → IsAnswer m e d n packet
    → AppendsPrefix a b (output_if say (outcome_lines m.mesh e (outcome_in m.mesh (node_of e) (world_of n) d packet)))
    → AppendsPrefix a b (output_if say (text_in (outcome_by m e (outcome_at m e))))
answer_front say m n e d packet a b is p =
    let P : List ℕ → Type 0 = λ l. AppendsPrefix a b (output_if say l) in
    subst P (answer_text m n e d packet is ∙ sym (ap text_in (answer_came m n e d packet is))) p

pub refusal_fills : (say : Bool) (m n : RunState) (e : Event) (x : ℕ) (field : Field) (a : Option (List ℕ)) → IsEvent (length m.mesh) e → outcome_at m e ≡ worlds.Full x field
    → n ≡ m → IsLineFull say m (outcome_by m e (outcome_at m e)) n a a e x field
refusal_fills say m n e x field a ev is same = record {
  text = [];
  is = ap (outcome_by m e) is ∙ ap (λ k. Full [] k e field) (sym same);
  refused = ap (λ k. outcome_at k e) same ∙ is;
  grown = shown_none say a;
  still = record { event = ev; mesh = ap (λ k. k.mesh) same; lines = ap (λ k. k.lines) same };
}

-- an event that isn't done stops the run
pub refusal_stops : (say : Bool) (m n : RunState) (e : EventGiven) (error : StepError) (a : Option (List ℕ)) → IsEvent (length m.mesh) (event_of e) → IsRefusal m (event_of e) error
    → n ≡ m → IsLineStopped say m (outcome_by m (event_of e) (outcome_at m (event_of e))) n a a (stop_of e (event_stop_of error))
refusal_stops say m n e (errors.Full node field) a ev is same =
    let own : node ≡ node_of (event_of e) = step_own (world_of m) (event_of e) node field is in
    refusal_fills say m n (event_of e) (node_of (event_of e)) field a ev (is ∙ ap (λ x. worlds.Full x field) own) same
refusal_stops say m n e errors.NoMemory a ev is same = AppendsPrefix-none a _

-- ---- what an event leaves as it was

-- an event changes no mesh
pub answer_mesh : (m n : RunState) (e : Event) (d : Done) (packet : List ℕ) → IsAnswer m e d n packet → n.mesh ≡ m.mesh
unfolding next_state
answer_mesh m n e d packet a = ap (λ k. k.mesh) a.run_state

-- nor counts a line
pub step_lines : (m s n : RunState) (e : Event) → s ≡ with_world m → n ≡ next_state s e → n.lines ≡ m.lines
unfolding next_state
step_lines m s n e same next = ap (λ k. k.lines) next ∙ ap (λ k. k.lines) same

-- ---- what an event and other lines are written as

-- one more node
pub node_goes : (say : Bool) (m n k : RunState) (mesh : Nodes) (address first : ℕ) (a b : Option (List ℕ)) → mesh ≡ m.mesh
    → Appends a b (output_if say (line (words_of mesh (NewNode address first)))) → n ≡ record m { mesh = with_node m.mesh address first } → k ≡ with_line_read n
    → IsLineDone say (outcome_of_line m (NewNode address first)) k a b
unfolding outcome_of_line
node_goes say m n k mesh address first a b same p next last =
    let P : Nodes → Type 0 = λ l. Appends a b (output_if say (line (words_of l (NewNode address first)))) in
    record { text = line (words_of m.mesh (NewNode address first)); is = ap (λ x. On (line (words_of m.mesh (NewNode address first))) x) (sym (last ∙ ap with_line_read next)); grown = subst P same p }

pub node_front : (say : Bool) (m : RunState) (mesh : Nodes) (address first : ℕ) (a b : Option (List ℕ)) → mesh ≡ m.mesh
    → AppendsPrefix a b (output_if say (line (words_of mesh (NewNode address first)))) → AppendsPrefix a b (output_if say (text_in (outcome_of_line m (NewNode address first))))
unfolding outcome_of_line
node_front say m mesh address first a b same p =
    let P : Nodes → Type 0 = λ l. AppendsPrefix a b (output_if say (line (words_of l (NewNode address first)))) in
    subst P same p

-- ---- the state after an event

pub stepped_started : (m n : RunState) (e : Event) → n ≡ next_state m e → is_some n.world ≡ true
unfolding next_state
stepped_started m n e next = ap (λ k. is_some k.world) next

pub stepped_mesh : (m n : RunState) (e : Event) → n ≡ next_state m e → n.mesh ≡ m.mesh
unfolding next_state
stepped_mesh m n e next = ap (λ k. k.mesh) next

pub stepped_lines : (m n : RunState) (e : Event) → n ≡ next_state m e → n.lines ≡ m.lines
unfolding next_state
stepped_lines m n e next = ap (λ k. k.lines) next

pub stepped_steps : (m n : RunState) (e : Event) → n ≡ next_state m e → n.steps ≡ m.steps + 1
unfolding next_state
stepped_steps m n e next = ap (λ k. k.steps) next

-- ---- lines that show something

pub shows_goes : (say : Bool) (m s k : RunState) (l : AcceptedLine) (text : RunState → List ℕ) (a b : Option (List ℕ)) → outcome_of_line m l ≡ On (text (with_world m)) (with_line_read (with_world m)) → s ≡ with_world m
    → Appends a b (output_if say (text s)) → k ≡ with_line_read s → IsLineDone say (outcome_of_line m l) k a b
shows_goes say m s k l text a b outcome_of_piece same p next =
    let P : RunState → Type 0 = λ x. Appends a b (output_if say (text x)) in
    record { text = text (with_world m); is = outcome_of_piece ∙ ap (λ x. On (text (with_world m)) x) (sym (next ∙ ap with_line_read same)); grown = subst P same p }

pub shows_stops : (say : Bool) (m s : RunState) (l : AcceptedLine) (text : RunState → List ℕ) (a b : Option (List ℕ)) → outcome_of_line m l ≡ On (text (with_world m)) (with_line_read (with_world m)) → s ≡ with_world m
    → AppendsPrefix a b (output_if say (text s)) → AppendsPrefix a b (output_if say (text_in (outcome_of_line m l)))
shows_stops say m s l text a b outcome_of_piece same p =
    let P : RunState → Type 0 = λ x. AppendsPrefix a b (output_if say (text x)) in
    let Q : List ℕ → Type 0 = λ x. AppendsPrefix a b (output_if say x) in
    subst Q (sym (ap text_in outcome_of_piece)) (subst P same p)

pub node_came : (m : RunState) (x : ℕ) → outcome_of_line m (ShowsNode x) ≡ On (line (words_of m.mesh (ShowsNode x)) ++ node_text_in m.mesh (slice_get (world_of m).nodes x)) (with_line_read (with_world m))
unfolding outcome_of_line
node_came m x = refl

pub route_came : (m : RunState) (x d : ℕ) → outcome_of_line m (ShowsRoute x d) ≡ On (line (words_of m.mesh (ShowsRoute x d)) ++ end_text m.mesh (route_end (world_of m) x d)) (with_line_read (with_world m))
unfolding outcome_of_line
route_came m x d = refl

pub flight_came : (m : RunState) → outcome_of_line m ShowsFlight ≡ On (line (words_of m.mesh ShowsFlight) ++ flight_text m.mesh (world_of m).flying) (with_line_read (with_world m))
unfolding outcome_of_line
flight_came m = refl
