-- What comes of an event with what stands below it, and of a line with one event.
use Rattle.std.proofs.Common.{◌≡◌, ◌∙◌, ℕ, true, List, [], ◌++◌, Option, Some, None, Result, Ok, IfOk, IfSome, length, refl, sym, ap, subst, append-nil}
use Rattle.std.specs.List.{slice_get}
use Rattle.std.specs.Io.KnownBytes.{Appends}
use Rattle.mesh_base.specs.Meshes.{Nodes}
use Rattle.mesh_base.specs.declared.events.Done.{Done}
use Rattle.mesh_base.specs.declared.events.Event.{Event as EventGiven}
use Rattle.mesh_io.specs.Puts.{AppendsPrefix, Puts}
use Rattle.mesh_io.proofs.Writing.{AppendsPrefix-more, Puts-join}
use Rattle.mesh_model.specs.Worlds as worlds
use Rattle.mesh_model.specs.Worlds.{Event, Outcome, Idle, Next}
use Rattle.mesh_model.specs.InMesh.{IsEvent}
use Rattle.mesh_meaning.specs.Events.{event_of, node_of}
use Rattle.mesh_meaning.specs.Answers.{outcome_in}
use Rattle.mesh_grammar.specs.declared.fault.BadWhy.{BadWhy}
use Rattle.mesh_grammar.specs.declared.fault.BadWhy.TheVariants.{Fault}
use Rattle.mesh_grammar.specs.Written.{line}
use Rattle.mesh_text.specs.Lines.{words_of}
use Rattle.mesh_text.specs.Schedule.{RunState, Does, ShowsNode, with_line_read, with_world, next_state, outcome_at, world_of}
use Rattle.mesh_text.specs.Effects.{outcome_lines}
use Rattle.mesh_text.specs.Tables.{node_text_in}
use Rattle.mesh_text.specs.Auto.{Ended, before, done_then}
use Rattle.mesh_text.specs.Text.{LineOutcome, On, Refused, Full, outcome_by_events, text_in}
use Rattle.mesh_world.specs.declared.steps.StepError.{StepError}
use Rattle.mesh_run.specs.declared.stop.Stop.{Stop}
use Rattle.mesh_run.specs.declared.stop.Stop.TheVariants as stop
use Rattle.mesh_run.specs.RunStates.{IsAnswer}
use Rattle.mesh_run.specs.Runs.{IsLineDone, IsLineFull, IsLineStopped, outcome_by}
use Rattle.mesh_run.proofs.Events.{answer_text, answer_mesh, node_came, refusal_fills, by_done}
use Rattle.mesh_blocks.specs.declared.below.Below.{Below}
use Rattle.mesh_blocks.specs.declared.below.Below.TheVariants.{Blocks, Changes}
use Rattle.mesh_blocks.specs.Blocks.{changed_by, shown_node, shown_if, block_below}
use Rattle.mesh_blocks.specs.Changes.{lines_of, changes, changes_text, changed_line, changed_from, changed_if, changes_below}
use Rattle.mesh_blocks.specs.Forms.{below_text}
use Rattle.mesh_blocks.specs.Text.{watched_events, watched_line}
use Rattle.mesh_blocks.specs.Lines.{with_below, watched_event, shown_by, IsKeptFor}

-- ---- the block

pub shown_is : (m : RunState) (x : ℕ) → shown_node m x ≡ line (words_of m.mesh (ShowsNode x)) ++ node_text_in m.mesh (slice_get (world_of m).nodes x)
shown_is m x = ap text_in (node_came m x)

-- what stands below an event that has this answer
abbrev pub below_if : Below → RunState → RunState → Option ℕ → List ℕ
below_if Blocks m n changed = shown_if n changed
below_if Changes m n changed = changed_if m n changed

below_is : (form : Below) (m n : RunState) (e : Event) (d : Done) (packet : List ℕ) (changed : Option ℕ) → IsAnswer m e d n packet
    → changed ≡ changed_by e (outcome_in m.mesh (node_of e) (world_of n) d packet) → below_text form m e ≡ below_if form m n changed
unfolding block_below changes_below
below_is Blocks m n e d packet changed a is =
    ap (λ o. shown_if (next_state m e) (changed_by e o)) a.outcome ∙ ap (shown_if (next_state m e)) (sym is) ∙ ap (λ k. shown_if k changed) (sym a.run_state)
below_is Changes m n e d packet changed a is =
    ap (λ o. changed_if m (next_state m e) (changed_by e o)) a.outcome ∙ ap (changed_if m (next_state m e)) (sym is) ∙ ap (λ k. changed_if m k changed) (sym a.run_state)

below_none : (form : Below) (m n : RunState) → below_if form m n None ≡ []
below_none Blocks m n = refl
below_none Changes m n = refl

-- the line that names a node, and what has changed of its block
pub changed_front : (before : List ℕ) (n : RunState) (x : ℕ) (mesh : Nodes) (a b : Option (List ℕ)) → mesh ≡ n.mesh → AppendsPrefix a b (changed_line mesh x) → AppendsPrefix a b (changed_from before n x)
unfolding changed_from
changed_front before n x mesh a b same p =
    AppendsPrefix-more a b (changed_line n.mesh x) _ (changed_from before n x) refl (subst (λ (l : Nodes). AppendsPrefix a b (changed_line l x)) same p)

pub changed_whole : {T E : Type 0} (before kept after : List ℕ) (n : RunState) (x : ℕ) (mesh : Nodes) (a b c : Option (List ℕ)) (r : Result T E) → mesh ≡ n.mesh → kept ≡ before → after ≡ shown_node n x
    → Appends a b (changed_line mesh x) → Puts b c (changes_text (changes (lines_of kept) (lines_of after))) r → Puts a c (changed_from before n x) r
unfolding changed_from
changed_whole before kept after n x mesh a b c r same was now p q =
    let from = subst (λ (t : List ℕ). Puts b c (changes_text (changes (lines_of t) (lines_of after))) r) was q in
    Puts-join a b c (changed_line n.mesh x) (changes_text (changes (lines_of before) (lines_of (shown_node n x)))) (changed_from before n x) r refl
    (subst (λ (l : Nodes). Appends a b (changed_line l x)) same p) (subst (λ (t : List ℕ). Puts b c (changes_text (changes (lines_of before) (lines_of t))) r) now from)

-- where the block before is kept
below_some : (form : Below) (m n : RunState) (e : Event) (before : List ℕ) (x : ℕ) → IsKeptFor form m e before → Some x ≡ changed_by e (outcome_at m e) → shown_by form before n x ≡ below_if form m n (Some x)
below_some Blocks m n e before x kept is = refl
below_some Changes m n e before x kept is =
    let same : before ≡ shown_node m x = subst (λ o. IfSome o (λ y. before ≡ shown_node m y)) (sym is) kept in
    ap (λ text. changed_from text n x) same

-- a node's line, and its state below it
pub shown_front : (m : RunState) (x : ℕ) (mesh : Nodes) (a b : Option (List ℕ)) → mesh ≡ m.mesh → AppendsPrefix a b (line (words_of mesh (ShowsNode x))) → AppendsPrefix a b (shown_node m x)
shown_front m x mesh a b same p =
    AppendsPrefix-more a b (line (words_of m.mesh (ShowsNode x))) _ _ (shown_is m x) (subst (λ (l : Nodes). AppendsPrefix a b (line (words_of l (ShowsNode x)))) same p)

pub shown_whole : {T E : Type 0} (m : RunState) (x : ℕ) (mesh : Nodes) (state : List ℕ) (a b c : Option (List ℕ)) (r : Result T E) → mesh ≡ m.mesh → state ≡ node_text_in m.mesh (slice_get (world_of m).nodes x)
    → Appends a b (line (words_of mesh (ShowsNode x))) → Puts b c state r → Puts a c (shown_node m x) r
shown_whole m x mesh state a b c r same is p q =
    Puts-join a b c (line (words_of m.mesh (ShowsNode x))) (node_text_in m.mesh (slice_get (world_of m).nodes x)) _ r (shown_is m x)
    (subst (λ (l : Nodes). Appends a b (line (words_of l (ShowsNode x)))) same p) (subst (λ (l : List ℕ). Puts b c l r) is q)

-- ---- an event by itself

-- the lines of an event, and what stands below it
abbrev pub watched_lines : Below → RunState → Event → List ℕ
watched_lines form m e = outcome_lines m.mesh e (outcome_at m e) ++ below_text form m e

-- the lines of an event that has this answer, as they were written
event_text : (P : List ℕ → Type 0) (m n : RunState) (e : Event) (d : Done) (packet : List ℕ) (mesh : Nodes) → IsAnswer m e d n packet → mesh ≡ n.mesh
    → P (outcome_lines mesh e (outcome_in mesh (node_of e) (world_of n) d packet)) → P (outcome_lines m.mesh e (outcome_at m e))
event_text P m n e d packet mesh a same p =
    subst P (ap (λ (l : Nodes). outcome_lines l e (outcome_in l (node_of e) (world_of n) d packet)) (same ∙ answer_mesh m n e d packet a) ∙ answer_text m n e d packet a) p

pub watched_front : (form : Below) (m n : RunState) (e : Event) (d : Done) (packet : List ℕ) (mesh : Nodes) (a b : Option (List ℕ)) → IsAnswer m e d n packet → mesh ≡ n.mesh
    → AppendsPrefix a b (outcome_lines mesh e (outcome_in mesh (node_of e) (world_of n) d packet)) → AppendsPrefix a b (watched_lines form m e)
watched_front form m n e d packet mesh a b is same p =
    AppendsPrefix-more a b (outcome_lines m.mesh e (outcome_at m e)) (below_text form m e) _ refl (event_text (λ l. AppendsPrefix a b l) m n e d packet mesh is same p)

-- where this node has changed
pub watched_whole : {T E : Type 0} (form : Below) (m n : RunState) (e : Event) (d : Done) (packet : List ℕ) (mesh : Nodes) (x : ℕ) (before : List ℕ) (a b c : Option (List ℕ)) (r : Result T E) → IsAnswer m e d n packet → mesh ≡ n.mesh
    → Appends a b (outcome_lines mesh e (outcome_in mesh (node_of e) (world_of n) d packet)) → Some x ≡ changed_by e (outcome_in m.mesh (node_of e) (world_of n) d packet)
    → IsKeptFor form m e before → Puts b c (shown_by form before n x) r → Puts a c (watched_lines form m e) r
watched_whole form m n e d packet mesh x before a b c r is same p by kept q =
    Puts-join a b c (outcome_lines m.mesh e (outcome_at m e)) (below_text form m e) _ r refl (event_text (λ l. Appends a b l) m n e d packet mesh is same p)
    (subst (λ (l : List ℕ). Puts b c l r) (below_some form m n e before x kept (by ∙ ap (changed_by e) (sym is.outcome)) ∙ sym (below_is form m n e d packet (Some x) is by)) q)

-- where no node has changed
pub watched_alone : (form : Below) (m n : RunState) (e : Event) (d : Done) (packet : List ℕ) (mesh : Nodes) (a b : Option (List ℕ)) → IsAnswer m e d n packet → mesh ≡ n.mesh
    → Appends a b (outcome_lines mesh e (outcome_in mesh (node_of e) (world_of n) d packet)) → None ≡ changed_by e (outcome_in m.mesh (node_of e) (world_of n) d packet) → Appends a b (watched_lines form m e)
watched_alone form m n e d packet mesh a b is same p by =
    let lines : List ℕ = outcome_lines m.mesh e (outcome_at m e) in
    subst (λ (l : List ℕ). Appends a b (lines ++ l)) (sym (below_is form m n e d packet None is by ∙ below_none form m n))
    (subst (λ (l : List ℕ). Appends a b l) (sym (append-nil lines)) (event_text (λ l. Appends a b l) m n e d packet mesh is same p))

-- an event that has an answer goes on
answer_came : (form : Below) (m n : RunState) (e : Event) (d : Done) (packet : List ℕ) → IsAnswer m e d n packet → watched_event form m e ≡ On (watched_lines form m e) n
answer_came form m n e d packet a =
    ap (with_below (below_text form m e))
    (ap (outcome_by m e) a.outcome ∙ by_done m e m.mesh (node_of e) (world_of n) d packet ∙ ap (λ o. On (outcome_lines m.mesh e o) (next_state m e)) (sym a.outcome))
    ∙ ap (On (watched_lines form m e)) (sym a.run_state)

pub answer_goes : (form : Below) (m n : RunState) (e : Event) (d : Done) (packet : List ℕ) (a b : Option (List ℕ)) → IsAnswer m e d n packet → Appends a b (watched_lines form m e) → IsLineDone true (watched_event form m e) n a b
answer_goes form m n e d packet a b is p = record { text = watched_lines form m e; is = answer_came form m n e d packet is; grown = p }

pub answer_front : (form : Below) (m n : RunState) (e : Event) (d : Done) (packet : List ℕ) (a b : Option (List ℕ)) → IsAnswer m e d n packet → AppendsPrefix a b (watched_lines form m e) → AppendsPrefix a b (text_in (watched_event form m e))
answer_front form m n e d packet a b is p = subst (λ l. AppendsPrefix a b l) (sym (ap text_in (answer_came form m n e d packet is))) p

-- an event that is refused stops the run
pub refusal_stops : (form : Below) (m n : RunState) (e : EventGiven) (node : ℕ) (field : _) (a : Option (List ℕ)) → IsEvent (length m.mesh) (event_of e) → outcome_at m (event_of e) ≡ worlds.Full node field
    → n ≡ m → IsLineFull true m (watched_event form m (event_of e)) n a a (event_of e) node field
refusal_stops form m n e node field a ev is same =
    let g = refusal_fills true m n (event_of e) node field a ev is same in
    record { text = g.text; is = ap (with_below (below_text form m (event_of e))) g.is; refused = g.refused; grown = g.grown; still = g.still }

-- ---- a line with one event

abbrev count : LineOutcome → LineOutcome
count (On text n) = On text (with_line_read n)
count (Refused why) = Refused why
count (Full text n e field) = Full text n e field

came-counted : (s : RunState) (e : Event) (o : Outcome) (block : List ℕ) → outcome_by_events (done_then s e o (λ n. before block (Ended [] n))) ≡ count (with_below block (outcome_by s e o))
came-counted s e Idle block = ap (λ l. On (outcome_lines s.mesh e Idle ++ l) (with_line_read (next_state s e))) (append-nil block)
came-counted s e (worlds.Full x field) block = refl
came-counted s e (Next w h) block = ap (λ l. On (outcome_lines s.mesh e (Next w h) ++ l) (with_line_read (next_state s e))) (append-nil block)

text-counted : (k : LineOutcome) → text_in (count k) ≡ text_in k
text-counted (On text n) = refl
text-counted (Refused why) = refl
text-counted (Full text n e field) = refl

-- the line of an event, by what came of the event once the run had started
came-does : (form : Below) (m s : RunState) (e : Event) → s ≡ with_world m → watched_line form m (Does e) ≡ count (watched_event form s e)
unfolding watched_line watched_events
came-does form m s e same = subst (λ k. watched_line form m (Does e) ≡ count (watched_event form k e)) (sym same) (came-counted (with_world m) e (outcome_at (with_world m) e) (below_text form (with_world m) e))

-- an event is no line that isn't allowed
never_bad : (m : RunState) (e : Event) (o : Outcome) (block : List ℕ) (why : BadWhy) → with_below block (outcome_by m e o) ≡ Refused why → ⊥
never_bad m e Idle block why h = cc
never_bad m e (worlds.Full x field) block why h = cc
never_bad m e (Next w i) block why h = cc

pub step_goes : (form : Below) (m s n k : RunState) (e : Event) (a b : Option (List ℕ)) → s ≡ with_world m → IsLineDone true (watched_event form s e) n a b → k ≡ with_line_read n → IsLineDone true (watched_line form m (Does e)) k a b
step_goes form m s n k e a b same g next = record { text = g.text; is = came-does form m s e same ∙ ap count g.is ∙ ap (λ q. On g.text q) (sym next); grown = g.grown }

pub step_stops : (form : Below) (m s n : RunState) (e : Event) (a b : Option (List ℕ)) (t : Stop) → s ≡ with_world m → IsLineStopped true s (watched_event form s e) n a b t → IsLineStopped true m (watched_line form m (Does e)) n a b t
step_stops form m s n e a b (stop.BadLine f) same g = absurd (never_bad s e (outcome_at s e) (below_text form s e) (Fault f) g.0)
step_stops form m s n e a b (stop.Full event node field) same g = record {
  text = g.text;
  is = came-does form m s e same ∙ ap count g.is;
  refused = g.refused;
  grown = g.grown;
  still = record {
    event = subst (λ k. IsEvent (length k.mesh) (event_of event)) same g.still.event;
    mesh = g.still.mesh ∙ ap (λ k. k.mesh) same;
    lines = g.still.lines ∙ ap (λ k. k.lines) same;
  };
}
step_stops form m s n e a b stop.WriteFault same g = subst (λ l. AppendsPrefix a b l) (sym (ap text_in (came-does form m s e same) ∙ text-counted (watched_event form s e))) g
step_stops form m s n e a b stop.NoMemory same g = subst (λ l. AppendsPrefix a b l) (sym (ap text_in (came-does form m s e same) ∙ text-counted (watched_event form s e))) g
