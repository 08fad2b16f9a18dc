-- The text of a watched run is that of the run, with a block, or its changes, directly below the lines of each event.
use Rattle.std.proofs.Common.{◌≡◌, ◌⊎◌, inl, inr, ℕ, ◌+◌, true, List, [], ◌∷◌, ◌++◌, Option, Some, None, Result, Ok, Err, length, is_some, refl, sym, ap, ap₂, subst, ◌∙◌, append-nil, append_assoc, codes}
use Rattle.std.specs.List.{concat, AllByRecursion}
use Rattle.std.specs.Option.{unwrap_or}
use Rattle.std.specs.Prelude.{slice_get}
use Rattle.std.proofs.lemmas.List.Folds.{concat-append}
use Rattle.mesh_base.specs.Meshes.{Nodes}
use Rattle.mesh_model.specs.Worlds as worlds
use Rattle.mesh_model.specs.Worlds.{World, Event, Outcome, Idle, Next, step, after, start, first_numbers}
use Rattle.mesh_model.proofs.Lists.{each_append}
use Rattle.mesh_grammar.specs.declared.fault.LineFault.{LineFault}
use Rattle.mesh_shell.specs.Outputs.{EndsWithLf}
use Rattle.mesh_shell.specs.Pieces.{Piece, Whole, Long, Beyond}
use Rattle.mesh_shell.specs.Fold as shell
use Rattle.mesh_grammar.specs.Written.{line, label_number}
use Rattle.mesh_text.specs.Schedule.{RunState, AcceptedLine, Nothing, NewNode, Does, Chooses, ShowsNode, ShowsRoute, ShowsFlight, line_of, world_of, with_world, with_line_read, next_state, outcome_at, opening}
use Rattle.mesh_text.specs.Lines.{words_of, name_of}
use Rattle.mesh_text.specs.Effects.{outcome_lines}
use Rattle.mesh_text.specs.Tables.{node_text_in, end_text, flight_text}
use Rattle.mesh_model.specs.Routes.{route_end}
use Rattle.mesh_text.specs.Auto.{EventsOutcome, Ended, Full as EventsFull, before, done_then, outcome_of_events, events_chosen, auto_end}
use Rattle.mesh_text.specs.Runs.{events_of_line, events_read, events_of_piece, events_after, events_from, events_of_input, run_state_after, mesh_of_input}
use Rattle.mesh_text.specs.Text.{pieces_of_input, LineOutcome, On, Refused, Full, outcome_by_events, outcome_of_auto, outcome_of_line, outcome_of_read, outcome_of_piece, RunText, goes_on, text_from, text_of_input}
use Rattle.mesh_text.proofs.RunStates.{IsKept, IsKeptCame, opening_kept, piece_kept}
use Rattle.mesh_text.proofs.RunLaws.{NotFull, base, follows, made_base}
use Rattle.mesh_text.proofs.RunStateLaws.{mesh_after_events}
use Rattle.mesh_blocks.specs.declared.below.Below.{Below}
use Rattle.mesh_blocks.specs.declared.below.Below.TheVariants.{Blocks, Changes}
use Rattle.mesh_blocks.specs.Blocks.{changed_by, shown_if, block_below}
use Rattle.mesh_blocks.specs.Changes.{lines_of, changes, changes_text, changed_line, changed_from, changed_if, changes_below}
use Rattle.mesh_blocks.specs.Forms.{below_text}
use Rattle.mesh_blocks.specs.Text.{watched_events, watched_line, watched_read, watched_piece, watched_from, watched_of_input}
use Rattle.mesh_blocks.specs.Parts.{Part, Did, Other, events_in, event_text, run_texts, watched_texts, IsWithBlocks, before_events}
use Rattle.mesh_blocks.specs.Laws.{BlocksAreAllThatIsAdded}
use Rattle.mesh_blocks.proofs.WholeLines.{whole_none, whole_line, whole_append, changes_whole, node_in_whole, end_whole, flight_whole, event_whole}

-- ---- a block, by its mesh and world

abbrev shown_in : Nodes → World → Option ℕ → List ℕ
shown_in mesh w None = []
shown_in mesh w (Some x) = line (words_of mesh (ShowsNode x)) ++ node_text_in mesh (slice_get w.nodes x)

shown_by : (m : RunState) (o : Option ℕ) → shown_if m o ≡ shown_in m.mesh (world_of m) o
unfolding outcome_of_line
shown_by m None = refl
shown_by m (Some x) = refl

block_by : (m : RunState) (e : Event) → block_below m e ≡ shown_in m.mesh (after (world_of m) (step (world_of m) e)) (changed_by e (step (world_of m) e))
unfolding block_below next_state
block_by m e = shown_by (next_state m e) (changed_by e (outcome_at m e))

shown_whole : (mesh : Nodes) (w : World) (o : Option ℕ) → EndsWithLf (shown_in mesh w o)
shown_whole mesh w None = whole_none
shown_whole mesh w (Some x) =
    whole_append (line (words_of mesh (ShowsNode x))) (node_text_in mesh (slice_get w.nodes x)) (whole_line (words_of mesh (ShowsNode x))) (node_in_whole mesh (slice_get w.nodes x))

-- ---- the changes of a block, by its mesh and worlds

abbrev changed_in : Nodes → World → World → Option ℕ → List ℕ
changed_in mesh w v None = []
changed_in mesh w v (Some x) = changed_line mesh x ++ changes_text (changes (lines_of (shown_in mesh w (Some x))) (lines_of (shown_in mesh v (Some x))))

changed_by_worlds : (m n : RunState) (o : Option ℕ) → n.mesh ≡ m.mesh → changed_if m n o ≡ changed_in m.mesh (world_of m) (world_of n) o
unfolding changed_from
changed_by_worlds m n None same = refl
changed_by_worlds m n (Some x) same =
    ap₂ (λ before now. changed_line n.mesh x ++ changes_text (changes (lines_of before) (lines_of now))) (shown_by m (Some x)) (shown_by n (Some x))
    ∙ ap (λ mesh. changed_line mesh x ++ changes_text (changes (lines_of (shown_in m.mesh (world_of m) (Some x))) (lines_of (shown_in mesh (world_of n) (Some x))))) same

changes_by : (m : RunState) (e : Event) → changes_below m e ≡ changed_in m.mesh (world_of m) (after (world_of m) (step (world_of m) e)) (changed_by e (step (world_of m) e))
unfolding changes_below next_state
changes_by m e = changed_by_worlds m (next_state m e) (changed_by e (outcome_at m e)) refl

changed_whole : (mesh : Nodes) (w v : World) (o : Option ℕ) → EndsWithLf (changed_in mesh w v o)
changed_whole mesh w v None = whole_none
changed_whole mesh w v (Some x) =
    let cs = changes (lines_of (shown_in mesh w (Some x))) (lines_of (shown_in mesh v (Some x))) in
    whole_append (changed_line mesh x) (changes_text cs) (whole_line (codes "changed " ++ name_of mesh x)) (changes_whole cs)

below_whole : (form : Below) (m : RunState) (e : Event) → EndsWithLf (below_text form m e)
below_whole Blocks m e = subst EndsWithLf (sym (block_by m e)) (shown_whole m.mesh (after (world_of m) (step (world_of m) e)) (changed_by e (step (world_of m) e)))
below_whole Changes m e =
    subst EndsWithLf (sym (changes_by m e)) (changed_whole m.mesh (world_of m) (after (world_of m) (step (world_of m) e)) (changed_by e (step (world_of m) e)))

-- a state in which the nodes and the world are those of another, whose world is made
record Alike (m c : RunState) : Type 0 where
  mesh : c.mesh ≡ m.mesh
  world : world_of c ≡ world_of m
  made : is_some m.world ≡ true

same_below : (form : Below) (m c : RunState) (e : Event) → Alike m c → below_text form m e ≡ below_text form c e
same_below Blocks m c e is =
    block_by m e ∙ ap₂ (λ (mesh : Nodes) (w : World). shown_in mesh (after w (step w e)) (changed_by e (step w e))) (sym is.mesh) (sym is.world) ∙ sym (block_by c e)
same_below Changes m c e is =
    changes_by m e ∙ ap₂ (λ (mesh : Nodes) (w : World). changed_in mesh w (after w (step w e)) (changed_by e (step w e))) (sym is.mesh) (sym is.world) ∙ sym (changes_by c e)

same_text : (m c : RunState) (e : Event) (o : Outcome) → Alike m c → outcome_at m e ≡ o → outcome_lines m.mesh e o ≡ event_text c e
same_text m c e o is came =
    ap (outcome_lines m.mesh e) (sym came) ∙ ap₂ (λ (mesh : Nodes) (w : World). outcome_lines mesh e (step w e)) (sym is.mesh) (sym is.world)

alike_next : (m c : RunState) (e : Event) → Alike m c → Alike (next_state m e) (next_state c e)
unfolding next_state
alike_next m c e is = record { mesh = is.mesh; world = ap (λ (w : World). after w (step w e)) is.world; made = refl }

alike_counted : (m c : RunState) → Alike m c → Alike (with_line_read m) c
alike_counted m c is = record { mesh = is.mesh; world = is.world; made = is.made }

alike_self : (m : RunState) → Alike (with_world m) (with_world m)
alike_self m = record { mesh = refl; world = refl; made = refl }

-- ---- texts

with_nothing : (form : Below) (c : RunState) → IsWithBlocks form c [] [] []
with_nothing form c = record { parts = []; events = refl; run = refl; watched_run = refl; whole = tt }

-- lines of no event before others
with_front : (form : Below) (c : RunState) (es : List Event) (front s t : List ℕ) → EndsWithLf front → IsWithBlocks form c es s t → IsWithBlocks form c es (front ++ s) (front ++ t)
with_front form c es front s t whole p = record {
  parts = Other front ∷ p.parts;
  events = p.events;
  run = ap (λ l. front ++ l) p.run;
  watched_run = ap (λ l. front ++ l) p.watched_run;
  whole = (whole, p.whole);
}

with_text : (form : Below) (c : RunState) (text : List ℕ) → EndsWithLf text → IsWithBlocks form c [] text text
with_text form c text whole = subst (λ l. IsWithBlocks form c [] l l) (append-nil text) (with_front form c [] text [] [] whole (with_nothing form c))

-- an event before others
with_event : (form : Below) (c : RunState) (e : Event) (es : List Event) (lines block s t : List ℕ) → lines ≡ event_text c e → block ≡ below_text form c e → IsWithBlocks form (next_state c e) es s t
    → IsWithBlocks form c (e ∷ es) (lines ++ s) (lines ++ (block ++ t))
with_event form c e es lines block s t first below p = record {
  parts = Did e ∷ p.parts;
  events = ap (λ l. e ∷ l) p.events;
  run = ap₂ (λ x y. x ++ y) first p.run;
  watched_run = ap₂ (λ x y. x ++ y) first (ap₂ (λ x y. x ++ y) below p.watched_run);
  whole = (event_whole c.mesh e (outcome_at c e), (below_whole form c e, p.whole));
}

events_append : (ps qs : List Part) → events_in (ps ++ qs) ≡ events_in ps ++ events_in qs
events_append [] qs = refl
events_append (Did e ∷ ps) qs = ap (λ l. e ∷ l) (events_append ps qs)
events_append (Other text ∷ ps) qs = events_append ps qs

run_append : (c : RunState) (ps qs : List Part) → run_texts c (ps ++ qs) ≡ run_texts c ps ++ run_texts (run_state_after c (events_in ps)) qs
unfolding run_state_after
run_append c [] qs = refl
run_append c (Did e ∷ ps) qs = ap (λ l. event_text c e ∷ l) (run_append (next_state c e) ps qs)
run_append c (Other text ∷ ps) qs = ap (λ l. text ∷ l) (run_append c ps qs)

watched_append : (form : Below) (c : RunState) (ps qs : List Part) → watched_texts form c (ps ++ qs) ≡ watched_texts form c ps ++ watched_texts form (run_state_after c (events_in ps)) qs
unfolding run_state_after
watched_append form c [] qs = refl
watched_append form c (Did e ∷ ps) qs = ap (λ l. event_text c e ∷ below_text form c e ∷ l) (watched_append form (next_state c e) ps qs)
watched_append form c (Other text ∷ ps) qs = ap (λ l. text ∷ l) (watched_append form c ps qs)

with_both : (form : Below) (c : RunState) (es fs : List Event) (s t u v : List ℕ) → IsWithBlocks form c es s t → IsWithBlocks form (run_state_after c es) fs u v → IsWithBlocks form c (es ++ fs) (s ++ u) (t ++ v)
with_both form c es fs s t u v p after_es =
    let q = subst (λ l. IsWithBlocks form (run_state_after c l) fs u v) p.events after_es in
    let then : RunState = run_state_after c (events_in p.parts) in
    record {
      parts = p.parts ++ q.parts;
      events = ap₂ (λ x y. x ++ y) p.events q.events ∙ sym (events_append p.parts q.parts);
      run = ap₂ (λ x y. x ++ y) p.run q.run ∙ sym (concat-append (run_texts c p.parts) (run_texts then q.parts)) ∙ ap concat (sym (run_append c p.parts q.parts));
      watched_run = ap₂ (λ x y. x ++ y) p.watched_run q.watched_run ∙ sym (concat-append (watched_texts form c p.parts) (watched_texts form then q.parts))
          ∙ ap concat (sym (watched_append form c p.parts q.parts));
      whole = subst (AllByRecursion EndsWithLf) (sym (watched_append form c p.parts q.parts)) (each_append EndsWithLf (watched_texts form c p.parts) (watched_texts form then q.parts) p.whole q.whole);
    }

-- lines of no event after others
with_end : (form : Below) (c : RunState) (es : List Event) (s t end : List ℕ) → EndsWithLf end → IsWithBlocks form c es s t → IsWithBlocks form c es (s ++ end) (t ++ end)
with_end form c es s t end whole p =
    subst (λ l. IsWithBlocks form c l (s ++ end) (t ++ end)) (append-nil es) (with_both form c es [] s t end end p (with_text form (run_state_after c es) end whole))

-- ---- events one after another

-- those before one that is refused for a full counter
record Before (form : Below) (c : RunState) (es : List Event) (s t : List ℕ) : Type 0 where
  done : List Event
  rest : List Event
  split : es ≡ done ++ rest
  blocks : IsWithBlocks form c done s t

abbrev EventsCame : Below → RunState → List Event → EventsOutcome → EventsOutcome → Type 0
EventsCame form c es (Ended s n) (Ended t k) = (k ≡ n) × Alike n (run_state_after c es) × IsWithBlocks form c es s t
EventsCame form c es (EventsFull s n e field) (EventsFull t k f other) = Before form c es s t
EventsCame form c es (Ended s n) (EventsFull t k f other) = ⊥
EventsCame form c es (EventsFull s n e field) (Ended t k) = ⊥

came_before : (form : Below) (c : RunState) (e : Event) (es : List Event) (lines block : List ℕ) (r q : EventsOutcome) → lines ≡ event_text c e → block ≡ below_text form c e → EventsCame form (next_state c e) es r q
    → EventsCame form c (e ∷ es) (before lines r) (before lines (before block q))
unfolding run_state_after
came_before form c e es lines block (Ended s n) (Ended t k) first below is = (is.0, is.1, with_event form c e es lines block s t first below is.2)
came_before form c e es lines block (EventsFull s n f field) (EventsFull t k g other) first below is = record {
  done = e ∷ is.done;
  rest = is.rest;
  split = ap (λ l. e ∷ l) is.split;
  blocks = with_event form c e is.done lines block s t first below is.blocks;
}
came_before form c e es lines block (Ended s n) (EventsFull t k g other) first below is = absurd is
came_before form c e es lines block (EventsFull s n f field) (Ended t k) first below is = absurd is

came_done : (form : Below) (m c : RunState) (e : Event) (o : Outcome) (es : List Event) (f h : RunState → EventsOutcome) → Alike m c → outcome_at m e ≡ o → EventsCame form (next_state c e) es (f (next_state m e)) (h (next_state m e))
    → EventsCame form c (e ∷ es) (done_then m e o f) (done_then m e o (λ n. before (below_text form m e) (h n)))
came_done form m c e Idle es f h is came rest =
    came_before form c e es (outcome_lines m.mesh e Idle) (below_text form m e) (f (next_state m e)) (h (next_state m e)) (same_text m c e Idle is came) (same_below form m c e is) rest
came_done form m c e (worlds.Full x field) es f h is came rest = record { done = []; rest = e ∷ es; split = refl; blocks = with_nothing form c }
came_done form m c e (Next w world_effect) es f h is came rest =
    came_before form c e es (outcome_lines m.mesh e (Next w world_effect)) (below_text form m e) (f (next_state m e)) (h (next_state m e)) (same_text m c e (Next w world_effect) is came) (same_below form m c e is) rest

events_came : (form : Below) (m c : RunState) (es : List Event) → Alike m c → EventsCame form c es (outcome_of_events m es) (watched_events form m es)
unfolding outcome_of_events watched_events run_state_after
events_came form m c [] is = (refl, is, with_nothing form c)
events_came form m c (e ∷ es) is =
    came_done form m c e (outcome_at m e) es (λ n. outcome_of_events n es) (λ n. watched_events form n es) is refl (events_came form (next_state m e) (next_state c e) es (alike_next m c e is))

-- ---- one line

-- a line with no event before the run has started, and the same text in both
record Still (m n : RunState) (es : List Event) (s t : List ℕ) : Type 0 where
  none : es ≡ []
  world : n.world ≡ m.world
  variant : n.variant ≡ m.variant
  same : t ≡ s
  whole : EndsWithLf s

-- or one in a run that has started, with its events
abbrev Ran : Below → RunState → RunState → List Event → List ℕ → List ℕ → Type 0
Ran form m n es s t = (c : RunState) → Alike (with_world m) c → Alike n (run_state_after c es) × IsWithBlocks form c es s t

abbrev LineCame : Below → RunState → List Event → LineOutcome → LineOutcome → Type 0
LineCame form m es (On s n) (On t k) = (k ≡ n) × (Still m n es s t ⊎ Ran form m n es s t)
LineCame form m es (Refused why) (Refused other) = es ≡ []
LineCame form m es (Full s n e field) (Full t k f other) = (c : RunState) → Alike (with_world m) c → Before form c es s t
LineCame form m es (On s n) (Refused other) = ⊥
LineCame form m es (On s n) (Full t k f other) = ⊥
LineCame form m es (Refused why) (On t k) = ⊥
LineCame form m es (Refused why) (Full t k f other) = ⊥
LineCame form m es (Full s n e field) (On t k) = ⊥
LineCame form m es (Full s n e field) (Refused other) = ⊥

line_by_events : (form : Below) (m : RunState) (es : List Event) (r q : EventsOutcome) → ((c : RunState) → Alike (with_world m) c → EventsCame form c es r q) → LineCame form m es (outcome_by_events r) (outcome_by_events q)
line_by_events form m es (Ended s n) (Ended t k) came =
    (ap with_line_read (came (with_world m) (alike_self m)).0, inr (λ c is. (alike_counted n (run_state_after c es) (came c is).1, (came c is).2)))
line_by_events form m es (EventsFull s n e field) (EventsFull t k f other) came = λ c is. came c is
line_by_events form m es (Ended s n) (EventsFull t k f other) came = absurd (came (with_world m) (alike_self m))
line_by_events form m es (EventsFull s n e field) (Ended t k) came = absurd (came (with_world m) (alike_self m))

line_of_auto : (form : Below) (m : RunState) (es : List Event) (w : List ℕ) (did : ℕ) (r q : EventsOutcome) → EndsWithLf w → ((c : RunState) → Alike (with_world m) c → EventsCame form c es r q)
    → LineCame form m es (outcome_of_auto w did r) (outcome_of_auto w did q)
line_of_auto form m es w did (Ended s n) (Ended t k) whole came = (
  ap with_line_read (came (with_world m) (alike_self m)).0,
  inr (λ c is. (
    alike_counted n (run_state_after c es) (came c is).1,
    with_end form c es (w ++ s) (w ++ t) (auto_end did) (whole_line (label_number (codes "auto did ") did)) (with_front form c es w s t whole (came c is).2),
  )),
)
line_of_auto form m es w did (EventsFull s n e field) (EventsFull t k f other) whole came = λ c is.
    let full = came c is in
    record { done = full.done; rest = full.rest; split = full.split; blocks = with_front form c full.done w s t whole full.blocks }
line_of_auto form m es w did (Ended s n) (EventsFull t k f other) whole came = absurd (came (with_world m) (alike_self m))
line_of_auto form m es w did (EventsFull s n e field) (Ended t k) whole came = absurd (came (with_world m) (alike_self m))

-- a line that shows something
line_shown : (form : Below) (m : RunState) (text : List ℕ) → EndsWithLf text → Ran form m (with_line_read (with_world m)) [] text text
unfolding run_state_after
line_shown form m text whole = λ c is. (alike_counted (with_world m) c is, with_text form c text whole)

line_came : (form : Below) (m : RunState) (a : AcceptedLine) → LineCame form m (events_of_line m a) (outcome_of_line m a) (watched_line form m a)
unfolding watched_line outcome_of_line
line_came form m Nothing = (refl, inl (record { none = refl; world = refl; variant = refl; same = refl; whole = whole_none }))
line_came form m (NewNode address first) = (refl, inl (record { none = refl; world = refl; variant = refl; same = refl; whole = whole_line (words_of m.mesh (NewNode address first)) }))
line_came form m (Does e) =
    line_by_events form m (e ∷ []) (outcome_of_events (with_world m) (e ∷ [])) (watched_events form (with_world m) (e ∷ [])) (λ c is. events_came form (with_world m) c (e ∷ []) is)
line_came form m (Chooses count) =
    let chosen : List Event = events_chosen count (with_world m) in
    line_of_auto form m chosen (line (words_of m.mesh (Chooses count))) (length chosen) (outcome_of_events (with_world m) chosen) (watched_events form (with_world m) chosen)
    (whole_line (words_of m.mesh (Chooses count))) (λ c is. events_came form (with_world m) c chosen is)
line_came form m (ShowsNode x) =
    let text : List ℕ = node_text_in m.mesh (slice_get (world_of m).nodes x) in
    (refl, inr (line_shown form m (line (words_of m.mesh (ShowsNode x)) ++ text) (whole_append (line (words_of m.mesh (ShowsNode x))) text (whole_line (words_of m.mesh (ShowsNode x))) (node_in_whole m.mesh (slice_get (world_of m).nodes x)))))
line_came form m (ShowsRoute x d) =
    let text : List ℕ = end_text m.mesh (route_end (world_of m) x d) in
    (refl, inr (line_shown form m (line (words_of m.mesh (ShowsRoute x d)) ++ text) (whole_append (line (words_of m.mesh (ShowsRoute x d))) text (whole_line (words_of m.mesh (ShowsRoute x d))) (end_whole m.mesh (route_end (world_of m) x d)))))
line_came form m ShowsFlight =
    let text : List ℕ = flight_text m.mesh (world_of m).flying in
    (refl, inr (line_shown form m (line (words_of m.mesh ShowsFlight) ++ text) (whole_append (line (words_of m.mesh ShowsFlight)) text (whole_line (words_of m.mesh ShowsFlight)) (flight_whole m.mesh (world_of m).flying))))

read_came : (form : Below) (m : RunState) (r : Result AcceptedLine LineFault) → LineCame form m (events_read m r) (outcome_of_read m r) (watched_read form m r)
read_came form m (Ok a) = line_came form m a
read_came form m (Err fault) = refl

piece_came : (form : Below) (m : RunState) (piece : Piece) → LineCame form m (events_of_piece m piece) (outcome_of_piece m piece) (watched_piece form m piece)
unfolding watched_piece outcome_of_piece
piece_came form m (Whole bytes) = read_came form m (line_of m.mesh (is_some m.world) bytes)
piece_came form m Long = refl
piece_came form m Beyond = refl

-- ---- all lines

-- a state with all nodes of the run, and the world of another, as it is where they are there
record Tracks (mesh : Nodes) (m c : RunState) : Type 0 where
  nodes : c.mesh ≡ mesh
  world : world_of c ≡ base m mesh

-- the events of the run, from there on
record RunCame (form : Below) (c : RunState) (es : List Event) (w v : RunText) : Type 0 where
  done : List Event
  rest : List Event
  split : es ≡ done ++ rest
  all : NotFull w.verdict → rest ≡ []
  blocks : IsWithBlocks form c done w.lines v.lines

still_goes : (form : Below) (m n k c : RunState) (es more : List Event) (s t : List ℕ) (w : RunText) (h : RunState → RunText) → k ≡ n → Still m n es s t → Tracks w.after.mesh m c
    → (Tracks w.after.mesh n c → RunCame form c more w (h n)) → RunCame form c (es ++ more) (shell.lines_before s w) (shell.lines_before t (h k))
still_goes form m n k c es more s t w h same still is rest =
    let mesh : Nodes = w.after.mesh in
    let there = rest (record {
      nodes = is.nodes;
      world = is.world ∙ ap₂ (λ o v. unwrap_or o (start v (first_numbers mesh))) (sym still.world) (sym still.variant);
    }) in
    record {
      done = there.done;
      rest = there.rest;
      split = ap (λ l. l ++ more) still.none ∙ there.split;
      all = there.all;
      blocks = subst (λ x. IsWithBlocks form c there.done (s ++ w.lines) (t ++ (h x).lines)) (sym same)
          (subst (λ l. IsWithBlocks form c there.done (s ++ w.lines) (l ++ (h n).lines)) (sym still.same) (with_front form c there.done s w.lines (h n).lines still.whole there.blocks));
    }

-- events, and then those of the rest
ran_joined : (form : Below) (c : RunState) (es more : List Event) (s t : List ℕ) (w v : RunText) → IsWithBlocks form c es s t → RunCame form (run_state_after c es) more w v → RunCame form c (es ++ more) (shell.lines_before s w) (shell.lines_before t v)
ran_joined form c es more s t w v now rest = record {
  done = es ++ rest.done;
  rest = rest.rest;
  split = ap (λ l. es ++ l) rest.split ∙ sym (append_assoc es rest.done rest.rest);
  all = rest.all;
  blocks = with_both form c es rest.done s t w.lines v.lines now rest.blocks;
}

ran_goes : (form : Below) (m n k c : RunState) (es more : List Event) (s t : List ℕ) (w : RunText) (h : RunState → RunText) → k ≡ n → Ran form m n es s t → Tracks w.after.mesh m c
    → (is_some n.world ≡ true → w.after.mesh ≡ n.mesh) → ((d : RunState) → Tracks w.after.mesh n d → RunCame form d more w (h n))
    → RunCame form c (es ++ more) (shell.lines_before s w) (shell.lines_before t (h k))
ran_goes form m n k c es more s t w h same ran is kept rest =
    let self : Alike n (run_state_after (with_world m) es) = (ran (with_world m) (alike_self m)).0 in
    let mesh : w.after.mesh ≡ m.mesh = kept self.made ∙ sym self.mesh ∙ mesh_after_events (with_world m) es in
    let now = ran c (record { mesh = is.nodes ∙ mesh; world = is.world ∙ ap (base m) mesh; made = refl }) in
    let there = rest (run_state_after c es) (record {
      nodes = mesh_after_events c es ∙ is.nodes;
      world = now.0.world ∙ made_base n.world (start n.variant (first_numbers n.mesh)) (start n.variant (first_numbers w.after.mesh)) self.made;
    }) in
    subst (λ x. RunCame form c (es ++ more) (shell.lines_before s w) (shell.lines_before t (h x))) (sym same) (ran_joined form c es more s t w (h n) now.1 there)

goes_came : (form : Below) (m c : RunState) (es : List Event) (k l : LineOutcome) (f h : RunState → RunText) (more : RunState → List Event) → LineCame form m es k l → IsKeptCame k → Tracks (goes_on m k f).after.mesh m c
    → ((n : RunState) → IsKept n → is_some n.world ≡ true → (f n).after.mesh ≡ n.mesh) → ((n d : RunState) → IsKept n → Tracks (f n).after.mesh n d → RunCame form d (more n) (f n) (h n))
    → RunCame form c (es ++ events_after k more) (goes_on m k f) (goes_on m l h)
unfolding IsKeptCame NotFull
goes_came form m c es (On s n) (On t k) f h more (same, inl still) kept is mesh rest = still_goes form m n k c es (more n) s t (f n) h same still is (λ there. rest n c kept there)
goes_came form m c es (On s n) (On t k) f h more (same, inr ran) kept is mesh rest = ran_goes form m n k c es (more n) s t (f n) h same ran is (mesh n kept) (λ d there. rest n d kept there)
goes_came form m c es (Refused why) (Refused other) f h more none kept is mesh rest = record { done = []; rest = []; split = ap (λ l. l ++ []) none; all = λ _. refl; blocks = with_nothing form c }
goes_came form m c es (Full s n e field) (Full t k g other) f h more came kept is mesh rest =
    let full = came c (record { mesh = is.nodes; world = is.world; made = refl }) in
    record {
      done = full.done;
      rest = full.rest;
      split = append-nil es ∙ full.split;
      all = λ not_full. absurd (not_full (m.lines + 1) refl);
      blocks = full.blocks;
    }
goes_came form m c es (On s n) (Refused other) f h more came kept is mesh rest = absurd came
goes_came form m c es (On s n) (Full t k g other) f h more came kept is mesh rest = absurd came
goes_came form m c es (Refused why) (On t k) f h more came kept is mesh rest = absurd came
goes_came form m c es (Refused why) (Full t k g other) f h more came kept is mesh rest = absurd came
goes_came form m c es (Full s n e field) (On t k) f h more came kept is mesh rest = absurd came
goes_came form m c es (Full s n e field) (Refused other) f h more came kept is mesh rest = absurd came

from_came : (form : Below) (m c : RunState) (pieces : List Piece) → IsKept m → Tracks (text_from m pieces).after.mesh m c → RunCame form c (events_from m pieces) (text_from m pieces) (watched_from form m pieces)
unfolding shell.text_from events_from
from_came form m c [] kept is = record { done = []; rest = []; split = refl; all = λ _. refl; blocks = with_nothing form c }
from_came form m c (piece ∷ pieces) kept is =
    goes_came form m c (events_of_piece m piece) (outcome_of_piece m piece) (watched_piece form m piece) (λ n. text_from n pieces) (λ n. watched_from form n pieces) (λ n. events_from n pieces)
    (piece_came form m piece) (piece_kept m piece kept) is (λ n on made. (follows n pieces on).mesh made) (λ n d on there. from_came form n d pieces on there)

pub blocks_are_all_that_is_added : BlocksAreAllThatIsAdded
unfolding watched_of_input text_of_input events_of_input shell.text_on NotFull
blocks_are_all_that_is_added form variant input =
    let came = from_came form (opening variant) (before_events variant (mesh_of_input variant input)) (pieces_of_input input) (opening_kept variant) (record { nodes = refl; world = refl }) in
    record { done = came.done; rest = came.rest; events = came.split; all = came.all; blocks = came.blocks }
