-- An event makes no more copies than its text has bytes.
use Rattle.std.proofs.Common.{ℕ, ◌+◌, ◌≤◌, List, [], ◌∷◌, ◌++◌, codes, Option, Some, None, length, length-append, arith}
use Rattle.std.specs.Prelude.{slice_get}
use Rattle.aodv_model.proofs.Entries.{if_case}
use Rattle.aodv_model.specs.Cores.{Core, Item, New, Heard}
use Rattle.aodv_model.specs.Fullness.{turn_full, send_full, ask_full}
use Rattle.aodv_model.specs.Handlers.{Reaction, Effect, turn, send, ask, took, may_send, may_ask}
use Rattle.mesh_base.specs.declared.events.Full.{Full as Counter}
use Rattle.mesh_base.specs.Meshes.{Nodes}
use Rattle.mesh_grammar.specs.Written.{line, label_number}
use Rattle.mesh_meaning.specs.Events.{node_of}
use Rattle.mesh_model.specs.Worlds.{World, Node, Copy, Event, Give, Turn, Send, Ask, Link, Cut, Deliver, Lose, Double, Outcome, Idle, Next, Changed, Taken, Sent, CopyHeard, CopyLost, CopyDoubled, after, step, at_node, at_copy, unless_full, turn_of, send_of, ask_of, done_by, push, without_copy, with_double, is_parcel, with_link, without_link, are_linked, range, copies, find_copy}
use Rattle.mesh_model.proofs.Copies.{push_next}
use Rattle.mesh_text.specs.Effects.{took_text, datum_fate, broken_text, cast_text, copies_text, sent_text, world_effect_text, outcome_text, outcome_lines}
use Rattle.mesh_text.specs.Lines.{name_of, event_words}

-- a line has a byte or more
line_long : (t : List ℕ) → 1 ≤ length (line t)
line_long t = let all = length-append t (10 ∷ []) in omega arith

copies_long : (mesh : Nodes) (cs : List Copy) → length cs ≤ length (copies_text mesh cs)
copies_long mesh [] = omega arith
copies_long mesh (c ∷ cs) =
    let first : List ℕ = line (label_number (codes "  copy ") c.id ++ 32 ∷ name_of mesh c.to) in
    let all = length-append first (copies_text mesh cs) in
    let one = line_long (label_number (codes "  copy ") c.id ++ 32 ∷ name_of mesh c.to) in
    let others = copies_long mesh cs in
    omega arith

sent_long : (mesh : Nodes) (e : Effect) (cs : List Copy) → length cs ≤ length (sent_text mesh e cs)
sent_long mesh e cs = let all = length-append (broken_text mesh e.broken ++ cast_text mesh e.cast) (copies_text mesh cs) in let own = copies_long mesh cs in omega arith

-- an event that came to this
Pays : Nodes → World → Event → Outcome → Type 0
Pays mesh w e o = (after w o).next_copy ≤ w.next_copy + length (outcome_text mesh (node_of e) o)

module _ (mesh : Nodes) (w : World) where
  idle_pays : (e : Event) → Pays mesh w e Idle
  unfolding Pays
  idle_pays e = omega arith

  -- an event that may be refused
  unless_pays : (e : Event) (x : ℕ) (o : Option Counter) (outcome : Outcome) → Pays mesh w e outcome → Pays mesh w e (unless_full x o outcome)
  unfolding Pays
  unless_pays e x (Some f) outcome pays = omega arith
  unless_pays e x None outcome pays = pays

  node_pays : (e : Event) (f : Core → List Item → Outcome) (o : Option Node) → ((core : Core) (queue : List Item) → Pays mesh w e (f core queue)) → Pays mesh w e (at_node o f)
  node_pays e f None pays = idle_pays e
  node_pays e f (Some n) pays = pays n.core n.queue

  copy_pays : (e : Event) (f : Copy → Outcome) (o : Option Copy) → ((c : Copy) → Pays mesh w e (f c)) → Pays mesh w e (at_copy o f)
  copy_pays e f None pays = idle_pays e
  copy_pays e f (Some c) pays = pays c

  taken_pays : (x : ℕ) (core : Core) (item : Item) (items : List Item) → Pays mesh w (Turn x) (Next (done_by w x (turn core (range w x) item) items) (Taken (took core item) (turn core (range w x) item).effect (copies w x ((turn core (range w x) item).effect).cast)))
  unfolding Pays done_by world_effect_text
  taken_pays x core item items =
      let e : Effect = (turn core (range w x) item).effect in
      let cs : List Copy = copies w x e.cast in
      let all = length-append (took_text mesh x (took core item) ++ datum_fate mesh x (took core item) e) (sent_text mesh e cs) in
      let own = sent_long mesh e cs in
      omega arith

  turn_pays : (x : ℕ) (core : Core) (queue : List Item) → Pays mesh w (Turn x) (turn_of w x core queue)
  turn_pays x core [] = idle_pays (Turn x)
  turn_pays x core (item ∷ items) =
      unless_pays (Turn x) x (turn_full core (range w x) item) (Next (done_by w x (turn core (range w x) item) items) (Taken (took core item) (turn core (range w x) item).effect (copies w x ((turn core (range w x) item).effect).cast)))
      (taken_pays x core item items)

  send_pays : (x d : ℕ) (core : Core) (queue : List Item) → Pays mesh w (Send x d) (send_of w x d core queue)
  unfolding Pays done_by world_effect_text
  send_pays x d core queue =
      let did : Reaction = send core (range w x) d in
      let cs : List Copy = copies w x (did.effect).cast in
      if_case (Pays mesh w (Send x d)) (may_send core d) (unless_full x (send_full core (range w x) d) (Next (done_by w x did queue) (Sent did.effect cs))) Idle
      (λ _. unless_pays (Send x d) x (send_full core (range w x) d) (Next (done_by w x did queue) (Sent did.effect cs)) (let own = sent_long mesh did.effect cs in omega arith)) (λ _. idle_pays (Send x d))

  ask_pays : (x d : ℕ) (core : Core) (queue : List Item) → Pays mesh w (Ask x d) (ask_of w x d core queue)
  unfolding Pays done_by world_effect_text
  ask_pays x d core queue =
      let did : Reaction = ask core d in
      let cs : List Copy = copies w x (did.effect).cast in
      if_case (Pays mesh w (Ask x d)) (may_ask core d) (unless_full x (ask_full core) (Next (done_by w x did queue) (Sent did.effect cs))) Idle
      (λ _. unless_pays (Ask x d) x (ask_full core) (Next (done_by w x did queue) (Sent did.effect cs)) (let own = sent_long mesh did.effect cs in omega arith)) (λ _. idle_pays (Ask x d))

  step_pays : (e : Event) → Pays mesh w e (step w e)
  unfolding Pays step world_effect_text
  step_pays (Give x d body) = node_pays (Give x d body) (λ core queue. Next (push w x (New body d)) Changed) (slice_get w.nodes x) (λ core queue. let same = push_next w x (New body d) in omega arith)
  step_pays (Turn x) = node_pays (Turn x) (turn_of w x) (slice_get w.nodes x) (turn_pays x)
  step_pays (Send x d) = node_pays (Send x d) (send_of w x d) (slice_get w.nodes x) (send_pays x d)
  step_pays (Ask x d) = node_pays (Ask x d) (ask_of w x d) (slice_get w.nodes x) (ask_pays x d)
  step_pays (Link a b) = if_case (Pays mesh w (Link a b)) (are_linked w.links a b) Idle (Next (with_link w a b) Changed) (λ _. idle_pays (Link a b)) (λ _. omega arith)
  step_pays (Cut a b) = if_case (Pays mesh w (Cut a b)) (are_linked w.links a b) (Next (without_link w a b) Changed) Idle (λ _. omega arith) (λ _. idle_pays (Cut a b))
  step_pays (Deliver id) =
      copy_pays (Deliver id) (λ c. Next (push (without_copy w id) c.to (Heard c.from c.message)) (CopyHeard c.from c.to)) (find_copy w.flying id)
      (λ c. let same = push_next (without_copy w id) c.to (Heard c.from c.message) in omega arith)
  step_pays (Lose id) = copy_pays (Lose id) (λ c. Next (without_copy w id) (CopyLost c)) (find_copy w.flying id) (λ c. omega arith)
  step_pays (Double id) =
      copy_pays (Double id) (λ c. Next (with_double w c) (CopyDoubled w.next_copy c.to (is_parcel c.message))) (find_copy w.flying id)
      (λ c. let one = line_long (label_number (codes "  copy ") w.next_copy ++ 32 ∷ name_of mesh c.to) in omega arith)

-- of an event with its own line, which has a byte or more
pub event_pays : (mesh : Nodes) (w : World) (e : Event) → (after w (step w e)).next_copy + 1 ≤ w.next_copy + length (outcome_lines mesh e (step w e))
unfolding Pays outcome_lines
event_pays mesh w e =
    let own = line_long (event_words mesh e) in
    let all = length-append (line (event_words mesh e)) (outcome_text mesh (node_of e) (step w e)) in
    let paid = step_pays mesh w e in
    omega arith

pub some_lines : (mesh : Nodes) (e : Event) (o : Outcome) → 1 ≤ length (outcome_lines mesh e o)
unfolding outcome_lines
some_lines mesh e o =
    let own = line_long (event_words mesh e) in let all = length-append (line (event_words mesh e)) (outcome_text mesh (node_of e) o) in omega arith
