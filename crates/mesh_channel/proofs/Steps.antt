-- How many copies an event makes, and what numbers copies have.
use Rattle.std.proofs.Common.{◌≡◌, ℕ, zero, ◌+◌, ◌*◌, ◌<◌, ◌≤◌, ◌&&◌, eqb, Bool, true, false, cond, List, [], ◌∷◌, ◌++◌, length, length-append, Option, Some, None, is_some, refl, sym, ap, subst, ◌∙◌, arith}
use Rattle.std.specs.Prelude.{slice_get}
use Rattle.mesh_base.specs.declared.events.Full.{Full as Counter}
use Rattle.mesh_base.specs.Members.{NodeIds}
use Rattle.aodv_model.specs.Cores.{Item, New, Heard, Core, Message}
use Rattle.aodv_model.specs.Handlers.{Reaction, turn, send, may_send, ask, may_ask}
use Rattle.aodv_model.specs.Fullness.{turn_full, send_full, ask_full}
use Rattle.mesh_grammar.proofs.Readings.{if_case}
use Rattle.mesh_model.specs.InMesh.{AreNumbered}
use Rattle.mesh_model.specs.Worlds.{is_parcel, World, Node, Copy, Event, Give, Turn, Send, Ask, Link, Cut, Deliver, Lose, Double, range, copies, copies_to, done_by, push, find_copy, WorldEffect, Changed, Taken, Sent, CopyHeard, CopyLost, CopyDoubled, Outcome, Idle, Full, Next, unless_full, turn_of, send_of, ask_of, at_node, at_copy, with_link, without_link, without_copy, with_double, step, after, are_linked}
use Rattle.mesh_model.proofs.Copies.{copies_few, push_next}

-- ---- an event makes at most as many copies as there are nodes

-- so many copies were cast
abbrev pub cast_in : WorldEffect → ℕ
cast_in (Taken took effect cs) = length cs
cast_in (Sent effect cs) = length cs
cast_in others = 0

-- no more copies were made than there are nodes
unfoldable pub MakesFew : World → Outcome → Type 0
MakesFew w Idle = Unit {0}
MakesFew w (Full x field) = Unit {0}
MakesFew w (Next v h) = (v.next_copy ≤ w.next_copy + length w.nodes + 1) × (cast_in h ≤ length w.nodes)

unless_few : (w : World) (x : ℕ) (full : Option Counter) (o : Outcome) → MakesFew w o → MakesFew w (unless_full x full o)
unfolding MakesFew
unless_few w x (Some f) o few = tt
unless_few w x None o few = few

turn_few : (w : World) (x : ℕ) (core : Core) (queue : List Item) → MakesFew w (turn_of w x core queue)
unfolding MakesFew done_by
turn_few w x core [] = tt
turn_few w x core (item ∷ items) =
    let few = copies_few w x ((turn core (range w x) item).effect).cast in
    unless_few w x (turn_full core (range w x) item) _ (omega arith, few)

send_few : (w : World) (x d : ℕ) (core : Core) (queue : List Item) → MakesFew w (send_of w x d core queue)
unfolding MakesFew done_by
send_few w x d core queue =
    let few = copies_few w x ((send core (range w x) d).effect).cast in
    if_case (MakesFew w) (may_send core d) (unless_full x (send_full core (range w x) d) (Next (done_by w x (send core (range w x) d) queue) (Sent (send core (range w x) d).effect (copies w x ((send core (range w x) d).effect).cast)))) Idle
    (λ _. unless_few w x (send_full core (range w x) d) _ (omega arith, few)) (λ _. tt)

ask_few : (w : World) (x d : ℕ) (core : Core) (queue : List Item) → MakesFew w (ask_of w x d core queue)
unfolding MakesFew done_by
ask_few w x d core queue =
    let few = copies_few w x ((ask core d).effect).cast in
    if_case (MakesFew w) (may_ask core d) (unless_full x (ask_full core) (Next (done_by w x (ask core d) queue) (Sent (ask core d).effect (copies w x ((ask core d).effect).cast)))) Idle
    (λ _. unless_few w x (ask_full core) _ (omega arith, few)) (λ _. tt)

node_few : (w : World) (f : Core → List Item → Outcome) (o : Option Node) → ((core : Core) (queue : List Item) → MakesFew w (f core queue)) → MakesFew w (at_node o f)
unfolding MakesFew
node_few w f None some = tt
node_few w f (Some n) some = some n.core n.queue

copy_few : (w : World) (f : Copy → Outcome) (o : Option Copy) → ((c : Copy) → MakesFew w (f c)) → MakesFew w (at_copy o f)
unfolding MakesFew
copy_few w f None some = tt
copy_few w f (Some c) some = some c

pub step_few : (w : World) (e : Event) → MakesFew w (step w e)
unfolding step MakesFew
step_few w (Give x d b) = node_few w (λ core queue. Next (push w x (New b d)) Changed) (slice_get w.nodes x) (λ core queue. (let same = push_next w x (New b d) in omega arith, omega arith))
step_few w (Turn x) = node_few w (turn_of w x) (slice_get w.nodes x) (turn_few w x)
step_few w (Send x d) = node_few w (send_of w x d) (slice_get w.nodes x) (send_few w x d)
step_few w (Ask x d) = node_few w (ask_of w x d) (slice_get w.nodes x) (ask_few w x d)
step_few w (Link a b) = if_case (MakesFew w) (are_linked w.links a b) Idle (Next (with_link w a b) Changed) (λ _. tt) (λ _. (omega arith, omega arith))
step_few w (Cut a b) = if_case (MakesFew w) (are_linked w.links a b) (Next (without_link w a b) Changed) Idle (λ _. (omega arith, omega arith)) (λ _. tt)
step_few w (Deliver id) =
    copy_few w (λ c. Next (push (without_copy w id) c.to (Heard c.from c.message)) (CopyHeard c.from c.to)) (find_copy w.flying id)
    (λ c. (let same = push_next (without_copy w id) c.to (Heard c.from c.message) in omega arith, omega arith))
step_few w (Lose id) = copy_few w (λ c. Next (without_copy w id) (CopyLost c)) (find_copy w.flying id) (λ c. (omega arith, omega arith))
step_few w (Double id) =
    copy_few w (λ c. Next (with_double w c) (CopyDoubled w.next_copy c.to (is_parcel c.message))) (find_copy w.flying id) (λ c. (omega arith, omega arith))

after_few : (w : World) (o : Outcome) → MakesFew w o → (after w o).next_copy ≤ w.next_copy + length w.nodes + 1
unfolding MakesFew
after_few w Idle few = omega arith
after_few w (Full x field) few = omega arith
after_few w (Next v h) few = few.0

pub step_grows : (w : World) (e : Event) → (after w (step w e)).next_copy ≤ w.next_copy + length w.nodes + 1
step_grows w e = after_few w (step w e) (step_few w e)

-- the number of the next copy never falls
push_rises : (w : World) (x : ℕ) (item : Item) → w.next_copy ≤ (push w x item).next_copy
push_rises w x item = let same = push_next w x item in omega arith

Rises : World → Outcome → Type 0
Rises w o = w.next_copy ≤ (after w o).next_copy

unless_rises : (w : World) (x : ℕ) (full : Option Counter) (o : Outcome) → Rises w o → Rises w (unless_full x full o)
unfolding Rises
unless_rises w x (Some f) o rises = omega arith
unless_rises w x None o rises = rises

turn_rises : (w : World) (x : ℕ) (core : Core) (queue : List Item) → Rises w (turn_of w x core queue)
unfolding Rises done_by
turn_rises w x core [] = omega arith
turn_rises w x core (item ∷ items) = unless_rises w x (turn_full core (range w x) item) _ (omega arith)

send_rises : (w : World) (x d : ℕ) (core : Core) (queue : List Item) → Rises w (send_of w x d core queue)
unfolding Rises done_by
send_rises w x d core queue =
    if_case (Rises w) (may_send core d) (unless_full x (send_full core (range w x) d) (Next (done_by w x (send core (range w x) d) queue) (Sent (send core (range w x) d).effect (copies w x ((send core (range w x) d).effect).cast)))) Idle
    (λ _. unless_rises w x (send_full core (range w x) d) _ (omega arith)) (λ _. omega arith)

ask_rises : (w : World) (x d : ℕ) (core : Core) (queue : List Item) → Rises w (ask_of w x d core queue)
unfolding Rises done_by
ask_rises w x d core queue =
    if_case (Rises w) (may_ask core d) (unless_full x (ask_full core) (Next (done_by w x (ask core d) queue) (Sent (ask core d).effect (copies w x ((ask core d).effect).cast)))) Idle
    (λ _. unless_rises w x (ask_full core) _ (omega arith)) (λ _. omega arith)

node_rises : (w : World) (f : Core → List Item → Outcome) (o : Option Node) → ((core : Core) (queue : List Item) → Rises w (f core queue)) → Rises w (at_node o f)
unfolding Rises
node_rises w f None some = omega arith
node_rises w f (Some n) some = some n.core n.queue

copy_rises : (w : World) (f : Copy → Outcome) (o : Option Copy) → ((c : Copy) → Rises w (f c)) → Rises w (at_copy o f)
unfolding Rises
copy_rises w f None some = omega arith
copy_rises w f (Some c) some = some c

pub step_rises : (w : World) (e : Event) → w.next_copy ≤ (after w (step w e)).next_copy
unfolding step Rises
step_rises w (Give x d b) = node_rises w (λ core queue. Next (push w x (New b d)) Changed) (slice_get w.nodes x) (λ core queue. push_rises w x (New b d))
step_rises w (Turn x) = node_rises w (turn_of w x) (slice_get w.nodes x) (turn_rises w x)
step_rises w (Send x d) = node_rises w (send_of w x d) (slice_get w.nodes x) (send_rises w x d)
step_rises w (Ask x d) = node_rises w (ask_of w x d) (slice_get w.nodes x) (ask_rises w x d)
step_rises w (Link a b) = if_case (Rises w) (are_linked w.links a b) Idle (Next (with_link w a b) Changed) (λ _. omega arith) (λ _. omega arith)
step_rises w (Cut a b) = if_case (Rises w) (are_linked w.links a b) (Next (without_link w a b) Changed) Idle (λ _. omega arith) (λ _. omega arith)
step_rises w (Deliver id) =
    copy_rises w (λ c. Next (push (without_copy w id) c.to (Heard c.from c.message)) (CopyHeard c.from c.to)) (find_copy w.flying id)
    (λ c. push_rises (without_copy w id) c.to (Heard c.from c.message))
step_rises w (Lose id) = copy_rises w (λ c. Next (without_copy w id) (CopyLost c)) (find_copy w.flying id) (λ c. omega arith)
step_rises w (Double id) = copy_rises w (λ c. Next (with_double w c) (CopyDoubled w.next_copy c.to (is_parcel c.message))) (find_copy w.flying id) (λ c. omega arith)

-- ---- a copy in flight has a number below that of the next

pub numbered_found : (low next : ℕ) (cs : List Copy) (id : ℕ) → AreNumbered low cs next → is_some (find_copy cs id) ≡ true → (low ≤ id) × (id < next)
numbered_found low next [] id numbered found = absurd (let P : ⊥ = cc in P)
numbered_found low next (c ∷ cs) id numbered found = by (eqb c.id id) refl (λ there. numbered_found (c.id + 1) next cs id numbered.1 there)
  where
    past : (low : ℕ) (cs : List Copy) → AreNumbered low cs next → low ≤ next
    past low [] all = all
    past low (d ∷ ds) all = let more = past (d.id + 1) ds all.1 in omega (arith, all.0)

    by : (b : Bool) → eqb c.id id ≡ b → (is_some (find_copy cs id) ≡ true → (c.id + 1 ≤ id) × (id < next)) → (low ≤ id) × (id < next)
    by true same rest = let is : c.id ≡ id = Rattle.std.proofs.lemmas.Bool.eqb-true c.id id same in let more = past (c.id + 1) cs numbered.1 in (omega (arith, numbered.0), omega arith)
    by false other rest =
        let there : is_some (find_copy cs id) ≡ true = ap (λ b. is_some (cond b (Some c) (find_copy cs id))) (sym other) ∙ found in
        let is = rest there in (omega (arith, numbered.0, is.0), is.1)
