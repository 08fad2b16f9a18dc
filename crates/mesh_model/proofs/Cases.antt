-- The cases of a step: a law of every step is a record of what it owes in each of them.
use Rattle.std.proofs.Common.{◌≡◌, ℕ, true, false, List, [], ◌∷◌, Some, None, Option, refl}
use Rattle.std.specs.Prelude.{slice_get, ⊤}
use Rattle.mesh_base.specs.Members.{NodeIds}
use Rattle.mesh_base.specs.declared.events.Full.{Full as Counter}
use Rattle.aodv_model.proofs.Entries.{if_case}
use Rattle.aodv_model.specs.Cores.{Body, Core, Heard, Item, New}
use Rattle.aodv_model.specs.Fullness.{ask_full, send_full, turn_full}
use Rattle.aodv_model.specs.Handlers.{ask, may_ask, may_send, send, took, turn}
use Rattle.mesh_model.specs.Worlds.{Ask, Changed, Copy, CopyDoubled, CopyHeard, CopyLost, Cut, Deliver, Double, Event, Full, Give, Idle, Link, Lose, Next, Node, Outcome, Send, Sent, Taken, Turn, World, are_linked, ask_of, at_copy, at_node, copies, done_by, find_copy, is_parcel, push, range, send_of, step, turn_of, unless_full, with_double, with_item, with_link, without_copy, without_link}

-- the counter for which a node refuses to take the front of its queue
abbrev pub front_full : Core → NodeIds → List Item → Option Counter
front_full core near [] = None
front_full core near (item ∷ items) = turn_full core near item

-- the event is one of node x, which is n, and refused for that counter
abbrev pub Refuses : NodeIds → Event → ℕ → Node → Counter → Type 0
Refuses near (Turn y) x n f = (y ≡ x) × (front_full n.core near n.queue ≡ Some f)
Refuses near (Send y d) x n f = (y ≡ x) × (send_full n.core near d ≡ Some f)
Refuses near (Ask y d) x n f = (y ≡ x) × (ask_full n.core ≡ Some f)
Refuses near others x n f = ⊥

-- no copy in flight has the id that the event names
abbrev pub NamesNoCopy : World → Event → Type 0
NamesNoCopy w (Deliver id) = find_copy w.flying id ≡ None
NamesNoCopy w (Lose id) = find_copy w.flying id ≡ None
NamesNoCopy w (Double id) = find_copy w.flying id ≡ None
NamesNoCopy w others = ⊤

-- what comes of a turn, of a datum that is sent, and of a request, where no counter is at its end
abbrev pub turn_goes : World → ℕ → Core → Item → List Item → Outcome
turn_goes w x core item items =
    let did = turn core (range w x) item in Next (done_by w x did items) (Taken (took core item) did.effect (copies w x (did.effect).cast))

abbrev pub send_goes : World → ℕ → ℕ → Node → Outcome
send_goes w x d n = let did = send n.core (range w x) d in Next (done_by w x did n.queue) (Sent did.effect (copies w x (did.effect).cast))

abbrev pub ask_goes : World → ℕ → ℕ → Node → Outcome
ask_goes w x d n = let did = ask n.core d in Next (done_by w x did n.queue) (Sent did.effect (copies w x (did.effect).cast))

-- what a law P of every step of w owes: P of each outcome that an event can have
pub record StepCases (w : World) (P : Event → Outcome → Type 0) : Type 0 where
  pub idle : (e : Event) → NamesNoCopy w e → P e Idle
  pub full : (e : Event) (x : ℕ) (n : Node) (f : Counter) → slice_get w.nodes x ≡ Some n → Refuses (range w x) e x n f → P e (Full x f)
  pub given : (x d : ℕ) (b : Body) (n : Node) → slice_get w.nodes x ≡ Some n → P (Give x d b) (Next (push w x (New b d)) Changed)
  pub taken : (x : ℕ) (core : Core) (item : Item) (items : List Item) → slice_get w.nodes x ≡ Some (record { core = core; queue = item ∷ items }) → turn_full core (range w x) item ≡ None → P (Turn x) (turn_goes w x core item items)
  pub sent : (x d : ℕ) (n : Node) → slice_get w.nodes x ≡ Some n → may_send n.core d ≡ true → send_full n.core (range w x) d ≡ None → P (Send x d) (send_goes w x d n)
  pub asked : (x d : ℕ) (n : Node) → slice_get w.nodes x ≡ Some n → may_ask n.core d ≡ true → ask_full n.core ≡ None → P (Ask x d) (ask_goes w x d n)
  pub linked : (a b : ℕ) → are_linked w.links a b ≡ false → P (Link a b) (Next (with_link w a b) Changed)
  pub cut : (a b : ℕ) → are_linked w.links a b ≡ true → P (Cut a b) (Next (without_link w a b) Changed)
  pub heard : (id : ℕ) (c : Copy) → find_copy w.flying id ≡ Some c → P (Deliver id) (Next (push (without_copy w id) c.to (Heard c.from c.message)) (CopyHeard c.from c.to))
  pub lost : (id : ℕ) (c : Copy) → find_copy w.flying id ≡ Some c → P (Lose id) (Next (without_copy w id) (CopyLost c))
  pub doubled : (id : ℕ) (c : Copy) → find_copy w.flying id ≡ Some c → P (Double id) (Next (with_double w c) (CopyDoubled w.next_copy c.to (is_parcel c.message)))

-- the outcome, or the refusal
pub full_case : (P : Outcome → Type 0) (x : ℕ) (o : Option Counter) (out : Outcome) → ((f : Counter) → o ≡ Some f → P (Full x f)) → (o ≡ None → P out) → P (unless_full x o out)
full_case P x (Some f) out full free = full f refl
full_case P x None out full free = free refl

pub node_case : (P : Outcome → Type 0) (f : Core → List Item → Outcome) (o : Option Node) → P Idle → ((n : Node) → o ≡ Some n → P (f n.core n.queue)) → P (at_node o f)
node_case P f None idle some = idle
node_case P f (Some n) idle some = some n refl

pub copy_case : (P : Outcome → Type 0) (f : Copy → Outcome) (o : Option Copy) → (o ≡ None → P Idle) → ((c : Copy) → o ≡ Some c → P (f c)) → P (at_copy o f)
copy_case P f None idle some = idle refl
copy_case P f (Some c) idle some = some c refl

turn_case : (w : World) (P : Event → Outcome → Type 0) → StepCases w P → (x : ℕ) (core : Core) (queue : List Item) → slice_get w.nodes x ≡ Some (record { core = core; queue = queue }) → P (Turn x) (turn_of w x core queue)
turn_case w P cases x core [] is = cases.idle (Turn x) tt
turn_case w P cases x core (item ∷ items) is =
    full_case (P (Turn x)) x (turn_full core (range w x) item) _ (λ f full. cases.full (Turn x) x (record { core = core; queue = item ∷ items }) f is (refl, full)) (λ free. cases.taken x core item items is free)

send_case : (w : World) (P : Event → Outcome → Type 0) → StepCases w P → (x d : ℕ) (n : Node) → slice_get w.nodes x ≡ Some n → P (Send x d) (send_of w x d n.core n.queue)
send_case w P cases x d n is =
    if_case (P (Send x d)) (may_send n.core d) (unless_full x (send_full n.core (range w x) d) (send_goes w x d n)) Idle
    (λ may. full_case (P (Send x d)) x (send_full n.core (range w x) d) (send_goes w x d n) (λ f full. cases.full (Send x d) x n f is (refl, full)) (λ free. cases.sent x d n is may free)) (λ _. cases.idle (Send x d) tt)

ask_case : (w : World) (P : Event → Outcome → Type 0) → StepCases w P → (x d : ℕ) (n : Node) → slice_get w.nodes x ≡ Some n → P (Ask x d) (ask_of w x d n.core n.queue)
ask_case w P cases x d n is =
    if_case (P (Ask x d)) (may_ask n.core d) (unless_full x (ask_full n.core) (ask_goes w x d n)) Idle
    (λ may. full_case (P (Ask x d)) x (ask_full n.core) (ask_goes w x d n) (λ f full. cases.full (Ask x d) x n f is (refl, full)) (λ free. cases.asked x d n is may free)) (λ _. cases.idle (Ask x d) tt)

-- a queue that grows changes nothing but the nodes
pub push_is : (w : World) (x : ℕ) (item : Item) → push w x item ≡ record w { nodes = (push w x item).nodes }
unfolding push
push_is w x item = by (slice_get w.nodes x)
  where
    by : (o : Option Node) → with_item w x o item ≡ record w { nodes = (with_item w x o item).nodes }
    by None = refl
    by (Some n) = refl

pub by_cases : (w : World) (P : Event → Outcome → Type 0) → StepCases w P → (e : Event) → P e (step w e)
unfolding step
by_cases w P cases (Give x d b) = node_case (P (Give x d b)) (λ core queue. Next (push w x (New b d)) Changed) (slice_get w.nodes x) (cases.idle (Give x d b) tt) (cases.given x d b)
by_cases w P cases (Turn x) = node_case (P (Turn x)) (turn_of w x) (slice_get w.nodes x) (cases.idle (Turn x) tt) (λ n is. turn_case w P cases x n.core n.queue is)
by_cases w P cases (Send x d) = node_case (P (Send x d)) (send_of w x d) (slice_get w.nodes x) (cases.idle (Send x d) tt) (send_case w P cases x d)
by_cases w P cases (Ask x d) = node_case (P (Ask x d)) (ask_of w x d) (slice_get w.nodes x) (cases.idle (Ask x d) tt) (ask_case w P cases x d)
by_cases w P cases (Link a b) = if_case (P (Link a b)) (are_linked w.links a b) Idle (Next (with_link w a b) Changed) (λ _. cases.idle (Link a b) tt) (cases.linked a b)
by_cases w P cases (Cut a b) = if_case (P (Cut a b)) (are_linked w.links a b) (Next (without_link w a b) Changed) Idle (cases.cut a b) (λ _. cases.idle (Cut a b) tt)
by_cases w P cases (Deliver id) =
    copy_case (P (Deliver id)) (λ c. Next (push (without_copy w id) c.to (Heard c.from c.message)) (CopyHeard c.from c.to)) (find_copy w.flying id) (cases.idle (Deliver id)) (cases.heard id)
by_cases w P cases (Lose id) = copy_case (P (Lose id)) (λ c. Next (without_copy w id) (CopyLost c)) (find_copy w.flying id) (cases.idle (Lose id)) (cases.lost id)
by_cases w P cases (Double id) = copy_case (P (Double id)) (λ c. Next (with_double w c) (CopyDoubled w.next_copy c.to (is_parcel c.message))) (find_copy w.flying id) (cases.idle (Double id)) (cases.doubled id)
