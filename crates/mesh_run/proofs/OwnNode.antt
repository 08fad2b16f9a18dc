-- A step that is refused for a full counter is refused for one of the event's own node.
use Rattle.std.proofs.Common.{◌≡◌, ℕ, List, [], ◌∷◌, Option, Some, None}
use Rattle.std.specs.Prelude.{slice_get}
use Rattle.mesh_base.specs.declared.events.Full.{Full as Counter}
use Rattle.aodv_model.proofs.Entries.{if_case}
use Rattle.aodv_model.specs.Cores.{Core, Item, Heard, New}
use Rattle.aodv_model.specs.Fullness.{turn_full, send_full, ask_full}
use Rattle.aodv_model.specs.Handlers.{turn, send, ask, took, may_send, may_ask}
use Rattle.mesh_model.specs.Worlds.{World, Node, Copy, Event, Give, Turn, Send, Ask, Link, Cut, Deliver, Lose, Double, Outcome, Idle, Full, Next, WorldEffect, Changed, Taken, Sent, CopyHeard, CopyLost, CopyDoubled, step, unless_full, turn_of, send_of, ask_of, at_node, at_copy, done_by, copies, range, push, find_copy, are_linked, with_link, without_link, without_copy, with_double, is_parcel}
use Rattle.mesh_meaning.specs.Events.{node_of}

-- where it is a refusal it is of node x
abbrev IsOwn : ℕ → Outcome → Type 0
IsOwn x o = (node : ℕ) (field : Counter) → o ≡ Full node field → node ≡ x

idle_own : (x : ℕ) → IsOwn x Idle
idle_own x node field is = cc

next_own : (x : ℕ) (w : World) (h : WorldEffect) → IsOwn x (Next w h)
next_own x w h node field is = cc

unless_own : (x : ℕ) (o : Option Counter) (w : World) (h : WorldEffect) → IsOwn x (unless_full x o (Next w h))
unless_own x None w h node field is = cc
unless_own x (Some full) w h node field is = cc

turn_own : (w : World) (x : ℕ) (core : Core) (queue : List Item) → IsOwn x (turn_of w x core queue)
turn_own w x core [] = idle_own x
turn_own w x core (item ∷ items) =
    let r = turn core (range w x) item in
    unless_own x (turn_full core (range w x) item) (done_by w x r items) (Taken (took core item) r.effect (copies w x (r.effect).cast))

send_own : (w : World) (x d : ℕ) (core : Core) (queue : List Item) → IsOwn x (send_of w x d core queue)
send_own w x d core queue =
    let r = send core (range w x) d in
    let next : World = done_by w x r queue in
    let sent : WorldEffect = Sent r.effect (copies w x (r.effect).cast) in
    if_case (IsOwn x) (may_send core d) (unless_full x (send_full core (range w x) d) (Next next sent)) Idle
    (λ _. unless_own x (send_full core (range w x) d) next sent) (λ _. idle_own x)

ask_own : (w : World) (x d : ℕ) (core : Core) (queue : List Item) → IsOwn x (ask_of w x d core queue)
ask_own w x d core queue =
    let r = ask core d in
    let next : World = done_by w x r queue in
    let sent : WorldEffect = Sent r.effect (copies w x (r.effect).cast) in
    if_case (IsOwn x) (may_ask core d) (unless_full x (ask_full core) (Next next sent)) Idle
    (λ _. unless_own x (ask_full core) next sent) (λ _. idle_own x)

node_own : (x : ℕ) (f : Core → List Item → Outcome) (o : Option Node) → ((n : Node) → IsOwn x (f n.core n.queue)) → IsOwn x (at_node o f)
node_own x f None own = idle_own x
node_own x f (Some n) own = own n

copy_own : (x : ℕ) (f : Copy → World) (g : Copy → WorldEffect) (o : Option Copy) → IsOwn x (at_copy o (λ c. Next (f c) (g c)))
copy_own x f g None = idle_own x
copy_own x f g (Some c) = next_own x (f c) (g c)

pub step_own : (w : World) (e : Event) → IsOwn (node_of e) (step w e)
unfolding step
step_own w (Give x d b) = node_own x (λ core queue. Next (push w x (New b d)) Changed) (slice_get w.nodes x) (λ n. next_own x (push w x (New b d)) Changed)
step_own w (Turn x) = node_own x (turn_of w x) (slice_get w.nodes x) (λ n. turn_own w x n.core n.queue)
step_own w (Send x d) = node_own x (send_of w x d) (slice_get w.nodes x) (λ n. send_own w x d n.core n.queue)
step_own w (Ask x d) = node_own x (ask_of w x d) (slice_get w.nodes x) (λ n. ask_own w x d n.core n.queue)
step_own w (Link a b) = if_case (IsOwn 0) (are_linked w.links a b) Idle (Next (with_link w a b) Changed) (λ _. idle_own 0) (λ _. next_own 0 (with_link w a b) Changed)
step_own w (Cut a b) = if_case (IsOwn 0) (are_linked w.links a b) (Next (without_link w a b) Changed) Idle (λ _. next_own 0 (without_link w a b) Changed) (λ _. idle_own 0)
step_own w (Deliver id) = copy_own 0 (λ c. push (without_copy w id) c.to (Heard c.from c.message)) (λ c. CopyHeard c.from c.to) (find_copy w.flying id)
step_own w (Lose id) = copy_own 0 (λ c. without_copy w id) CopyLost (find_copy w.flying id)
step_own w (Double id) = copy_own 0 (with_double w) (λ c. CopyDoubled w.next_copy c.to (is_parcel c.message)) (find_copy w.flying id)
