-- An event raises the next copy's number by at most the most nodes.
use Rattle.std.proofs.Common.{ℕ, ◌+◌, ◌≤◌, List, length, ap, arith}
use Rattle.mesh_base.specs.declared.limits.TheConstants.{MOST_NODES}
use Rattle.aodv_model.specs.Cores.{Item, New, Heard}
use Rattle.aodv_model.specs.Handlers.{Reaction, turn, send, ask}
use Rattle.mesh_model.proofs.Cases.{by_cases, push_is}
use Rattle.mesh_model.proofs.Copies.{copies_few}
use Rattle.mesh_model.specs.Worlds.{World, Event, range, done_by, push, without_copy, step, after}

pushed : (w : World) (x : ℕ) (item : Item) → (push w x item).next_copy ≤ w.next_copy + MOST_NODES
pushed w x item = let e = ap (λ (v : World). v.next_copy) (push_is w x item) in omega arith

done_few : (w : World) (x : ℕ) (did : Reaction) (queue : List Item) → length w.nodes ≤ MOST_NODES → (done_by w x did queue).next_copy ≤ w.next_copy + MOST_NODES
unfolding done_by
done_few w x did queue few = let more = copies_few w x (did.effect).cast in omega arith

pub few_copies : (w : World) (e : Event) → length w.nodes ≤ MOST_NODES → (after w (step w e)).next_copy ≤ w.next_copy + MOST_NODES
few_copies w e few = by_cases w (λ e o. (after w o).next_copy ≤ w.next_copy + MOST_NODES) (record {
  idle = λ e none. omega arith;
  full = λ e x n f is full. omega arith;
  given = λ x d b n is. pushed w x (New b d);
  taken = λ x core item items is free. done_few w x (turn core (range w x) item) items few;
  sent = λ x d n is may free. done_few w x (send n.core (range w x) d) n.queue few;
  asked = λ x d n is may free. done_few w x (ask n.core d) n.queue few;
  linked = λ a b apart. omega arith;
  cut = λ a b stands. omega arith;
  heard = λ id c is. pushed (without_copy w id) c.to (Heard c.from c.message);
  lost = λ id c is. omega arith;
  doubled = λ id c is. omega arith;
}) e
