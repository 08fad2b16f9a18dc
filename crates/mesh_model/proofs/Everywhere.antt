-- What holds of each node and of each message in flight, after every step.
use Rattle.std.proofs.Common.{◌≡◌, ℕ, true, ◌==◌, List, [], ◌∷◌, ◌++◌, set, Some, None, Option, refl, subst}
use Rattle.std.specs.Prelude.{slice_get}
use Rattle.std.specs.List.{AllByRecursion}
use Rattle.aodv_model.specs.Cores.{Body, Core, Heard, Item, Message, New}
use Rattle.aodv_model.specs.Fullness.{ask_full, send_full, turn_full}
use Rattle.aodv_model.specs.Handlers.{Cast, Reaction, ask, may_ask, may_send, send, turn}
use Rattle.mesh_model.proofs.Cases.{by_cases}
use Rattle.mesh_model.proofs.Copies.{Carries, each_copy}
use Rattle.mesh_model.proofs.Lists.{each_append}
use Rattle.mesh_model.proofs.Steps.{each_node, found_honest, without_honest}
use Rattle.mesh_model.specs.Worlds.{Copy, Event, Node, World, after, done_by, double_of, push, range, step, with_double, with_item, with_link, without_copy, without_link}

-- N holds of each node, and M of the message of each copy in flight
pub record Everywhere (N : ℕ → Node → Type 0) (M : Message → Type 0) (w : World) : Type 0 where
  pub nodes : (x : ℕ) (n : Node) → slice_get w.nodes x ≡ Some n → N x n
  pub flying : AllByRecursion (λ (c : Copy). M c.message) w.flying

-- the node with one more item in its queue
abbrev pub with_last : Node → Item → Node
with_last n item = record n { queue = n.queue ++ item ∷ [] }

-- what a step of w owes so that N', where N held before, holds of each node, and M of each message:
-- C says of a cast that M holds of its message
pub record KeepsAll (N N' : ℕ → Node → Type 0) (M : Message → Type 0) (C : Cast → Type 0) (w : World) : Type 0 where
  pub carries : Carries C M
  pub same : (x : ℕ) (n : Node) → N x n → N' x n
  pub given : (x d : ℕ) (b : Body) (n : Node) → N x n → N' x (with_last n (New b d))
  pub heard : (x from : ℕ) (m : Message) (n : Node) → M m → N x n → N' x (with_last n (Heard from m))
  pub taken : (x : ℕ) (core : Core) (item : Item) (items : List Item) → slice_get w.nodes x ≡ Some (record { core = core; queue = item ∷ items }) → turn_full core (range w x) item ≡ None
      → let did = turn core (range w x) item in N' x (record { core = did.core; queue = items }) × C (did.effect).cast
  pub sent : (x d : ℕ) (n : Node) → slice_get w.nodes x ≡ Some n → may_send n.core d ≡ true → send_full n.core (range w x) d ≡ None
      → let did = send n.core (range w x) d in N' x (record { core = did.core; queue = n.queue }) × C (did.effect).cast
  pub asked : (x d : ℕ) (n : Node) → slice_get w.nodes x ≡ Some n → may_ask n.core d ≡ true → ask_full n.core ≡ None
      → let did = ask n.core d in N' x (record { core = did.core; queue = n.queue }) × C (did.effect).cast

module _ (N N' : ℕ → Node → Type 0) (M : Message → Type 0) (others : (x : ℕ) (n : Node) → N x n → N' x n) where
  -- a world in which one node has become another
  one_changed : (w w' : World) (x : ℕ) (old new : Node) → Everywhere N M w → slice_get w.nodes x ≡ Some old → w'.nodes ≡ set w.nodes x new → N' x new → AllByRecursion (λ (c : Copy). M c.message) w'.flying → Everywhere N' M w'
  one_changed w w' x old new all is nodes here flying = record {
    nodes = λ y n found. each_node N' w.nodes x old new is here (λ y n there. others y n (all.nodes y n there)) y n (y == x) refl (subst (λ ns. slice_get ns y ≡ Some n) nodes found);
    flying = flying;
  }

  none_changed : (w w' : World) → w'.nodes ≡ w.nodes → Everywhere N M w → AllByRecursion (λ (c : Copy). M c.message) w'.flying → Everywhere N' M w'
  none_changed w w' nodes all flying = record { nodes = λ x n found. others x n (all.nodes x n (subst (λ ns. slice_get ns x ≡ Some n) nodes found)); flying = flying }

  all_done : (C : Cast → Type 0) → Carries C M → (w : World) (x : ℕ) (n : Node) (did : Reaction) (queue : List Item) → Everywhere N M w → slice_get w.nodes x ≡ Some n → N' x (record { core = did.core; queue = queue }) × C (did.effect).cast
      → Everywhere N' M (done_by w x did queue)
  unfolding done_by
  all_done C carries w x n did queue all is now =
      one_changed w (done_by w x did queue) x n (record { core = did.core; queue = queue }) all is refl now.0
      (each_append (λ (c : Copy). M c.message) w.flying _ all.flying (each_copy (λ (c : Copy). M c.message) C carries w x (did.effect).cast now.1 (λ id to m near is. is)))

  all_pushed : (w : World) (x : ℕ) (item : Item) → Everywhere N M w → ((n : Node) → N x n → N' x (with_last n item)) → Everywhere N' M (push w x item)
  unfolding push
  all_pushed w x item all joins = by (slice_get w.nodes x) refl
    where
      by : (o : Option Node) → slice_get w.nodes x ≡ o → Everywhere N' M (with_item w x o item)
      by None is = none_changed w w refl all all.flying
      by (Some n) is = one_changed w (with_item w x (Some n) item) x n (with_last n item) all is refl (joins n (all.nodes x n is)) all.flying

-- the flight without one
lighter : (N : ℕ → Node → Type 0) (M : Message → Type 0) (w : World) (id : ℕ) → Everywhere N M w → Everywhere N M (without_copy w id)
lighter N M w id all = none_changed N N M (λ x n is. is) w (without_copy w id) refl all (without_honest (λ (c : Copy). M c.message) w.flying id all.flying)

pub step_everywhere : {N N' : ℕ → Node → Type 0} {M : Message → Type 0} {C : Cast → Type 0} (w : World) (e : Event) → Everywhere N M w → KeepsAll N N' M C w → Everywhere N' M (after w (step w e))
step_everywhere {N} {N'} {M} {C} w e all keeps = by_cases w (λ e o. Everywhere N' M (after w o)) (record {
  idle = λ e none. none_changed N N' M keeps.same w w refl all all.flying;
  full = λ e x n f is full. none_changed N N' M keeps.same w w refl all all.flying;
  given = λ x d b n is. all_pushed N N' M keeps.same w x (New b d) all (keeps.given x d b);
  taken = λ x core item items is free. all_done N N' M keeps.same C keeps.carries w x _ (turn core (range w x) item) items all is (keeps.taken x core item items is free);
  sent = λ x d n is may free. all_done N N' M keeps.same C keeps.carries w x n (send n.core (range w x) d) n.queue all is (keeps.sent x d n is may free);
  asked = λ x d n is may free. all_done N N' M keeps.same C keeps.carries w x n (ask n.core d) n.queue all is (keeps.asked x d n is may free);
  linked = λ a b apart. none_changed N N' M keeps.same w (with_link w a b) refl all all.flying;
  cut = λ a b stands. none_changed N N' M keeps.same w (without_link w a b) refl all all.flying;
  heard = λ id c is. all_pushed N N' M keeps.same (without_copy w id) c.to (Heard c.from c.message) (lighter N M w id all)
      (λ n. keeps.heard c.to c.from c.message n (found_honest (λ (c : Copy). M c.message) w.flying id c all.flying is));
  lost = λ id c is. none_changed N N' M keeps.same w (without_copy w id) refl all (lighter N M w id all).flying;
  doubled = λ id c is. none_changed N N' M keeps.same w (with_double w c) refl all
      (each_append (λ (c : Copy). M c.message) w.flying (double_of w c ∷ []) all.flying (found_honest (λ (c : Copy). M c.message) w.flying id c all.flying is, tt));
}) e
