-- No event changes the number of nodes.
use Rattle.std.proofs.Common.{◌≡◌, ℕ, ◌+◌, arith, List, [], ◌∷◌, length, length-set, Some, None, Option, refl, ◌∙◌}
use Rattle.std.specs.Prelude.{slice_get}
use Rattle.mesh_base.specs.declared.events.Variant.{Variant}
use Rattle.aodv_model.specs.Cores.{Item, New, Heard}
use Rattle.aodv_model.specs.Handlers.{Reaction, turn, send, ask}
use Rattle.mesh_model.proofs.Cases.{by_cases}
use Rattle.mesh_model.specs.Worlds.{World, Node, Event, range, done_by, push, with_item, without_copy, step, after, run, openings, start}

done_same : (w : World) (x : ℕ) (did : Reaction) (queue : List Item) → length (done_by w x did queue).nodes ≡ length w.nodes
unfolding done_by
done_same w x did queue = length-set w.nodes x (record { core = did.core; queue = queue })

push_same : (w : World) (x : ℕ) (item : Item) → length (push w x item).nodes ≡ length w.nodes
unfolding push
push_same w x item = by (slice_get w.nodes x)
  where
    by : (o : Option Node) → length (with_item w x o item).nodes ≡ length w.nodes
    by None = refl
    by (Some n) = length-set w.nodes x _

pub same_size : (w : World) (e : Event) → length (after w (step w e)).nodes ≡ length w.nodes
same_size w e = by_cases w (λ e o. length (after w o).nodes ≡ length w.nodes) (record {
  idle = λ e none. refl;
  full = λ e x n f is full. refl;
  given = λ x d b n is. push_same w x (New b d);
  taken = λ x core item items is free. done_same w x (turn core (range w x) item) items;
  sent = λ x d n is may free. done_same w x (send n.core (range w x) d) n.queue;
  asked = λ x d n is may free. done_same w x (ask n.core d) n.queue;
  linked = λ a b apart. refl;
  cut = λ a b stands. refl;
  heard = λ id c is. push_same (without_copy w id) c.to (Heard c.from c.message);
  lost = λ id c is. refl;
  doubled = λ id c is. refl;
}) e

pub run_size : (w : World) (es : List Event) → length (run w es).nodes ≡ length w.nodes
unfolding run
run_size w [] = refl
run_size w (e ∷ es) = run_size (after w (step w e)) es ∙ same_size w e

openings_size : (v : Variant) (ip : ℕ) (firsts : List ℕ) → length (openings v ip firsts) ≡ length firsts
openings_size v ip [] = refl
openings_size v ip (first ∷ firsts) = omega (arith, openings_size v (ip + 1) firsts)

pub start_size : (v : Variant) (firsts : List ℕ) → length (start v firsts).nodes ≡ length firsts
unfolding start
start_size v firsts = openings_size v 0 firsts
