-- Every step keeps the hops of all entries and messages, and the ids of all requests, within their
-- fields, and puts at most one item into a queue.
use Rattle.std.proofs.Common.{◌≡◌, ℕ, zero, suc, ◌+◌, ◌≤◌, List, [], ◌∷◌, length, length-append, Some, subst, arith}
use Rattle.std.specs.Prelude.{slice_get}
use Rattle.std.specs.List.{AllByRecursion}
use Rattle.std.proofs.lemmas.Option.{none-some, same_Some}
use Rattle.mesh_base.specs.declared.events.Variant.{Variant}
use Rattle.aodv_model.specs.Cores.{Heard, Item, New}
use Rattle.aodv_model.specs.Handlers.{ask, send, turn}
use Rattle.mesh_model.proofs.Everywhere.{Everywhere, step_everywhere, with_last}
use Rattle.mesh_model.proofs.Lists.{each_append}
use Rattle.mesh_model.proofs.NumberSteps.{IsWithin}
use Rattle.mesh_model.specs.Worlds.{Event, Node, World, after, openings, range, start, step}
use Rattle.mesh_capture.proofs.Fields.{IsFitting, IsFittingItem, IsFittingCast, IsFittingCore, IsFittingReaction, turn_fits, send_fits, ask_fits, opening_fits}

-- a node whose queue has at most k items
pub record IsFittingNode (k : ℕ) (n : Node) : Type 0 where
  pub core : IsFittingCore n.core
  pub items : AllByRecursion IsFittingItem n.queue
  pub few : length n.queue ≤ k

abbrev pub AreFitting : ℕ → World → Type 0
AreFitting k w = Everywhere (λ x n. IsFittingNode k n) IsFitting w

-- one more item
item_fits : (k : ℕ) (n : Node) (item : Item) → IsFittingItem item → IsFittingNode k n → IsFittingNode (k + 1) (with_last n item)
item_fits k n item fits is =
    let few = is.few in
    let long = length-append n.queue (item ∷ []) in
    record { core = is.core; items = each_append IsFittingItem n.queue (item ∷ []) is.items (fits, tt); few = omega arith }

pub step_fit : (k : ℕ) (w : World) (e : Event) → IsWithin w → AreFitting k w → AreFitting (k + 1) (after w (step w e))
step_fit k w e within all = step_everywhere {N = λ x n. IsFittingNode k n} {N' = λ x n. IsFittingNode (k + 1) n} {C = IsFittingCast} w e all (record {
  carries = record { one = λ y m is. is; many = λ s m is. is; all = λ m is. is };
  same = λ x n is. let few = is.few in record { core = is.core; items = is.items; few = omega arith };
  given = λ x d b n is. item_fits k n (New b d) tt is;
  heard = λ x from m n fits is. item_fits k n (Heard from m) fits is;
  taken = λ x core item items is free.
      let n : Node = record { core = core; queue = item ∷ items } in
      let p : IsFittingNode k n = all.nodes x n is in
      let few = p.few in
      let now : IsFittingReaction (turn core (range w x) item) = turn_fits core (range w x) item p.core p.items.0 (within.nodes x n is).queue.0 free in
      (record { core = now.core; items = p.items.1; few = omega arith }, now.cast);
  sent = λ x d n is may free.
      let p : IsFittingNode k n = all.nodes x n is in
      let few = p.few in
      let now : IsFittingReaction (send n.core (range w x) d) = send_fits n.core (range w x) d p.core in
      (record { core = now.core; items = p.items; few = omega arith }, now.cast);
  asked = λ x d n is may free.
      let p : IsFittingNode k n = all.nodes x n is in
      let few = p.few in
      let now : IsFittingReaction (ask n.core d) = ask_fits n.core x d (within.nodes x n is).core p.core free in
      (record { core = now.core; items = p.items; few = omega arith }, now.cast);
})

-- ---- before the first event

opening_node : (v : Variant) (ip : ℕ) (firsts : List ℕ) (x : ℕ) (n : Node) → slice_get (openings v ip firsts) x ≡ Some n → IsFittingNode 0 n
opening_node v ip [] x n is = absurd (none-some n is)
opening_node v ip (first ∷ firsts) zero n is = subst (IsFittingNode 0) (same_Some _ n is) (record { core = opening_fits v ip first; items = tt; few = omega arith })
opening_node v ip (first ∷ firsts) (suc x) n is = opening_node v (ip + 1) firsts x n is

node_at_least : (k : ℕ) (n : Node) → IsFittingNode 0 n → IsFittingNode k n
node_at_least k n is = let few = is.few in record { core = is.core; items = is.items; few = omega arith }

pub start_fits : (k : ℕ) (v : Variant) (firsts : List ℕ) → AreFitting k (start v firsts)
unfolding start
start_fits k v firsts = record { nodes = λ x n is. node_at_least k n (opening_node v 0 firsts x n is); flying = tt }
