-- Every step keeps each number within its field, and the ids of each node's own requests within its own number.
use Rattle.std.proofs.Common.{◌≡◌, ℕ, zero, suc, ◌+◌, ◌<◌, ◌≤◌, length, get_or, true, List, [], ◌∷◌, Some, ap, sym, ◌∙◌, subst, arith}
use Rattle.std.specs.Prelude.{slice_get}
use Rattle.std.specs.List.{AllByRecursion}
use Rattle.std.proofs.lemmas.Option.{none-some, same_Some}
use Rattle.std.proofs.lemmas.List.{get_or_default}
use Rattle.std.proofs.lemmas.List.Elements.{recursion_from_All}
use Rattle.mesh_base.specs.declared.events.Variant.{Variant}
use Rattle.mesh_base.specs.Meshes.{Nodes, IsMesh, first_at}
use Rattle.aodv_model.proofs.Numbers.{IsCastWithin, IsCoreWithin, IsItemWithin, IsMessageWithin, IsReactionWithin, KnowsOwn, ask_below, ask_keeps, free_send_keeps, free_turn_keeps, opening_within}
use Rattle.aodv_model.specs.Cores.{Heard, Item, New, Pkt, Rerr, Rrep, Rreq, has_seen}
use Rattle.aodv_model.specs.Fullness.{greatest}
use Rattle.aodv_model.specs.Handlers.{ask, key_of, send, turn}
use Rattle.mesh_model.proofs.Everywhere.{Everywhere, step_everywhere}
use Rattle.mesh_model.proofs.Lists.{each_append}
use Rattle.mesh_model.proofs.Steps.{step_kept}
use Rattle.mesh_model.proofs.TrailSteps.{step_trails}
use Rattle.mesh_model.specs.Invariants.{IsLoopSafe}
use Rattle.mesh_model.specs.Trails.{Around, HasRequestWalk, HasWalks, IsBackedWalk, ItemHasWalk, NodeHasWalks, around, seen_in}
use Rattle.mesh_model.specs.Worlds.{Copy, Event, Node, World, after, first_numbers, openings, range, run, start, step}

pub record IsNodeWithin (x : ℕ) (n : Node) : Type 0 where
  pub core : IsCoreWithin greatest x n.core
  pub queue : AllByRecursion (IsItemWithin greatest) n.queue

abbrev pub IsCopyWithin : Copy → Type 0
IsCopyWithin c = IsMessageWithin greatest c.message

abbrev pub IsWithin : World → Type 0
IsWithin w = Everywhere IsNodeWithin (IsMessageWithin greatest) w

-- ---- a node knows its own requests again

-- the last node of the walk of a request has seen it
origin_knows : (a : Around) (d n : ℕ) (key : ℕ × ℕ) (x : ℕ) (others : List ℕ) → IsBackedWalk a d n (x ∷ others) → AllByRecursion (λ z. has_seen (a.seen z) key ≡ true) (x ∷ others) → has_seen (a.seen d) key ≡ true
origin_knows a d n key x [] walk keys = subst (λ z. has_seen (a.seen z) key ≡ true) walk keys.0
origin_knows a d n key x (y ∷ ys) walk keys = origin_knows a d n key y ys walk.4 keys.1

knows_own : (v : Variant) (w : World) (x : ℕ) (n : Node) (item : Item) → HasWalks v w → slice_get w.nodes x ≡ Some n → ItemHasWalk (around v w) x item → KnowsOwn x n.core item
knows_own v w x n (New b d) trails is t = tt
knows_own v w x n (Heard from (Pkt b d o)) trails is t = tt
knows_own v w x n (Heard from (Rreq m)) trails is t = λ e.
    let r : HasRequestWalk (around v w) from m.oip m.osn m.hops (key_of v m) = t.1 in
    let p : NodeHasWalks (around v w) x n = trails.nodes x n is in
    subst (λ k. has_seen (n.core).seen (key_of k m) ≡ true) (sym p.variant)
    (subst (λ o. has_seen (seen_in o) (key_of v m) ≡ true) (ap (slice_get w.nodes) e ∙ is) (origin_knows (around v w) m.oip m.osn (key_of v m) from r.others r.walk r.keys))
knows_own v w x n (Heard from (Rrep m)) trails is t = tt
knows_own v w x n (Heard from (Rerr dests)) trails is t = tt

-- ---- steps

pub step_within : (v : Variant) (w : World) (e : Event) → IsLoopSafe w → HasWalks v w → IsWithin w → IsWithin (after w (step w e))
step_within v w e inv trails all = step_everywhere {C = IsCastWithin greatest} w e all (record {
  carries = record { one = λ y m is. is; many = λ s m is. is; all = λ m is. is };
  same = λ x n p. p;
  given = λ x d b n p. record { core = p.core; queue = each_append (IsItemWithin greatest) n.queue (New b d ∷ []) p.queue (tt, tt) };
  heard = λ x from m n within p. record { core = p.core; queue = each_append (IsItemWithin greatest) n.queue (Heard from m ∷ []) p.queue (within, tt) };
  taken = λ x core item items is free.
      let n : Node = record { core = core; queue = item ∷ items } in
      let p : IsNodeWithin x n = all.nodes x n is in
      let now : IsReactionWithin greatest x (turn core (range w x) item) = free_turn_keeps x core (range w x) item p.core p.queue.0 (knows_own v w x n item trails is (trails.nodes x n is).queue.0) free in
      (record { core = now.core; queue = p.queue.1 }, now.cast);
  sent = λ x d n is may free.
      let p : IsNodeWithin x n = all.nodes x n is in
      let now : IsReactionWithin greatest x (send n.core (range w x) d) = free_send_keeps x n.core (range w x) d p.core free in
      (record { core = now.core; queue = p.queue }, now.cast);
  asked = λ x d n is may free.
      let p : IsNodeWithin x n = all.nodes x n is in
      let now : IsReactionWithin greatest x (ask n.core d) = ask_keeps greatest x n.core d p.core (inv.nodes x n is).numbers.own (ask_below n.core free) in
      (record { core = now.core; queue = p.queue }, now.cast);
})

-- ---- runs

pub run_within : (v : Variant) (w : World) (es : List Event) → IsLoopSafe w → HasWalks v w → IsWithin w → IsWithin (run w es)
unfolding run
run_within v w [] inv trails all = all
run_within v w (e ∷ es) inv trails all = run_within v (after w (step w e)) es (step_kept w e inv) (step_trails v w e inv trails) (step_within v w e inv trails all)

opening_node : (v : Variant) (ip : ℕ) (firsts : List ℕ) → AllByRecursion (λ n. (1 ≤ n) × (n ≤ greatest)) firsts → (x : ℕ) (n : Node) → slice_get (openings v ip firsts) x ≡ Some n → IsNodeWithin (ip + x) n
opening_node v ip [] all x n is = absurd (none-some n is)
opening_node v ip (first ∷ firsts) all zero n is =
    subst (λ k. IsNodeWithin k n) (there ip) (subst (IsNodeWithin ip) (same_Some _ n is) (record { core = opening_within greatest v ip first all.0.1; queue = tt }))
  where
    there : (i : ℕ) → i ≡ i + 0
    there i = omega arith
opening_node v ip (first ∷ firsts) all (suc x) n is = subst (λ k. IsNodeWithin k n) (next x) (opening_node v (ip + 1) firsts all.1 x n is)
  where
    next : (x : ℕ) → ip + 1 + x ≡ ip + suc x
    next x = omega arith

-- the first numbers of a mesh
pub firsts_within : (mesh : Nodes) → IsMesh mesh → AllByRecursion (λ n. (1 ≤ n) × (n ≤ greatest)) (first_numbers mesh)
firsts_within mesh is = through mesh (recursion_from_All (λ p. (1 ≤ p.1) × (p.1 ≤ greatest)) mesh (λ k d lt. same mesh k d lt (is.positive k lt, omega (arith, is.firsts k lt))))
  where
    same : (mesh : Nodes) (k : ℕ) (d : ℕ × ℕ) → k < length mesh → (1 ≤ first_at mesh k) × (first_at mesh k ≤ greatest) → (1 ≤ (get_or mesh k d).1) × ((get_or mesh k d).1 ≤ greatest)
    same mesh k d lt one = rw (get_or_default mesh k d (0, 0) lt) one

    through : (mesh : Nodes) → AllByRecursion (λ p. (1 ≤ p.1) × (p.1 ≤ greatest)) mesh → AllByRecursion (λ n. (1 ≤ n) × (n ≤ greatest)) (first_numbers mesh)
    through [] all = tt
    through (p ∷ ps) all = (all.0, through ps all.1)

pub start_within : (v : Variant) (firsts : List ℕ) → AllByRecursion (λ n. (1 ≤ n) × (n ≤ greatest)) firsts → IsWithin (start v firsts)
unfolding start
start_within v firsts all = record { nodes = λ x n is. subst (λ k. IsNodeWithin k n) (from_0 x) (opening_node v 0 firsts all x n is); flying = tt }
  where
    from_0 : (x : ℕ) → 0 + x ≡ x
    from_0 x = omega arith
