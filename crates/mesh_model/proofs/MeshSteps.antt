-- Every event of the mesh keeps what a world names in the mesh.
use Rattle.std.proofs.Common.{◌≡◌, ◌≢◌, ℕ, zero, suc, ◌+◌, ◌<◌, ◌≤◌, Bool, true, false, cond, not, ◌||◌, ◌==◌, List, [], ◌∷◌, ◌++◌, set, length, Some, None, Option, refl, ap, sym, ◌∙◌, subst, arith, length-set}
use Rattle.std.specs.Prelude.{slice_get, min, max, filter}
use Rattle.std.specs.List.{AllByRecursion}
use Rattle.std.specs.Ordering.{nat_cmp, eq_by_cmp}
use Rattle.std.specs.Cmp.{Equal-is}
use Rattle.std.proofs.lemmas.Option.{slice_get_within}
use Rattle.std.specs.FinSet as sets
use Rattle.std.specs.FinMap as maps
use Rattle.std.proofs.lemmas.Option.{none-some, same_Some}
use Rattle.std.proofs.Math.Bool.{or-true}
use Rattle.mesh_base.specs.declared.events.Variant.{Variant}
use Rattle.mesh_model.proofs.Cases.{by_cases}
use Rattle.mesh_model.specs.Invariants.{IsInvariant}
use Rattle.mesh_model.specs.Worlds.{openings, start, run}
use Rattle.mesh_model.proofs.Steps.{step_kept, start_kept}
use Rattle.mesh_model.proofs.Sizes.{same_size, run_size, start_size}
use Rattle.aodv_model.proofs.PairLaws.{pair_cmp_total, same_pair}
use Rattle.aodv_model.proofs.SoundTurns.{Settles, Stands, ask_settles, send_settles, sound_of, turn_settles}
use Rattle.aodv_model.specs.Cores.{Heard, Item, Message, New}
use Rattle.aodv_model.specs.Handlers.{All, Cast, Many, Nothing, One, Reaction, ask, send, turn}
use Rattle.aodv_model.specs.Pairs.{Pairs, pair_cmp}
use Rattle.aodv_model.specs.Soundness.{IsCastInMesh, IsItemInMesh, IsSoundCore, IsSoundTable}
pub use Rattle.mesh_model.proofs.Copies.{each_receiver, range_has, receivers_in}
use Rattle.mesh_model.proofs.Copies.{each_copy, second}
use Rattle.mesh_model.proofs.Lists.{each_append}
use Rattle.mesh_model.proofs.Steps.{each_node, found_honest, without_honest}
use Rattle.mesh_model.specs.InMesh.{AreLinks, AreNumbered, IsCopyInMesh, IsEvent, IsInMesh, IsNodeInMesh}
use Rattle.mesh_model.specs.Worlds.{Copy, Event, Node, World, after, are_linked, copies, copies_of, copies_to, done_by, double_of, members_below, pair, push, range, receivers, step, with_double, with_item, with_link, without, without_copy, without_link}

linked_apart : (size : ℕ) (links : Pairs) (x y : ℕ) → AreLinks size links → are_linked links x y ≡ true → x ≢ y
linked_apart size links x y are is = let e : min x y < max x y = (are (pair x y) is).0 in λ same. omega arith

-- a link more between two nodes of the mesh
pub linked_more : (size : ℕ) (links : Pairs) (a b : ℕ) → a < size → b < size → a ≢ b → AreLinks size links → AreLinks size (sets.insert links (pair a b))
linked_more size links a b la lb differ are p is = at (eq_by_cmp pair_cmp p (pair a b)) refl (sym (sets.contains-insert pair_cmp_total links (pair a b) p) ∙ is)
  where
    mine : (min a b < max a b) × (max a b < size)
    mine = (omega arith, omega arith)

    at : (c : Bool) → eq_by_cmp pair_cmp p (pair a b) ≡ c → (c || sets.contains links p) ≡ true → (p.0 < p.1) × (p.1 < size)
    at true e o = let same : p ≡ pair a b = same_pair p (pair a b) ((Equal-is (pair_cmp p (pair a b))).0 e) in subst (λ (q : ℕ × ℕ). (q.0 < q.1) × (q.1 < size)) (sym same) mine
    at false e o = are p o

pub has_fewer : (links : Pairs) (q p : ℕ × ℕ) → sets.contains (sets.remove links q) p ≡ true → sets.contains links p ≡ true
has_fewer links q p is = second _ (sets.contains links p) (sym (sets.contains-remove pair_cmp_total links q p) ∙ is)

pub has_more : (s : Pairs) (k p : ℕ × ℕ) → sets.contains s p ≡ true → sets.contains (sets.insert s k) p ≡ true
has_more s k p e = sets.contains-insert pair_cmp_total s k p ∙ (ap (λ b. eq_by_cmp pair_cmp p k || b) e ∙ or-true (eq_by_cmp pair_cmp p k))

pub both_more : (s t : Pairs) (k p : ℕ × ℕ) → (sets.contains s p ≡ true → sets.contains t p ≡ true) → sets.contains (sets.insert s k) p ≡ true → sets.contains (sets.insert t k) p ≡ true
both_more s t k p more e = sets.contains-insert pair_cmp_total t k p ∙ at (eq_by_cmp pair_cmp p k) (sym (sets.contains-insert pair_cmp_total s k p) ∙ e)
  where
    at : (b : Bool) → (b || sets.contains s p) ≡ true → (b || sets.contains t p) ≡ true
    at true e = refl
    at false e = more e

-- ---- copies

copies_placed : (w : World) (x : ℕ) (c : Cast) → IsInMesh w → x < length w.nodes → IsCastInMesh (length w.nodes) c → AllByRecursion (IsCopyInMesh (length w.nodes)) (copies w x c)
copies_placed w x c places lx inside =
    each_copy (IsCopyInMesh (length w.nodes)) (IsCastInMesh (length w.nodes)) (record { one = λ y m is. is; many = λ s m is. is; all = λ m is. is }) w x c inside
    (λ id to m near is. let r = range_has w x to near in (lx, r.0, linked_apart (length w.nodes) w.links x to places.links r.1, is))

numbered_down : (low mid next : ℕ) (cs : List Copy) → low ≤ mid → AreNumbered mid cs next → AreNumbered low cs next
numbered_down low mid next [] le all = omega arith
numbered_down low mid next (c ∷ cs) le all = (omega arith, all.1)

pub numbered_append : (low mid next : ℕ) (cs ds : List Copy) → AreNumbered low cs mid → AreNumbered mid ds next → AreNumbered low (cs ++ ds) next
numbered_append low mid next [] ds all more = numbered_down low mid next ds all more
numbered_append low mid next (c ∷ cs) ds all more = (all.0, numbered_append (c.id + 1) mid next cs ds all.1 more)

kept_numbered : (low next : ℕ) (b : Bool) (c : Copy) (cs : List Copy) → low ≤ c.id → AreNumbered (c.id + 1) cs next → AreNumbered low (cond b (c ∷ cs) cs) next
kept_numbered low next true c cs le all = (le, all)
kept_numbered low next false c cs le all = numbered_down low (c.id + 1) next cs (omega arith) all

pub filter_numbered : (low next : ℕ) (test : Copy → Bool) (cs : List Copy) → AreNumbered low cs next → AreNumbered low (filter test cs) next
filter_numbered low next test [] all = all
filter_numbered low next test (c ∷ cs) all = kept_numbered low next (test c) c (filter test cs) all.0 (filter_numbered (c.id + 1) next test cs all.1)

copies_to_numbered : (tos : List ℕ) (id x : ℕ) (m : Message) → AreNumbered id (copies_to tos id x m) (id + length (copies_to tos id x m))
copies_to_numbered [] id x m = omega arith
copies_to_numbered (to ∷ tos) id x m = (omega arith, subst (AreNumbered (id + 1) (copies_to tos (id + 1) x m)) (later (length (copies_to tos (id + 1) x m))) (copies_to_numbered tos (id + 1) x m))
  where
    later : (n : ℕ) → id + 1 + n ≡ id + suc n
    later n = omega arith

copies_of_numbered : (c : Cast) (tos : List ℕ) (id x : ℕ) → AreNumbered id (copies_of c tos id x) (id + length (copies_of c tos id x))
copies_of_numbered Nothing tos id x = omega arith
copies_of_numbered (One y m) tos id x = copies_to_numbered tos id x m
copies_of_numbered (Many s m) tos id x = copies_to_numbered tos id x m
copies_of_numbered (All m) tos id x = copies_to_numbered tos id x m

pub copies_numbered : (w : World) (x : ℕ) (c : Cast) → AreNumbered w.next_copy (copies w x c) (w.next_copy + length (copies w x c))
unfolding copies
copies_numbered w x c = copies_of_numbered c (members_below (length w.nodes) (receivers (range w x) c)) w.next_copy x

-- ---- worlds

-- a world in which one node has become another
node_placed : (w w' : World) (x : ℕ) (old new : Node) → IsInMesh w → slice_get w.nodes x ≡ Some old → w'.nodes ≡ set w.nodes x new → w'.links ≡ w.links → w'.ever ≡ w.ever → IsNodeInMesh (length w.nodes) x new
    → AllByRecursion (IsCopyInMesh (length w.nodes)) w'.flying → AreNumbered 1 w'.flying w'.next_copy → IsInMesh w'
node_placed w w' x old new places is nodes links ever placed flying numbered =
    let size : length w'.nodes ≡ length w.nodes = ap length nodes ∙ length-set w.nodes x new in
    record {
      nodes = λ y n found. each_node (λ y n. IsNodeInMesh (length w'.nodes) y n) w.nodes x old new is (subst (λ k. IsNodeInMesh k x new) (sym size) placed)
          (λ y n there. subst (λ k. IsNodeInMesh k y n) (sym size) (places.nodes y n there)) y n (y == x) refl (subst (λ ns. slice_get ns y ≡ Some n) nodes found);
      flying = subst (λ k. AllByRecursion (IsCopyInMesh k) w'.flying) (sym size) flying;
      numbered = numbered;
      links = subst (λ k. AreLinks k w'.links) (sym size) (subst (AreLinks (length w.nodes)) (sym links) places.links);
      ever = subst (λ k. AreLinks k w'.ever) (sym size) (subst (AreLinks (length w.nodes)) (sym ever) places.ever);
      stood = λ p e. subst (λ s. sets.contains s p ≡ true) (sym ever) (places.stood p (subst (λ s. sets.contains s p ≡ true) links e));
    }

same_placed : (w w' : World) → w'.nodes ≡ w.nodes → IsInMesh w → AllByRecursion (IsCopyInMesh (length w.nodes)) w'.flying → AreNumbered 1 w'.flying w'.next_copy → AreLinks (length w.nodes) w'.links → AreLinks (length w.nodes) w'.ever
    → ((p : ℕ × ℕ) → sets.contains w'.links p ≡ true → sets.contains w'.ever p ≡ true) → IsInMesh w'
same_placed w w' nodes places flying numbered links ever stood = record {
  nodes = λ x n found. subst (λ k. IsNodeInMesh k x n) (ap length (sym nodes)) (places.nodes x n (subst (λ ns. slice_get ns x ≡ Some n) nodes found));
  flying = subst (λ k. AllByRecursion (IsCopyInMesh k) w'.flying) (ap length (sym nodes)) flying;
  numbered = numbered;
  links = subst (λ k. AreLinks k w'.links) (ap length (sym nodes)) links;
  ever = subst (λ k. AreLinks k w'.ever) (ap length (sym nodes)) ever;
  stood = stood;
}

done_placed : (w : World) (x : ℕ) (n : Node) (did : Reaction) (queue : List Item) → IsInMesh w → slice_get w.nodes x ≡ Some n → Settles (length w.nodes) x did → AllByRecursion (IsItemInMesh (length w.nodes) x) queue → IsInMesh (done_by w x did queue)
unfolding done_by
done_placed w x n did queue places is settles items =
    let new : Node = record { core = did.core; queue = queue } in
    let s : Stands (length w.nodes) x did.core = settles.core in
    let lx : x < length w.nodes = slice_get_within w.nodes x n is in
    node_placed w (done_by w x did queue) x n new places is refl refl refl
    (record { named = s.named; core = sound_of (length w.nodes) x did.core s; store = s.store; queue = items })
    (each_append (IsCopyInMesh (length w.nodes)) w.flying _ places.flying (copies_placed w x (did.effect).cast places lx settles.cast))
    (numbered_append 1 w.next_copy _ w.flying _ places.numbered (copies_numbered w x (did.effect).cast))

item_placed : (w : World) (x : ℕ) (o : Option Node) (item : Item) → IsInMesh w → slice_get w.nodes x ≡ o → IsItemInMesh (length w.nodes) x item → IsInMesh (with_item w x o item)
item_placed w x None item places is inside = places
item_placed w x (Some n) item places is inside =
    let p : IsNodeInMesh (length w.nodes) x n = places.nodes x n is in
    node_placed w (with_item w x (Some n) item) x n (record n { queue = n.queue ++ item ∷ [] }) places is refl refl refl
    (record { named = p.named; core = p.core; store = p.store; queue = each_append (IsItemInMesh (length w.nodes) x) n.queue (item ∷ []) p.queue (inside, tt) })
    places.flying places.numbered

push_placed : (w : World) (x : ℕ) (item : Item) → IsInMesh w → IsItemInMesh (length w.nodes) x item → IsInMesh (push w x item)
unfolding push
push_placed w x item places inside = item_placed w x (slice_get w.nodes x) item places refl inside

-- ---- steps

-- a node's core is in order under its own address
pub own : (w : World) (x : ℕ) (n : Node) → IsInMesh w → slice_get w.nodes x ≡ Some n → Stands (length w.nodes) x n.core
own w x n places is =
    let p : IsNodeInMesh (length w.nodes) x n = places.nodes x n is in
    let s : IsSoundCore (length w.nodes) n.core = p.core in
    record { named = p.named; own = s.own; table = subst (λ k. IsSoundTable (length w.nodes) k (n.core).rt) p.named s.table; store = p.store }

without_numbered : (w : World) (id : ℕ) → IsInMesh w → AreNumbered 1 (without w.flying id) w.next_copy
unfolding without
without_numbered w id places = filter_numbered 1 w.next_copy (λ c. not (c.id == id)) w.flying places.numbered

-- the flight without one
lighter : (w : World) (id : ℕ) → IsInMesh w → IsInMesh (without_copy w id)
lighter w id places = same_placed w (without_copy w id) refl places (without_honest (IsCopyInMesh (length w.nodes)) w.flying id places.flying) (without_numbered w id places) places.links places.ever places.stood

pub step_placed : (w : World) (e : Event) → IsEvent (length w.nodes) e → IsInMesh w → IsInMesh (after w (step w e))
step_placed w e ok places = by_cases w (λ e o. IsEvent (length w.nodes) e → IsInMesh (after w o)) (record {
  idle = λ e none ok. places;
  full = λ e x n f is full ok. places;
  given = λ x d b n is ok. push_placed w x (New b d) places (ok.1, ok.2);
  taken = λ x core item items is free ok.
      let n : Node = record { core = core; queue = item ∷ items } in
      let p : IsNodeInMesh (length w.nodes) x n = places.nodes x n is in
      done_placed w x n (turn core (range w x) item) items places is (turn_settles (length w.nodes) x core (range w x) item (own w x n places is) p.queue.0) p.queue.1;
  sent = λ x d n is may free ok. done_placed w x n (send n.core (range w x) d) n.queue places is
      (send_settles (length w.nodes) x n.core (range w x) d (own w x n places is) (slice_get_within w.nodes x n is) may) (places.nodes x n is).queue;
  asked = λ x d n is may free ok. done_placed w x n (ask n.core d) n.queue places is (ask_settles (length w.nodes) x n.core d (own w x n places is) (slice_get_within w.nodes x n is) ok.1) (places.nodes x n is).queue;
  linked = λ a b apart ok. same_placed w (with_link w a b) refl places places.flying places.numbered
      (linked_more (length w.nodes) w.links a b ok.0 ok.1 ok.2 places.links) (linked_more (length w.nodes) w.ever a b ok.0 ok.1 ok.2 places.ever) (λ p e. both_more w.links w.ever (pair a b) p (places.stood p) e);
  cut = λ a b stands ok. same_placed w (without_link w a b) refl places places.flying places.numbered
      (λ p e. places.links p (has_fewer w.links (pair a b) p e)) places.ever (λ p e. places.stood p (has_fewer w.links (pair a b) p e));
  heard = λ id c is ok.
      let p : IsCopyInMesh (length w.nodes) c = found_honest (IsCopyInMesh (length w.nodes)) w.flying id c places.flying is in
      push_placed (without_copy w id) c.to (Heard c.from c.message) (lighter w id places) (p.0, p.2, p.3);
  lost = λ id c is ok. lighter w id places;
  doubled = λ id c is ok. same_placed w (with_double w c) refl places
      (each_append (IsCopyInMesh (length w.nodes)) w.flying (double_of w c ∷ []) places.flying (found_honest (IsCopyInMesh (length w.nodes)) w.flying id c places.flying is, tt))
      (numbered_append 1 w.next_copy (w.next_copy + 1) w.flying (double_of w c ∷ []) places.numbered (omega arith, omega arith)) places.links places.ever places.stood;
}) e ok

-- ---- runs

opening_placed : (size : ℕ) (v : Variant) (ip : ℕ) (firsts : List ℕ) → AllByRecursion (λ n. 1 ≤ n) firsts → (x : ℕ) (n : Node) → slice_get (openings v ip firsts) x ≡ Some n → IsNodeInMesh size (ip + x) n
opening_placed size v ip [] all x n is = absurd (none-some n is)
opening_placed size v ip (first ∷ firsts) all zero n is =
    subst (IsNodeInMesh size (ip + 0)) (same_Some _ n is) (record {
      named = omega arith;
      core = record { own = all.0; table = record { numbers = λ d e there. absurd (none-some e (sym (maps.get-empty nat_cmp d) ∙ there)); in_mesh = λ d e there. absurd (none-some e (sym (maps.get-empty nat_cmp d) ∙ there)) } };
      store = λ d s there. absurd (none-some s (sym (maps.get-empty nat_cmp d) ∙ there));
      queue = tt;
    })
opening_placed size v ip (first ∷ firsts) all (suc x) n is = subst (λ k. IsNodeInMesh size k n) (next x) (opening_placed size v (ip + 1) firsts all.1 x n is)
  where
    next : (x : ℕ) → ip + 1 + x ≡ ip + suc x
    next x = omega arith

pub start_placed : (v : Variant) (firsts : List ℕ) → AllByRecursion (λ n. 1 ≤ n) firsts → IsInMesh (start v firsts)
unfolding start
start_placed v firsts all = record {
  nodes = λ x n is. subst (λ k. IsNodeInMesh (length (openings v 0 firsts)) k n) (from_0 x) (opening_placed (length (openings v 0 firsts)) v 0 firsts all x n is);
  flying = tt;
  numbered = omega arith;
  links = λ p e. absurd (none p e);
  ever = λ p e. absurd (none p e);
  stood = λ p e. e;
}
  where
    from_0 : (x : ℕ) → 0 + x ≡ x
    from_0 x = omega arith

    none : (p : ℕ × ℕ) → sets.contains {R = pair_cmp} sets.empty p ≡ true → ⊥
    none p e = let f = sets.contains-empty pair_cmp p in cc

-- every event of the mesh keeps the invariant, and so does every run
pub step_keeps : (w : World) (e : Event) → IsEvent (length w.nodes) e → IsInvariant w → IsInvariant (after w (step w e))
step_keeps w e ok inv = record { loop_safe = step_kept w e inv.loop_safe; in_mesh = step_placed w e ok inv.in_mesh }

pub start_keeps : (v : Variant) (firsts : List ℕ) → AllByRecursion (λ n. 1 ≤ n) firsts → IsInvariant (start v firsts)
start_keeps v firsts all = record { loop_safe = start_kept v firsts all; in_mesh = start_placed v firsts all }

from_keeps : (w : World) (es : List Event) → AllByRecursion (IsEvent (length w.nodes)) es → IsInvariant w → IsInvariant (run w es)
unfolding run
from_keeps w [] all inv = inv
from_keeps w (e ∷ es) all inv = from_keeps (after w (step w e)) es (subst (λ k. AllByRecursion (IsEvent k) es) (sym (same_size w e)) all.1) (step_keeps w e all.0 inv)

pub run_keeps : (v : Variant) (firsts : List ℕ) (es : List Event) → AllByRecursion (λ n. 1 ≤ n) firsts → AllByRecursion (IsEvent (length firsts)) es → IsInvariant (run (start v firsts) es) × (length (run (start v firsts) es).nodes ≡ length firsts)
run_keeps v firsts es all ok = (
  from_keeps (start v firsts) es (subst (λ k. AllByRecursion (IsEvent k) es) (sym (start_size v firsts)) ok) (start_keeps v firsts all),
  run_size (start v firsts) es ∙ start_size v firsts,
)
