-- Every step keeps the walks.
use Rattle.std.proofs.Common.{◌≡◌, ℕ, Bool, true, false, ◌==◌, List, [], ◌∷◌, ◌++◌, set, length, Some, None, Option, refl, ap, sym, ◌∙◌, subst}
use Rattle.std.specs.Prelude.{slice_get}
use Rattle.std.specs.List.{AllByRecursion}
use Rattle.std.proofs.lemmas.Bool.{eqb-true, eqb-false}
use Rattle.std.specs.FinSet as sets
use Rattle.aodv_model.specs.Cores.{Core, Heard, Item, Message, New, Pkt, Rerr, RouteRequest, Rrep, Rreq, has_seen}
use Rattle.aodv_model.specs.Handlers.{Cast, Reaction, ask, key_of, send, turn}
use Rattle.mesh_base.specs.declared.events.Variant.{Variant}
use Rattle.mesh_model.proofs.Cases.{by_cases}
use Rattle.mesh_model.proofs.Copies.{each_copy, range_has}
use Rattle.mesh_model.proofs.Leads.{Grows}
use Rattle.mesh_model.proofs.Lists.{each_append, each_map, set_other, set_same}
use Rattle.mesh_model.proofs.MeshSteps.{both_more, has_fewer, has_more}
use Rattle.mesh_model.proofs.Steps.{Follows, each_node, fit, follows_of, found_honest, without_honest}
use Rattle.mesh_model.proofs.CastWalks.{Begins, CastHolds, IsHere, IsSentBy}
use Rattle.mesh_model.proofs.Listed.{entries_have, entries_listed, message_has, message_listed}
use Rattle.mesh_model.proofs.Stays as lists
use Rattle.mesh_model.proofs.Stems.{StaysSeen, ask_seen, send_seen, turn_seen}
use Rattle.mesh_model.proofs.Stays.{keys_stay}
use Rattle.mesh_model.proofs.TrailTables.{Later, trail_stays}
use Rattle.mesh_model.proofs.TrailTurns.{Traces, ask_traces, send_traces, turn_traces}
use Rattle.mesh_model.specs.Held.{MessageHolds}
use Rattle.aodv_model.specs.Tables.{Table}
use Rattle.mesh_model.proofs.Turns.{IsOk, ask_ok, send_ok, turn_ok}
use Rattle.mesh_model.specs.Invariants.{AtLeast, IsLoopSafe, IsLoopSafeNode}
use Rattle.mesh_model.specs.Trails.{Around, CopyHasWalk, EntriesHaveWalks, HasWalks, IsAbsent, IsBackedWalk, ItemHasWalk, MessageHasWalk, NodeHasWalks, around, front, seen_in}
use Rattle.mesh_model.specs.Walks.{rt_in, table}
use Rattle.mesh_model.specs.Worlds.{Copy, Event, Node, World, after, are_linked, copies, done_by, double_of, pair, push, range, step, with_double, with_item, with_link, without_copy, without_link}

-- ---- what a later world keeps

traced_stays : (a b : Around) → Later a b → (x : ℕ) (rt : Table) → EntriesHaveWalks a x rt → EntriesHaveWalks b x rt
traced_stays a b later x rt all = let t = entries_listed a x rt all in entries_have b x rt t.0 (lists.entries_stay a b later x rt t.0 t.1)

message_stays : (a b : Around) → Later a b → (from : ℕ) (m : Message) → MessageHasWalk a from m → MessageHasWalk b from m
message_stays a b later from m t = let l = message_listed a from m t in message_has b from m l.0 (lists.message_stays a b later from m l.0 l.1)

item_stays : (a b : Around) → Later a b → (x : ℕ) (item : Item) → ItemHasWalk a x item → ItemHasWalk b x item
item_stays a b later x (New y d) t = tt
item_stays a b later x (Heard from m) t = (later.ever _ t.0, message_stays a b later from m t.1)

copy_stays : (a b : Around) → Later a b → (c : Copy) → CopyHasWalk a c → CopyHasWalk b c
copy_stays a b later c t = (later.ever _ t.0, message_stays a b later c.from c.message t.1)

node_stays : (a b : Around) → Later a b → (x : ℕ) (n : Node) → NodeHasWalks a x n → NodeHasWalks b x n
node_stays a b later x n t = record { variant = t.variant ∙ sym later.variant; entries = traced_stays a b later x (n.core).rt t.entries; queue = each_map (ItemHasWalk a x) (ItemHasWalk b x) (item_stays a b later x) n.queue t.queue }

-- ---- what a core sends

trail_of : (a b : Around) (core : Core) (x d n : ℕ) (others : List ℕ) → Later a b → core.ip ≡ x → b.tables x ≡ core.rt → Begins a core d n others → IsBackedWalk b d n (x ∷ others)
trail_of a b core x d n [] later ip rt w = sym ip ∙ w
trail_of a b core x d n (y ∷ ys) later ip rt w =
    (later.ever _ (subst (λ k. are_linked a.ever y k ≡ true) ip w.0), w.1, subst (λ t. AtLeast t d n (length (y ∷ ys))) (sym rt) w.2, subst (λ k. IsAbsent k (front (y ∷ ys))) ip w.3, trail_stays a b later d n (y ∷ ys) w.4)

own_keys : (a b : Around) (core : Core) (x : ℕ) (m : RouteRequest) (others : List ℕ) → Later a b → b.seen x ≡ core.seen → has_seen core.seen (key_of a.variant m) ≡ true → AllByRecursion (λ z. has_seen (a.seen z) (key_of a.variant m) ≡ true) others
    → AllByRecursion (λ z. has_seen (b.seen z) (key_of b.variant m) ≡ true) (x ∷ others)
own_keys a b core x m others later seen own keys = (subst (λ v. has_seen (b.seen x) (key_of v m) ≡ true) (sym later.variant) (ap (λ k. sets.contains k (key_of a.variant m)) seen ∙ own), keys_stay a b later m others keys)

pub sent_holds : (a b : Around) (core : Core) (x : ℕ) (m : Message) (walk : List ℕ) → Later a b → core.ip ≡ x → b.tables x ≡ core.rt → b.seen x ≡ core.seen → IsSentBy a core m walk → MessageHolds b x m walk
sent_holds a b core x (Pkt y d o) walk later ip rt seen s = tt
sent_holds a b core x (Rreq m) walk later ip rt seen s = record {
  others = s.others;
  is = s.is ∙ ap (λ k. k ∷ s.others) ip;
  backed = trail_of a b core x m.oip m.osn s.others later ip rt s.begins;
  long = s.long;
  keys = own_keys a b core x m s.others later seen s.own s.keys;
}
sent_holds a b core x (Rrep m) walk later ip rt seen s = record { others = s.others; is = s.is ∙ ap (λ k. k ∷ s.others) ip; backed = trail_of a b core x m.dip m.dsn s.others later ip rt s.begins; long = s.long }
sent_holds a b core x (Rerr dests) walk later ip rt seen s = tt

copies_trailed : (a b : Around) (core : Core) (w : World) (x : ℕ) (list : Message → List ℕ) (c : Cast) → Later a b → core.ip ≡ x → b.tables x ≡ core.rt → b.seen x ≡ core.seen → ((y : ℕ) → sets.contains (range w x) y ≡ true → are_linked b.ever x y ≡ true) → CastHolds a core list c → AllByRecursion (CopyHasWalk b) (copies w x c)
copies_trailed a b core w x list c later ip rt seen within s =
    each_copy (CopyHasWalk b) (CastHolds a core list) (record { one = λ y m is. is; many = λ s m is. is; all = λ m is. is }) w x c s
    (λ id to m near is. (within to near, message_has b x m (list m) (sent_holds a b core x m (list m) later ip rt seen is)))

-- ---- one node changes

pub seen_later : (nodes : List Node) (x : ℕ) (old new : Node) (key : ℕ × ℕ) → slice_get nodes x ≡ Some old → (has_seen (old.core).seen key ≡ true → has_seen (new.core).seen key ≡ true)
    → (y : ℕ) (b : Bool) → (y == x) ≡ b → has_seen (seen_in (slice_get nodes y)) key ≡ true → has_seen (seen_in (slice_get (set nodes x new) y)) key ≡ true
seen_later nodes x old new key is more y true same has =
    let e : y ≡ x = eqb-true y x same in
    let had : has_seen (old.core).seen key ≡ true = subst (λ o. has_seen (seen_in o) key ≡ true) (ap (slice_get nodes) e ∙ is) has in
    subst (λ o. has_seen (seen_in o) key ≡ true) (sym (ap (slice_get (set nodes x new)) e ∙ set_same nodes x new old is)) (more had)
seen_later nodes x old new key is more y false other has =
    subst (λ o. has_seen (seen_in o) key ≡ true) (sym (set_other nodes x y new (eqb-false y x other))) has

pub later_of : (v : Variant) (w w' : World) (x : ℕ) (old new : Node) → slice_get w.nodes x ≡ Some old → w'.nodes ≡ set w.nodes x new → w'.ever ≡ w.ever → Grows (old.core).rt (new.core).rt
    → ((key : ℕ × ℕ) → has_seen (old.core).seen key ≡ true → has_seen (new.core).seen key ≡ true) → Later (around v w) (around v w')
later_of v w w' x old new is nodes ever grows more =
    let follows : Follows (table w) (table w') = follows_of w w' x old new is nodes grows in
    record {
      variant = refl;
      keeps = follows.keeps;
      seen = λ y key has. subst (λ ns. has_seen (seen_in (slice_get ns y)) key ≡ true) (sym nodes) (seen_later w.nodes x old new key is (more key) y (y == x) refl has);
      ever = λ p e. subst (λ s. sets.contains s p ≡ true) (sym ever) e;
    }

node_trails : (v : Variant) (w w' : World) (x : ℕ) (old new : Node) → HasWalks v w → slice_get w.nodes x ≡ Some old → w'.nodes ≡ set w.nodes x new → w'.links ≡ w.links → w'.ever ≡ w.ever → Later (around v w) (around v w')
    → NodeHasWalks (around v w') x new → AllByRecursion (CopyHasWalk (around v w')) w'.flying → HasWalks v w'
node_trails v w w' x old new trails is nodes links ever later traced flying = record {
  nodes = λ y n found. each_node (λ y n. NodeHasWalks (around v w') y n) w.nodes x old new is traced
      (λ y n there. node_stays (around v w) (around v w') later y n (trails.nodes y n there)) y n (y == x) refl (subst (λ ns. slice_get ns y ≡ Some n) nodes found);
  flying = flying;
  stood = λ p e. subst (λ s. sets.contains s p ≡ true) (sym ever) (trails.stood p (subst (λ s. sets.contains s p ≡ true) links e));
}

flying_stays : (v : Variant) (w w' : World) → Later (around v w) (around v w') → AllByRecursion (CopyHasWalk (around v w)) w.flying → AllByRecursion (CopyHasWalk (around v w')) w.flying
flying_stays v w w' later all = each_map (CopyHasWalk (around v w)) (CopyHasWalk (around v w')) (copy_stays (around v w) (around v w') later) w.flying all

pub here_of : (v : Variant) (w : World) (x : ℕ) (n : Node) → IsLoopSafe w → (n.core).variant ≡ v → slice_get w.nodes x ≡ Some n → IsHere (around v w) n.core
here_of v w x n inv variant is =
    let named : (n.core).ip ≡ x = inv.named x n is in
    record {
      variant = variant;
      tables = λ d k h one at. subst (λ o. AtLeast (rt_in o) d k h) (ap (slice_get w.nodes) named ∙ is) at;
      seen = λ key has. subst (λ o. has_seen (seen_in o) key ≡ true) (ap (slice_get w.nodes) named ∙ is) has;
    }

own_traced : (v : Variant) (w : World) (x : ℕ) (n : Node) → IsLoopSafe w → HasWalks v w → slice_get w.nodes x ≡ Some n → EntriesHaveWalks (around v w) (n.core).ip (n.core).rt
own_traced v w x n inv trails is = subst (λ k. EntriesHaveWalks (around v w) k (n.core).rt) (sym (inv.named x n is)) (trails.nodes x n is).entries

turn_traced : (v : Variant) (w : World) (x : ℕ) (core : Core) (item : Item) (items : List Item) → IsLoopSafe w → HasWalks v w → slice_get w.nodes x ≡ Some (record { core = core; queue = item ∷ items }) → Traces (around v w) core (turn core (range w x) item)
turn_traced v w x core item items inv trails is =
    let n : Node = record { core = core; queue = item ∷ items } in
    let good : IsLoopSafeNode (table w) n = inv.nodes x n is in
    let t : NodeHasWalks (around v w) x n = trails.nodes x n is in
    turn_traces (table w) (around v w) core (range w x) item (fit (table w) n good) (here_of v w x n inv t.variant is) (own_traced v w x n inv trails is) good.queue.0
    (subst (λ k. ItemHasWalk (around v w) k item) (sym (inv.named x n is)) t.queue.0)

done_trails : (v : Variant) (w : World) (x : ℕ) (n : Node) (did : Reaction) (queue : List Item) → IsLoopSafe w → HasWalks v w → slice_get w.nodes x ≡ Some n → IsOk (table w) n.core did → StaysSeen n.core did.core → Traces (around v w) n.core did → AllByRecursion (ItemHasWalk (around v w) x) queue → HasWalks v (done_by w x did queue)
unfolding done_by
done_trails v w x n did queue inv trails is ok seen traces items =
    let new : Node = record { core = did.core; queue = queue } in
    let w' : World = done_by w x did queue in
    let named : (n.core).ip ≡ x = inv.named x n is in
    let t : NodeHasWalks (around v w) x n = trails.nodes x n is in
    let later : Later (around v w) (around v w') = later_of v w w' x n new is refl refl ok.leads.grows seen.1 in
    let mine : table w' x ≡ (did.core).rt = ap rt_in (set_same w.nodes x new n is) in
    let known : seen_in (slice_get (set w.nodes x new) x) ≡ (did.core).seen = ap seen_in (set_same w.nodes x new n is) in
    node_trails v w w' x n new trails is refl refl refl later
    (record {
      variant = seen.0 ∙ t.variant;
      entries = traced_stays (around v w) (around v w') later x (did.core).rt (subst (λ k. EntriesHaveWalks (around v w) k (did.core).rt) named traces.traced);
      queue = each_map (ItemHasWalk (around v w) x) (ItemHasWalk (around v w') x) (item_stays (around v w) (around v w') later x) queue items;
    })
    (each_append (CopyHasWalk (around v w')) w.flying _ (flying_stays v w w' later trails.flying)
    (copies_trailed (around v w) (around v w') did.core w x traces.list (did.effect).cast later (ok.named ∙ named) mine known (λ y e. trails.stood _ (range_has w x y e).1) traces.cast))

-- ---- what leaves the nodes alone

-- a world with the same nodes, in which no fewer links have ever stood
pub later_same : (v : Variant) (w w' : World) → w'.nodes ≡ w.nodes → ((p : ℕ × ℕ) → sets.contains w.ever p ≡ true → sets.contains w'.ever p ≡ true) → Later (around v w) (around v w')
later_same v w w' nodes ever = record {
  variant = refl;
  keeps = λ x d n h one at. subst (λ ns. AtLeast (rt_in (slice_get ns x)) d n h) (sym nodes) at;
  seen = λ x key has. subst (λ ns. has_seen (seen_in (slice_get ns x)) key ≡ true) (sym nodes) has;
  ever = ever;
}

same_trails : (v : Variant) (w w' : World) → w'.nodes ≡ w.nodes → ((p : ℕ × ℕ) → sets.contains w.ever p ≡ true → sets.contains w'.ever p ≡ true) → HasWalks v w → (Later (around v w) (around v w') → AllByRecursion (CopyHasWalk (around v w')) w'.flying)
    → ((p : ℕ × ℕ) → sets.contains w'.links p ≡ true → sets.contains w'.ever p ≡ true) → HasWalks v w'
same_trails v w w' nodes ever trails flying stood =
    let later : Later (around v w) (around v w') = later_same v w w' nodes ever in
    record {
      nodes = λ x n found. node_stays (around v w) (around v w') later x n (trails.nodes x n (subst (λ ns. slice_get ns x ≡ Some n) nodes found));
      flying = flying later;
      stood = stood;
    }

item_trails : (v : Variant) (w : World) (x : ℕ) (o : Option Node) (item : Item) → HasWalks v w → slice_get w.nodes x ≡ o → ItemHasWalk (around v w) x item → HasWalks v (with_item w x o item)
item_trails v w x None item trails is t = trails
item_trails v w x (Some n) item trails is t =
    let new : Node = record n { queue = n.queue ++ item ∷ [] } in
    let w' : World = with_item w x (Some n) item in
    let p : NodeHasWalks (around v w) x n = trails.nodes x n is in
    let later : Later (around v w) (around v w') = later_of v w w' x n new is refl refl (record { keeps = λ d n h one at. at }) (λ key e. e) in
    node_trails v w w' x n new trails is refl refl refl later
    (record {
      variant = p.variant;
      entries = traced_stays (around v w) (around v w') later x (n.core).rt p.entries;
      queue = each_map (ItemHasWalk (around v w) x) (ItemHasWalk (around v w') x) (item_stays (around v w) (around v w') later x) (n.queue ++ item ∷ []) (each_append (ItemHasWalk (around v w) x) n.queue (item ∷ []) p.queue (t, tt));
    })
    (flying_stays v w w' later trails.flying)

push_trails : (v : Variant) (w : World) (x : ℕ) (item : Item) → HasWalks v w → ItemHasWalk (around v w) x item → HasWalks v (push w x item)
unfolding push
push_trails v w x item trails t = item_trails v w x (slice_get w.nodes x) item trails refl t

-- ---- steps

lighter : (v : Variant) (w : World) (id : ℕ) → HasWalks v w → HasWalks v (without_copy w id)
lighter v w id trails = same_trails v w (without_copy w id) refl (λ p e. e) trails (λ _. without_honest (CopyHasWalk (around v w)) w.flying id trails.flying) trails.stood

pub step_trails : (v : Variant) (w : World) (e : Event) → IsLoopSafe w → HasWalks v w → HasWalks v (after w (step w e))
step_trails v w e inv trails = by_cases w (λ e o. HasWalks v (after w o)) (record {
  idle = λ e none. trails;
  full = λ e x n f is full. trails;
  given = λ x d b n is. push_trails v w x (New b d) trails tt;
  taken = λ x core item items is free.
      let n : Node = record { core = core; queue = item ∷ items } in
      done_trails v w x n (turn core (range w x) item) items inv trails is
      (turn_ok (table w) core (range w x) item (fit (table w) n (inv.nodes x n is)) (inv.nodes x n is).queue.0) (turn_seen core (range w x) item) (turn_traced v w x core item items inv trails is) (trails.nodes x n is).queue.1;
  sent = λ x d n is may free. done_trails v w x n (send n.core (range w x) d) n.queue inv trails is (send_ok (table w) n.core (range w x) d (fit (table w) n (inv.nodes x n is)))
      (send_seen n.core (range w x) d) (send_traces (around v w) n.core (range w x) d (own_traced v w x n inv trails is)) (trails.nodes x n is).queue;
  asked = λ x d n is may free. done_trails v w x n (ask n.core d) n.queue inv trails is (ask_ok (table w) n.core d (fit (table w) n (inv.nodes x n is)))
      (ask_seen n.core d) (ask_traces (around v w) n.core d (here_of v w x n inv (trails.nodes x n is).variant is) (own_traced v w x n inv trails is)) (trails.nodes x n is).queue;
  linked = λ a b apart. same_trails v w (with_link w a b) refl (λ p e. has_more w.ever (pair a b) p e) trails
      (λ later. flying_stays v w (with_link w a b) later trails.flying) (λ p e. both_more w.links w.ever (pair a b) p (trails.stood p) e);
  cut = λ a b stands. same_trails v w (without_link w a b) refl (λ p e. e) trails (λ _. trails.flying) (λ p e. trails.stood p (has_fewer w.links (pair a b) p e));
  heard = λ id c is. push_trails v (without_copy w id) c.to (Heard c.from c.message) (lighter v w id trails) (found_honest (CopyHasWalk (around v w)) w.flying id c trails.flying is);
  lost = λ id c is. lighter v w id trails;
  doubled = λ id c is. same_trails v w (with_double w c) refl (λ p e. e) trails
      (λ _. each_append (CopyHasWalk (around v w)) w.flying (double_of w c ∷ []) trails.flying (found_honest (CopyHasWalk (around v w)) w.flying id c trails.flying is, tt)) trails.stood;
}) e
