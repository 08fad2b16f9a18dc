-- Every event keeps the lists walks.
use Rattle.std.proofs.Common.{◌≡◌, ◌≢◌, ◌⊎◌, ℕ, ◌+◌, ◌<◌, ◌≤◌, Bool, true, false, ◌==◌, List, [], ◌∷◌, ◌++◌, set, length, Some, None, Option, refl, ap, sym, ◌∙◌, subst, arith, inl, inr}
use Rattle.std.specs.Prelude.{slice_get, nat_le, drop, if◌then◌else◌}
use Rattle.std.specs.List.{AllByRecursion}
use Rattle.std.proofs.lemmas.Bool.{eqb-true, eqb-false}
use Rattle.std.proofs.lemmas.Bool.Decides.{nat_tests}
use Rattle.std.proofs.lemmas.Option.{same_Some}
use Rattle.std.specs.FinSet as sets
use Rattle.aodv_model.specs.Cores.{Body, Core, Heard, Item, Message, New}
use Rattle.aodv_model.specs.Handlers.{All, Cast, Many, Nothing, One, Reaction, ask, send, turn}
use Rattle.mesh_base.specs.declared.events.Variant.{Variant}
use Rattle.mesh_model.proofs.Cases.{ask_goes, by_cases, send_goes, turn_goes}
use Rattle.mesh_model.proofs.Lists.{each_append, each_map, set_other, set_same}
use Rattle.mesh_model.proofs.MeshSteps.{both_more, each_receiver, has_fewer, has_more, range_has}
use Rattle.mesh_model.proofs.Steps.{fit, found_honest, without_honest}
use Rattle.mesh_model.proofs.TrailTables.{Later}
use Rattle.mesh_model.proofs.TrailTurns.{HeardHolds, heard_holds}
use Rattle.mesh_model.proofs.Turns.{IsOk, ask_ok, send_ok, turn_ok}
use Rattle.mesh_model.specs.Invariants.{IsInvariant, IsLoopSafeNode}
use Rattle.mesh_model.specs.InMesh.{AreNumbered}
use Rattle.mesh_model.specs.Trails.{Around, around, seen_in}
use Rattle.mesh_model.specs.Walks.{rt_in, table}
use Rattle.mesh_model.specs.Worlds.{Ask, Copy, Event, Node, Outcome, Send, Turn, World, after, are_linked, copies, copies_of, copies_to, done_by, double_of, find_copy, members_below, pair, push, range, receivers, step, with_double, with_item, with_link, without_copy, without_link}
use Rattle.mesh_model.proofs.CastWalks.{CastHolds, ask_holds, new_holds, send_holds}
use Rattle.mesh_model.proofs.Listed.{stays_hold}
use Rattle.mesh_model.proofs.Stays.{copy_stays, entries_stay, items_more, items_stay, message_stays, node_stays}
use Rattle.mesh_model.proofs.Stems.{StaysSeen, ask_seen, ask_stays, itself, new_stays, send_seen, send_stays, turn_seen}
use Rattle.mesh_model.specs.Held.{CopyHolds, EntriesHold, Holds, ItemHolds, ItemsHold, MessageHolds, NodeHolds}
use Rattle.mesh_model.specs.Kept as kept
use Rattle.mesh_model.specs.Kept.{KeptLists, after_item, after_turn, changed_at, entries_after, first_list, from_id_on, own_list, sent_list, lists_after, walked_by, with_copies}
use Rattle.mesh_model.proofs.TrailSteps.{here_of, later_of, later_same, sent_holds}

-- ---- the list of each id

pub id_before : (flying : ℕ → List ℕ) (first : ℕ) (list : List ℕ) (q : ℕ) → q < first → from_id_on flying first list q ≡ flying q
id_before flying first list q below = rw (above first q below) refl
  where
    above : (first q : ℕ) → q < first → nat_le first q ≡ false
    above first q below = grind (arith, nat_tests)

pub id_after : (flying : ℕ → List ℕ) (first : ℕ) (list : List ℕ) (q : ℕ) → first ≤ q → from_id_on flying first list q ≡ list
id_after flying first list q from = rw (above first q from) refl
  where
    above : (first q : ℕ) → first ≤ q → nat_le first q ≡ true
    above first q from = grind (arith, nat_tests)

to_before : (flying : ℕ → List ℕ) (list : Message → List ℕ) (tos : List ℕ) (id x : ℕ) (m : Message) (q : ℕ) → q < id → with_copies flying list (copies_to tos id x m) q ≡ flying q
to_before flying list [] id x m q below = refl
to_before flying list (to ∷ tos) id x m q below = id_before flying id (list m) q below

of_before : (flying : ℕ → List ℕ) (list : Message → List ℕ) (c : Cast) (tos : List ℕ) (id x q : ℕ) → q < id → with_copies flying list (copies_of c tos id x) q ≡ flying q
of_before flying list Nothing tos id x q below = refl
of_before flying list (One y m) tos id x q below = to_before flying list tos id x m q below
of_before flying list (Many s m) tos id x q below = to_before flying list tos id x m q below
of_before flying list (All m) tos id x q below = to_before flying list tos id x m q below

pub copies_before : (w : World) (flying : ℕ → List ℕ) (list : Message → List ℕ) (x : ℕ) (c : Cast) (q : ℕ) → q < w.next_copy → with_copies flying list (copies w x c) q ≡ flying q
unfolding copies
copies_before w flying list x c q below = of_before flying list c (members_below (length w.nodes) (receivers (range w x) c)) w.next_copy x q below

pub numbered_low : (low : ℕ) (cs : List Copy) (next : ℕ) → AreNumbered low cs next → low ≤ next
numbered_low low [] next all = all
numbered_low low (c ∷ cs) next all = let later = numbered_low (c.id + 1) cs next all.1 in let l = all.0 in omega arith

pub numbered_below : (low : ℕ) (cs : List Copy) (next : ℕ) → AreNumbered low cs next → AllByRecursion (λ (c : Copy). c.id < next) cs
numbered_below low [] next all = tt
numbered_below low (c ∷ cs) next all = (let later = numbered_low (c.id + 1) cs next all.1 in omega arith, numbered_below (c.id + 1) cs next all.1)

pub both : {A : Type 0} (P Q R : A → Type 0) → ((x : A) → P x → Q x → R x) → (xs : List A) → AllByRecursion P xs → AllByRecursion Q xs → AllByRecursion R xs
both P Q R f [] p q = tt
both P Q R f (x ∷ xs) p q = (f x p.0 q.0, both P Q R f xs p.1 q.1)

-- the copies that fly already keep their lists
flying_stays : (v : Variant) (w : World) (b : Around) (old now : ℕ → List ℕ) → Later (around v w) b → AreNumbered 1 w.flying w.next_copy → ((q : ℕ) → q < w.next_copy → now q ≡ old q) → AllByRecursion (CopyHolds (around v w) old) w.flying → AllByRecursion (CopyHolds b now) w.flying
flying_stays v w b old now later numbered same all =
    both (λ (c : Copy). c.id < w.next_copy) (CopyHolds (around v w) old) (CopyHolds b now) (λ c below t. copy_stays (around v w) b later old now c (same c.id below) t) w.flying
    (numbered_below 1 w.flying w.next_copy numbered) all

-- ---- the copies of a cast

copies_to_hold : (b : Around) (flying : ℕ → List ℕ) (walk : List ℕ) (tos : List ℕ) (id x : ℕ) (m : Message) → ((q : ℕ) → id ≤ q → flying q ≡ walk) → AllByRecursion (λ y. are_linked b.ever x y ≡ true) tos → MessageHolds b x m walk → AllByRecursion (CopyHolds b flying) (copies_to tos id x m)
copies_to_hold b flying walk [] id x m same all t = tt
copies_to_hold b flying walk (to ∷ tos) id x m same all t =
    ((all.0, subst (MessageHolds b x m) (sym (same id (omega arith))) t), copies_to_hold b flying walk tos (id + 1) x m (λ q from. same q (omega arith)) all.1 t)

to_hold : (b : Around) (flying : ℕ → List ℕ) (list : Message → List ℕ) (tos : List ℕ) (id x : ℕ) (m : Message) → AllByRecursion (λ y. are_linked b.ever x y ≡ true) tos → MessageHolds b x m (list m)
    → AllByRecursion (CopyHolds b (with_copies flying list (copies_to tos id x m))) (copies_to tos id x m)
to_hold b flying list [] id x m all t = tt
to_hold b flying list (to ∷ tos) id x m all t = copies_to_hold b (from_id_on flying id (list m)) (list m) (to ∷ tos) id x m (id_after flying id (list m)) all t

of_hold : (a b : Around) (core : Core) (flying : ℕ → List ℕ) (list : Message → List ℕ) (x : ℕ) (c : Cast) (tos : List ℕ) (id : ℕ) → Later a b → core.ip ≡ x → b.tables x ≡ core.rt → b.seen x ≡ core.seen → AllByRecursion (λ y. are_linked b.ever x y ≡ true) tos → CastHolds a core list c
    → AllByRecursion (CopyHolds b (with_copies flying list (copies_of c tos id x))) (copies_of c tos id x)
of_hold a b core flying list x Nothing tos id later ip rt seen all s = tt
of_hold a b core flying list x (One y m) tos id later ip rt seen all s = to_hold b flying list tos id x m all (sent_holds a b core x m (list m) later ip rt seen s)
of_hold a b core flying list x (Many t m) tos id later ip rt seen all s = to_hold b flying list tos id x m all (sent_holds a b core x m (list m) later ip rt seen s)
of_hold a b core flying list x (All m) tos id later ip rt seen all s = to_hold b flying list tos id x m all (sent_holds a b core x m (list m) later ip rt seen s)

copies_hold : (a b : Around) (core : Core) (w : World) (flying : ℕ → List ℕ) (list : Message → List ℕ) (x : ℕ) (c : Cast) → Later a b → core.ip ≡ x → b.tables x ≡ core.rt → b.seen x ≡ core.seen → ((y : ℕ) → sets.contains (range w x) y ≡ true → are_linked b.ever x y ≡ true) → CastHolds a core list c
    → AllByRecursion (CopyHolds b (with_copies flying list (copies w x c))) (copies w x c)
unfolding copies
copies_hold a b core w flying list x c later ip rt seen within s =
    of_hold a b core flying list x c (members_below (length w.nodes) (receivers (range w x) c)) w.next_copy later ip rt seen
    (each_receiver (λ y. are_linked b.ever x y ≡ true) (length w.nodes) (range w x) c within) s

-- ---- one node changes

-- the lists of another node
record SameElsewhere (x : ℕ) (k k' : KeptLists) : Type 0 where
  entries : (y : ℕ) → y ≢ x → k'.entries y ≡ k.entries y
  queues : (y : ℕ) → y ≢ x → k'.queues y ≡ k.queues y

node_at : (nodes : List Node) (x : ℕ) (old new : Node) → slice_get nodes x ≡ Some old → (y : ℕ) (n : Node) (b : Bool) → (y == x) ≡ b → slice_get (set nodes x new) y ≡ Some n → ((x ≡ y) × (new ≡ n)) ⊎ ((y ≢ x) × (slice_get nodes y ≡ Some n))
node_at nodes x old new is y n true same found =
    let e : y ≡ x = eqb-true y x same in
    inl (sym e, same_Some new n (sym (ap (slice_get (set nodes x new)) e ∙ set_same nodes x new old is) ∙ found))
node_at nodes x old new is y n false other found = let apart : y ≢ x = eqb-false y x other in inr (apart, sym (set_other nodes x y new apart) ∙ found)

node_holds : (v : Variant) (w w' : World) (x : ℕ) (old new : Node) (k k' : KeptLists) → Holds v w k → slice_get w.nodes x ≡ Some old → w'.nodes ≡ set w.nodes x new → w'.links ≡ w.links → w'.ever ≡ w.ever → Later (around v w) (around v w') → SameElsewhere x k k'
    → NodeHolds (around v w') x new (k'.entries x) (k'.queues x) → AllByRecursion (CopyHolds (around v w') k'.flying) w'.flying → Holds v w' k'
node_holds v w w' x old new k k' holds is nodes links ever later same mine flying = record {
  nodes = λ y n found. at y n (node_at w.nodes x old new is y n (y == x) refl (subst (λ ns. slice_get ns y ≡ Some n) nodes found));
  flying = flying;
  stood = λ p e. subst (λ s. sets.contains s p ≡ true) (sym ever) (holds.stood p (subst (λ s. sets.contains s p ≡ true) links e));
}
  where
    at : (y : ℕ) (n : Node) → ((x ≡ y) × (new ≡ n)) ⊎ ((y ≢ x) × (slice_get w.nodes y ≡ Some n)) → NodeHolds (around v w') y n (k'.entries y) (k'.queues y)
    at y n (inl p) = subst (λ y. NodeHolds (around v w') y n (k'.entries y) (k'.queues y)) p.0 (subst (λ n. NodeHolds (around v w') x n (k'.entries x) (k'.queues x)) p.1 mine)
    at y n (inr p) =
        subst (λ f. NodeHolds (around v w') y n f (k'.queues y)) (sym (same.entries y p.0))
        (subst (λ ls. NodeHolds (around v w') y n (k.entries y) ls) (sym (same.queues y p.0))
        (node_stays (around v w) (around v w') later y n (k.entries y) (k.queues y) (holds.nodes y n p.1)))

done_holds : (v : Variant) (w : World) (x : ℕ) (n : Node) (did : Reaction) (queue : List Item) (list : Message → List ℕ) (k k' : KeptLists) → IsInvariant w → Holds v w k → slice_get w.nodes x ≡ Some n → IsOk (table w) n.core did → StaysSeen n.core did.core → SameElsewhere x k k'
    → EntriesHold (around v w) x (did.core).rt (k'.entries x) → ItemsHold (around v w) x queue (k'.queues x) → CastHolds (around v w) did.core list (did.effect).cast → k'.flying ≡ with_copies k.flying list (copies w x (did.effect).cast)
    → Holds v (done_by w x did queue) k'
unfolding done_by
done_holds v w x n did queue list k k' inv holds is ok seen same entries items cast flying =
    let new : Node = record { core = did.core; queue = queue } in
    let w' : World = done_by w x did queue in
    let named : (n.core).ip ≡ x = inv.loop_safe.named x n is in
    let t : NodeHolds (around v w) x n (k.entries x) (k.queues x) = holds.nodes x n is in
    let later : Later (around v w) (around v w') = later_of v w w' x n new is refl refl ok.leads.grows seen.1 in
    let mine : table w' x ≡ (did.core).rt = ap rt_in (set_same w.nodes x new n is) in
    let known : seen_in (slice_get (set w.nodes x new) x) ≡ (did.core).seen = ap seen_in (set_same w.nodes x new n is) in
    let walks : ℕ → List ℕ = with_copies k.flying list (copies w x (did.effect).cast) in
    node_holds v w w' x n new k k' holds is refl refl refl later same
    (record {
      variant = seen.0 ∙ t.variant;
      entries = entries_stay (around v w) (around v w') later x (did.core).rt (k'.entries x) entries;
      queue = items_stay (around v w) (around v w') later x queue (k'.queues x) items;
    })
    (subst (λ f. AllByRecursion (CopyHolds (around v w') f) w'.flying) (sym flying)
    (each_append (CopyHolds (around v w') walks) w.flying _
    (flying_stays v w (around v w') k.flying walks later inv.in_mesh.numbered (copies_before w k.flying list x (did.effect).cast) holds.flying)
    (copies_hold (around v w) (around v w') did.core w k.flying list x (did.effect).cast later (ok.named ∙ named) mine known (λ y e. holds.stood _ (range_has w x y e).1) cast)))

-- ---- changes of a function at one place

here_changed : {A : Type 0} (f : ℕ → A) (x : ℕ) (v : A) → changed_at f x v x ≡ v
here_changed f x v = rw (itself x) refl

elsewhere : {A : Type 0} (f : ℕ → A) (x : ℕ) (v : A) (y : ℕ) → y ≢ x → changed_at f x v y ≡ f y
elsewhere f x v y apart = rw (differ y x apart) refl
  where
    differ : (y x : ℕ) → y ≢ x → (y == x) ≡ false
    differ y x apart = grind (arith, nat_tests)

-- ---- turns

abbrev Keeps : Variant → World → Event → KeptLists → Outcome → Type 0
Keeps v w e k o = Holds v (after w o) (walked_by w e o k)

first_holds : (a : Around) (x : ℕ) (item : Item) (items : List Item) (walks : List (List ℕ)) → ItemsHold a x (item ∷ items) walks → ItemHolds a x item (first_list walks) × ItemsHold a x items (drop 1 walks)
first_holds a x item items [] t = absurd t
first_holds a x item items (walk ∷ walks) t = (t.0, t.1)

abbrev ItemKeeps : Variant → World → Core → Item → List Item → KeptLists → Type 0
ItemKeeps v w core item items k =
    let did = turn core (range w core.ip) item in Holds v (done_by w core.ip did items) (after_item core.ip (did.core).rt item (copies w core.ip (did.effect).cast) k)

front_ok : (w : World) (core : Core) (item : Item) (items : List Item) → IsInvariant w → slice_get w.nodes core.ip ≡ Some (record { core = core; queue = item ∷ items }) → IsOk (table w) core (turn core (range w core.ip) item)
front_ok w core item items inv is =
    let n : Node = record { core = core; queue = item ∷ items } in
    let good : IsLoopSafeNode (table w) n = inv.loop_safe.nodes core.ip n is in
    turn_ok (table w) core (range w core.ip) item (fit (table w) n good) good.queue.0

new_keeps : (v : Variant) (w : World) (core : Core) (b : Body) (d : ℕ) (items : List Item) (k : KeptLists) → IsInvariant w → Holds v w k → slice_get w.nodes core.ip ≡ Some (record { core = core; queue = New b d ∷ items }) → ItemKeeps v w core (New b d) items k
new_keeps v w core b d items k inv holds is =
    let x = core.ip in
    let item : Item = New b d in
    let n : Node = record { core = core; queue = item ∷ items } in
    let did : Reaction = turn core (range w x) item in
    let p : NodeHolds (around v w) x n (k.entries x) (k.queues x) = holds.nodes x n is in
    let both = first_holds (around v w) x item items (k.queues x) p.queue in
    let k' : KeptLists = after_item x (did.core).rt item (copies w x (did.effect).cast) k in
    done_holds v w x n did items (own_list x) k k' inv holds is (front_ok w core item items inv is) (turn_seen core (range w x) item)
    (record { entries = λ y apart. refl; queues = λ y apart. elsewhere k.queues x (drop 1 (k.queues x)) y apart })
    (stays_hold (around v w) x core.rt (did.core).rt (k.entries x) (new_stays core b d).0 p.entries)
    (subst (ItemsHold (around v w) x items) (sym (here_changed k.queues x (drop 1 (k.queues x)))) both.1)
    (new_holds (around v w) (own_list x) core b d) refl

heard_keeps : (v : Variant) (w : World) (core : Core) (y : ℕ) (m : Message) (items : List Item) (k : KeptLists) → IsInvariant w → Holds v w k → slice_get w.nodes core.ip ≡ Some (record { core = core; queue = Heard y m ∷ items }) → ItemKeeps v w core (Heard y m) items k
heard_keeps v w core y m items k inv holds is =
    let x = core.ip in
    let a : Around = around v w in
    let item : Item = Heard y m in
    let n : Node = record { core = core; queue = item ∷ items } in
    let did : Reaction = turn core (range w x) item in
    let p : NodeHolds a x n (k.entries x) (k.queues x) = holds.nodes x n is in
    let both = first_holds a x item items (k.queues x) p.queue in
    let l : List ℕ = first_list (k.queues x) in
    let walks : ℕ → List ℕ = entries_after x y m l (did.core).rt (k.entries x) in
    let k' : KeptLists = after_item x (did.core).rt item (copies w x (did.effect).cast) k in
    let good : IsLoopSafeNode (table w) n = inv.loop_safe.nodes x n is in
    let h : HeardHolds a core y m l (k.entries x) did = heard_holds (table w) a core (range w x) y m l (k.entries x) (fit (table w) n good) (here_of v w x n inv.loop_safe p.variant is) good.queue.0 both.0.0 both.0.1 p.entries in
    done_holds v w x n did items (sent_list x walks m l) k k' inv holds is (front_ok w core item items inv is) (turn_seen core (range w x) item)
    (record { entries = λ y apart. elsewhere k.entries x walks y apart; queues = λ y apart. elsewhere k.queues x (drop 1 (k.queues x)) y apart })
    (subst (EntriesHold a x (did.core).rt) (sym (here_changed k.entries x walks)) h.entries)
    (subst (ItemsHold a x items) (sym (here_changed k.queues x (drop 1 (k.queues x)))) both.1)
    h.cast refl

item_keeps : (v : Variant) (w : World) (core : Core) (item : Item) (items : List Item) (k : KeptLists) → IsInvariant w → Holds v w k → slice_get w.nodes core.ip ≡ Some (record { core = core; queue = item ∷ items }) → ItemKeeps v w core item items k
item_keeps v w core (New b d) items k inv holds is = new_keeps v w core b d items k inv holds is
item_keeps v w core (Heard y m) items k inv holds is = heard_keeps v w core y m items k inv holds is

mine_after : (w : World) (x : ℕ) (n : Node) (did : Reaction) (queue : List Item) → slice_get w.nodes x ≡ Some n → table (done_by w x did queue) x ≡ (did.core).rt
unfolding done_by
mine_after w x n did queue is = ap rt_in (set_same w.nodes x (record { core = did.core; queue = queue }) n is)

turn_at : (v : Variant) (w : World) (core : Core) (item : Item) (items : List Item) (k : KeptLists) → IsInvariant w → Holds v w k → slice_get w.nodes core.ip ≡ Some (record { core = core; queue = item ∷ items }) → Keeps v w (Turn core.ip) k (turn_goes w core.ip core item items)
turn_at v w core item items k inv holds is =
    let x = core.ip in
    let n : Node = record { core = core; queue = item ∷ items } in
    let did : Reaction = turn core (range w x) item in
    let w' : World = done_by w x did items in
    let new : List Copy = copies w x (did.effect).cast in
    subst (λ o. Holds v w' (after_turn x (table w' x) o new k)) (sym is)
    (subst (λ rt. Holds v w' (after_item x rt item new k)) (sym (mine_after w x n did items is)) (item_keeps v w core item items k inv holds is))

-- ---- of a node's own accord

own_keeps : (v : Variant) (w : World) (n : Node) (did : Reaction) (k : KeptLists) → IsInvariant w → Holds v w k → slice_get w.nodes (n.core).ip ≡ Some n → IsOk (table w) n.core did → StaysSeen n.core did.core
    → EntriesHold (around v w) (n.core).ip (did.core).rt (k.entries (n.core).ip) → CastHolds (around v w) did.core (own_list (n.core).ip) (did.effect).cast
    → Holds v (done_by w (n.core).ip did n.queue) (record k { flying = with_copies k.flying (own_list (n.core).ip) (copies w (n.core).ip (did.effect).cast) })
own_keeps v w n did k inv holds is ok seen entries cast =
    let x = (n.core).ip in
    done_holds v w x n did n.queue (own_list x) k (record k { flying = with_copies k.flying (own_list x) (copies w x (did.effect).cast) }) inv holds is ok seen
    (record { entries = λ y apart. refl; queues = λ y apart. refl }) entries (holds.nodes x n is).queue cast refl

send_at : (v : Variant) (w : World) (n : Node) (d : ℕ) (k : KeptLists) → IsInvariant w → Holds v w k → slice_get w.nodes (n.core).ip ≡ Some n → Keeps v w (Send (n.core).ip d) k (send_goes w (n.core).ip d n)
send_at v w n d k inv holds is =
    let x = (n.core).ip in
    let did : Reaction = send n.core (range w x) d in
    own_keeps v w n did k inv holds is (send_ok (table w) n.core (range w x) d (fit (table w) n (inv.loop_safe.nodes x n is))) (send_seen n.core (range w x) d)
    (stays_hold (around v w) x (n.core).rt (did.core).rt (k.entries x) (send_stays n.core (range w x) d).0 (holds.nodes x n is).entries)
    (send_holds (around v w) (own_list x) n.core (range w x) d)

ask_at : (v : Variant) (w : World) (n : Node) (d : ℕ) (k : KeptLists) → IsInvariant w → Holds v w k → slice_get w.nodes (n.core).ip ≡ Some n → Keeps v w (Ask (n.core).ip d) k (ask_goes w (n.core).ip d n)
ask_at v w n d k inv holds is =
    let x = (n.core).ip in
    let p : NodeHolds (around v w) x n (k.entries x) (k.queues x) = holds.nodes x n is in
    own_keeps v w n (ask n.core d) k inv holds is (ask_ok (table w) n.core d (fit (table w) n (inv.loop_safe.nodes x n is))) (ask_seen n.core d)
    (stays_hold (around v w) x (n.core).rt (ask n.core d).core.rt (k.entries x) (ask_stays n.core d) p.entries)
    (ask_holds (around v w) n.core d (here_of v w x n inv.loop_safe p.variant is))

-- ---- what leaves tables alone

-- the same nodes, and walks of what flies
same_holds : (v : Variant) (w w' : World) (k k' : KeptLists) → w'.nodes ≡ w.nodes → ((p : ℕ × ℕ) → sets.contains w.ever p ≡ true → sets.contains w'.ever p ≡ true) → Holds v w k → k'.entries ≡ k.entries → k'.queues ≡ k.queues
    → (Later (around v w) (around v w') → AllByRecursion (CopyHolds (around v w') k'.flying) w'.flying) → ((p : ℕ × ℕ) → sets.contains w'.links p ≡ true → sets.contains w'.ever p ≡ true) → Holds v w' k'
same_holds v w w' k k' nodes ever holds entries queues flying stood =
    let later : Later (around v w) (around v w') = later_same v w w' nodes ever in
    record {
      nodes = λ x n found. subst (λ f. NodeHolds (around v w') x n (f x) (k'.queues x)) (sym entries) (subst (λ ls. NodeHolds (around v w') x n (k.entries x) (ls x)) (sym queues)
          (node_stays (around v w) (around v w') later x n (k.entries x) (k.queues x) (holds.nodes x n (subst (λ ns. slice_get ns x ≡ Some n) nodes found))));
      flying = flying later;
      stood = stood;
    }

same_flying : (v : Variant) (w : World) (b : Around) (flying : ℕ → List ℕ) → Later (around v w) b → AllByRecursion (CopyHolds (around v w) flying) w.flying → AllByRecursion (CopyHolds b flying) w.flying
same_flying v w b flying later all = each_map (CopyHolds (around v w) flying) (CopyHolds b flying) (λ c t. copy_stays (around v w) b later flying flying c refl t) w.flying all

item_joins : (v : Variant) (w : World) (x : ℕ) (o : Option Node) (item : Item) (walk : List ℕ) (k : KeptLists) → Holds v w k → slice_get w.nodes x ≡ o → ItemHolds (around v w) x item walk → Holds v (with_item w x o item) (kept.with_item k x walk)
item_joins v w x None item walk k holds is t = record {
  nodes = λ y n found. subst (λ ls. NodeHolds (around v w) y n (k.entries y) ls) (sym (elsewhere k.queues x (k.queues x ++ walk ∷ []) y (λ e. none y n e found))) (holds.nodes y n found);
  flying = holds.flying;
  stood = holds.stood;
}
  where
    none : (y : ℕ) (n : Node) → y ≡ x → slice_get w.nodes y ≡ Some n → ⊥
    none y n e found = let absent : slice_get w.nodes y ≡ None = ap (slice_get w.nodes) e ∙ is in cc
item_joins v w x (Some n) item walk k holds is t =
    let new : Node = record n { queue = n.queue ++ item ∷ [] } in
    let w' : World = with_item w x (Some n) item in
    let k' : KeptLists = kept.with_item k x walk in
    let p : NodeHolds (around v w) x n (k.entries x) (k.queues x) = holds.nodes x n is in
    let later : Later (around v w) (around v w') = later_of v w w' x n new is refl refl (record { keeps = λ d n h one at. at }) (λ key e. e) in
    node_holds v w w' x n new k k' holds is refl refl refl later
    (record { entries = λ y apart. refl; queues = λ y apart. elsewhere k.queues x (k.queues x ++ walk ∷ []) y apart })
    (record {
      variant = p.variant;
      entries = entries_stay (around v w) (around v w') later x (n.core).rt (k.entries x) p.entries;
      queue = subst (ItemsHold (around v w') x (n.queue ++ item ∷ [])) (sym (here_changed k.queues x (k.queues x ++ walk ∷ [])))
          (items_stay (around v w) (around v w') later x (n.queue ++ item ∷ []) (k.queues x ++ walk ∷ []) (items_more (around v w) x n.queue (k.queues x) item walk p.queue t));
    })
    (same_flying v w (around v w') k.flying later holds.flying)

push_holds : (v : Variant) (w : World) (x : ℕ) (item : Item) (walk : List ℕ) (k : KeptLists) → Holds v w k → ItemHolds (around v w) x item walk → Holds v (push w x item) (kept.with_item k x walk)
unfolding push
push_holds v w x item walk k holds t = item_joins v w x (slice_get w.nodes x) item walk k holds refl t

-- ---- steps

lighter : (v : Variant) (w : World) (id : ℕ) (k : KeptLists) → Holds v w k → Holds v (without_copy w id) k
lighter v w id k holds = same_holds v w (without_copy w id) k k refl (λ p e. e) holds refl refl (λ _. without_honest (CopyHolds (around v w) k.flying) w.flying id holds.flying) holds.stood

-- the copy of an id is of that id
pub found_id : (cs : List Copy) (id : ℕ) (c : Copy) → find_copy cs id ≡ Some c → c.id ≡ id
found_id [] id c is = cc
found_id (d ∷ ds) id c is = at (d.id == id) refl is (found_id ds id c)
  where
    at : (b : Bool) → (d.id == id) ≡ b → (if b then Some d else find_copy ds id) ≡ Some c → (find_copy ds id ≡ Some c → c.id ≡ id) → c.id ≡ id
    at true same is later = ap (λ (e : Copy). e.id) (sym (same_Some d c is)) ∙ eqb-true d.id id same
    at false other is later = later is

pub step_holds : (v : Variant) (w : World) (e : Event) (k : KeptLists) → IsInvariant w → Holds v w k → Holds v (after w (step w e)) (lists_after w e k)
unfolding lists_after
step_holds v w e k inv holds = by_cases w (λ e o. Keeps v w e k o) (record {
  idle = λ e none. holds;
  full = λ e x n f is full. holds;
  given = λ x d b n is. push_holds v w x (New b d) [] k holds tt;
  taken = λ x core item items is free.
      let n : Node = record { core = core; queue = item ∷ items } in
      subst (λ x. slice_get w.nodes x ≡ Some n → Keeps v w (Turn x) k (turn_goes w x core item items)) (inv.loop_safe.named x n is) (turn_at v w core item items k inv holds) is;
  sent = λ x d n is may free. subst (λ x. slice_get w.nodes x ≡ Some n → Keeps v w (Send x d) k (send_goes w x d n)) (inv.loop_safe.named x n is) (send_at v w n d k inv holds) is;
  asked = λ x d n is may free. subst (λ x. slice_get w.nodes x ≡ Some n → Keeps v w (Ask x d) k (ask_goes w x d n)) (inv.loop_safe.named x n is) (ask_at v w n d k inv holds) is;
  linked = λ a b apart. same_holds v w (with_link w a b) k k refl (λ p e. has_more w.ever (pair a b) p e) holds refl refl
      (λ later. same_flying v w (around v (with_link w a b)) k.flying later holds.flying) (λ p e. both_more w.links w.ever (pair a b) p (holds.stood p) e);
  cut = λ a b stands. same_holds v w (without_link w a b) k k refl (λ p e. e) holds refl refl (λ _. holds.flying) (λ p e. holds.stood p (has_fewer w.links (pair a b) p e));
  heard = λ id c is.
      let t : CopyHolds (around v w) k.flying c = found_honest (CopyHolds (around v w) k.flying) w.flying id c holds.flying is in
      push_holds v (without_copy w id) c.to (Heard c.from c.message) (k.flying id) k (lighter v w id k holds)
      (t.0, subst (λ q. MessageHolds (around v w) c.from c.message (k.flying q)) (found_id w.flying id c is) t.1);
  lost = λ id c is. lighter v w id k holds;
  doubled = λ id c is.
      let t : CopyHolds (around v w) k.flying c = found_honest (CopyHolds (around v w) k.flying) w.flying id c holds.flying is in
      let now : ℕ → List ℕ = from_id_on k.flying w.next_copy (k.flying id) in
      same_holds v w (with_double w c) k (record k { flying = now }) refl (λ p e. e) holds refl refl
      (λ later. each_append (CopyHolds (around v (with_double w c)) now) w.flying (double_of w c ∷ [])
      (flying_stays v w (around v (with_double w c)) k.flying now later inv.in_mesh.numbered (λ q below. id_before k.flying w.next_copy (k.flying id) q below) holds.flying) (
        (
          t.0,
          subst (MessageHolds (around v (with_double w c)) c.from c.message) (sym (id_after k.flying w.next_copy (k.flying id) w.next_copy (omega arith)))
              (message_stays (around v w) (around v (with_double w c)) later c.from c.message (k.flying id) (subst (λ q. MessageHolds (around v w) c.from c.message (k.flying q)) (found_id w.flying id c is) t.1)),
        ),
        tt,
      ))
      holds.stood;
}) e
