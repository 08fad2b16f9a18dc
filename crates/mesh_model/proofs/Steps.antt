-- Every step keeps what excludes cycles.
use Rattle.std.proofs.Common.{◌≡◌, ◌≢◌, ℕ, zero, suc, ◌+◌, ◌-◌, ◌≤◌, Bool, true, false, not, ◌==◌, List, [], ◌∷◌, ◌++◌, set, Some, None, Option, refl, ap, sym, ◌∙◌, subst, arith}
use Rattle.std.specs.Prelude.{slice_get, if◌then◌else◌}
use Rattle.std.specs.List.{AllByRecursion}
use Rattle.std.specs.Ordering.{nat_cmp}
use Rattle.std.proofs.lemmas.Bool.{eqb-true, eqb-false}
use Rattle.std.proofs.lemmas.Option.{none-some, same_Some}
use Rattle.std.specs.FinMap as maps
use Rattle.aodv_model.specs.Cores.{Heard, Item, Message, New, Pkt, Rerr, Rrep, Rreq}
use Rattle.aodv_model.specs.Handlers.{Cast, Reaction, ask, send, turn}
use Rattle.aodv_model.specs.Soundness.{AllSoundNumbers}
use Rattle.aodv_model.specs.Tables.{Table}
use Rattle.mesh_base.specs.declared.events.Variant.{Variant}
use Rattle.mesh_model.proofs.Cases.{by_cases}
use Rattle.mesh_model.proofs.Copies.{each_copy}
use Rattle.mesh_model.proofs.Leads.{Grows}
use Rattle.mesh_model.proofs.Lists.{each_append, each_filter, each_map, set_other, set_same}
use Rattle.mesh_model.proofs.Turns.{IsFit, IsHonestCast, IsOk, ask_ok, send_ok, turn_ok}
use Rattle.mesh_model.specs.Invariants.{AllBacked, AtLeast, IsHonest, IsHonestCopy, IsHonestItem, IsLoopSafe, IsLoopSafeNode}
use Rattle.mesh_model.specs.Walks.{rt_in, table}
use Rattle.mesh_model.specs.Worlds.{Copy, Event, Node, World, after, copies, done_by, double_of, find_copy, openings, push, range, run, start, step, with_double, with_item, with_link, without, without_copy, without_link}

pub record Follows (old new : ℕ → Table) : Type 0 where
  pub keeps : (x d n h : ℕ) → 1 ≤ n → AtLeast (old x) d n h → AtLeast (new x) d n h

honest_stays : (old new : ℕ → Table) → Follows old new → (from : ℕ) (m : Message) → IsHonest (old from) from m → IsHonest (new from) from m
honest_stays old new follows from (Pkt b d o) honest = tt
honest_stays old new follows from (Rreq m) honest = (honest.0, λ apart. follows.keeps from m.oip m.osn m.hops honest.0 (honest.1 apart))
honest_stays old new follows from (Rrep m) honest = (honest.0, λ apart. follows.keeps from m.dip m.dsn m.hops honest.0 (honest.1 apart))
honest_stays old new follows from (Rerr dests) honest = tt

item_stays : (old new : ℕ → Table) → Follows old new → (item : Item) → IsHonestItem old item → IsHonestItem new item
item_stays old new follows (New b d) honest = tt
item_stays old new follows (Heard from m) honest = honest_stays old new follows from m honest

copy_stays : (old new : ℕ → Table) → Follows old new → (c : Copy) → IsHonestCopy old c → IsHonestCopy new c
copy_stays old new follows c honest = honest_stays old new follows c.from c.message honest

-- by K a valid entry whose next hop isn't its destination has a number of at least 1
backed_stays : (old new : ℕ → Table) → Follows old new → (rt : Table) → AllSoundNumbers rt → AllBacked old rt → AllBacked new rt
backed_stays old new follows rt sound backed d e is valid apart =
    follows.keeps e.next d e.dsn (e.hops - 1) (above e.dsn (λ zero. apart ((sound d e is).direct zero).1)) (backed d e is valid apart)
  where
    above : (n : ℕ) → n ≢ 0 → 1 ≤ n
    above n more = omega arith

node_stays : (old new : ℕ → Table) → Follows old new → (n : Node) → IsLoopSafeNode old n → IsLoopSafeNode new n
node_stays old new follows n good = record {
  numbers = good.numbers;
  entries = backed_stays old new follows (n.core).rt good.numbers.entries good.entries;
  queue = each_map (IsHonestItem old) (IsHonestItem new) (item_stays old new follows) n.queue good.queue;
}

pub fit : (tables : ℕ → Table) (n : Node) → IsLoopSafeNode tables n → IsFit tables n.core
fit tables n good = record { number = good.numbers.own; fine = record { sound = good.numbers.entries; backed = good.entries } }

-- ---- copies

copies_honest : (tables : ℕ → Table) (w : World) (x : ℕ) (c : Cast) → IsHonestCast (tables x) x c → AllByRecursion (IsHonestCopy tables) (copies w x c)
copies_honest tables w x c honest = each_copy (IsHonestCopy tables) (IsHonestCast (tables x) x) (record { one = λ y m is. is; many = λ s m is. is; all = λ m is. is }) w x c honest (λ id to m near is. is)

-- ---- one node changes

-- the tables after node x has become n
changed : List Node → ℕ → Node → ℕ → Table
changed nodes x n y = rt_in (slice_get (set nodes x n) y)

at_changed : (nodes : List Node) (x : ℕ) (old new : Node) (y : ℕ) (b : Bool) → (y == x) ≡ b → slice_get nodes x ≡ Some old → Grows (old.core).rt (new.core).rt
    → (d n h : ℕ) → 1 ≤ n → AtLeast (rt_in (slice_get nodes y)) d n h → AtLeast (rt_in (slice_get (set nodes x new) y)) d n h
at_changed nodes x old new y true same is grows d n h one at =
    let e : y ≡ x = eqb-true y x same in
    let here : AtLeast (old.core).rt d n h = subst (λ o. AtLeast (rt_in o) d n h) (ap (slice_get nodes) e ∙ is) at in
    subst (λ o. AtLeast (rt_in o) d n h) (sym (ap (slice_get (set nodes x new)) e ∙ set_same nodes x new old is)) (grows.keeps d n h one here)
at_changed nodes x old new y false other is grows d n h one at =
    subst (λ o. AtLeast (rt_in o) d n h) (sym (set_other nodes x y new (eqb-false y x other))) at

pub follows_of : (w w' : World) (x : ℕ) (old new : Node) → slice_get w.nodes x ≡ Some old → w'.nodes ≡ set w.nodes x new → Grows (old.core).rt (new.core).rt → Follows (table w) (table w')
follows_of w w' x old new is nodes grows = record {
  keeps = λ y d n h one at. subst (λ ns. AtLeast (rt_in (slice_get ns y)) d n h) (sym nodes) (at_changed w.nodes x old new y (y == x) refl is grows d n h one at);
}

pub each_node : (P : ℕ → Node → Type 0) (nodes : List Node) (x : ℕ) (old new : Node) → slice_get nodes x ≡ Some old → P x new → ((y : ℕ) (n : Node) → slice_get nodes y ≡ Some n → P y n)
    → (y : ℕ) (n : Node) (b : Bool) → (y == x) ≡ b → slice_get (set nodes x new) y ≡ Some n → P y n
each_node P nodes x old new is here others y n true same found =
    let e : y ≡ x = eqb-true y x same in
    let m : new ≡ n = same_Some new n (sym (ap (slice_get (set nodes x new)) e ∙ set_same nodes x new old is) ∙ found) in
    subst (λ k. P k n) (sym e) (subst (P x) m here)
each_node P nodes x old new is here others y n false other found =
    others y n (sym (set_other nodes x y new (eqb-false y x other)) ∙ found)

-- a world in which one node has become another, and more copies fly
node_kept : (w w' : World) (x : ℕ) (old new : Node) → IsLoopSafe w → slice_get w.nodes x ≡ Some old → w'.nodes ≡ set w.nodes x new
    → Grows (old.core).rt (new.core).rt → (new.core).ip ≡ x → IsLoopSafeNode (table w) new
    → AllByRecursion (IsHonestCopy (table w')) w'.flying → IsLoopSafe w'
node_kept w w' x old new inv is nodes grows named good flying =
    let follows : Follows (table w) (table w') = follows_of w w' x old new is nodes grows in
    record {
      nodes = λ y n found. each_node (λ y n. IsLoopSafeNode (table w') n) w.nodes x old new is
          (node_stays (table w) (table w') follows new good)
          (λ y n there. node_stays (table w) (table w') follows n (inv.nodes y n there))
          y n (y == x) refl (subst (λ ns. slice_get ns y ≡ Some n) nodes found);
      flying = flying;
      named = λ y n found. each_node (λ y n. (n.core).ip ≡ y) w.nodes x old new is named inv.named y n (y == x) refl (subst (λ ns. slice_get ns y ≡ Some n) nodes found);
    }

flying_stays : (w w' : World) → Follows (table w) (table w') → AllByRecursion (IsHonestCopy (table w)) w.flying → AllByRecursion (IsHonestCopy (table w')) w.flying
flying_stays w w' follows all = each_map (IsHonestCopy (table w)) (IsHonestCopy (table w')) (copy_stays (table w) (table w') follows) w.flying all

done_kept : (w : World) (x : ℕ) (n : Node) (did : Reaction) (queue : List Item) → IsLoopSafe w → slice_get w.nodes x ≡ Some n → IsOk (table w) n.core did → AllByRecursion (IsHonestItem (table w)) queue → IsLoopSafe (done_by w x did queue)
unfolding done_by
done_kept w x n did queue inv is ok honest =
    let new : Node = record { core = did.core; queue = queue } in
    let w' : World = done_by w x did queue in
    let follows : Follows (table w) (table w') = follows_of w w' x n new is refl ok.leads.grows in
    let named : (n.core).ip ≡ x = inv.named x n is in
    let mine : table w' x ≡ (did.core).rt = ap rt_in (set_same w.nodes x new n is) in
    node_kept w w' x n new inv is refl ok.leads.grows (ok.named ∙ named)
    (record { numbers = record { own = ok.number; entries = ok.leads.fine.sound }; entries = ok.leads.fine.backed; queue = honest })
    (each_append (IsHonestCopy (table w')) w.flying _ (flying_stays w w' follows inv.flying)
    (copies_honest (table w') w x (did.effect).cast
    (subst (λ rt. IsHonestCast rt x (did.effect).cast) (sym mine) (subst (λ ip. IsHonestCast (did.core).rt ip (did.effect).cast) named ok.cast))))

-- ---- what leaves the nodes alone

same_nodes : (w w' : World) → w'.nodes ≡ w.nodes → IsLoopSafe w → AllByRecursion (IsHonestCopy (table w)) w'.flying → IsLoopSafe w'
same_nodes w w' nodes inv flying = record {
  nodes = λ x n found. subst (λ ns. IsLoopSafeNode (λ y. rt_in (slice_get ns y)) n) (sym nodes) (inv.nodes x n (subst (λ ns. slice_get ns x ≡ Some n) nodes found));
  flying = subst (λ ns. AllByRecursion (IsHonestCopy (λ y. rt_in (slice_get ns y))) w'.flying) (sym nodes) flying;
  named = λ x n found. inv.named x n (subst (λ ns. slice_get ns x ≡ Some n) nodes found);
}

item_kept : (w : World) (x : ℕ) (o : Option Node) (item : Item) → IsLoopSafe w → slice_get w.nodes x ≡ o → IsHonestItem (table w) item → IsLoopSafe (with_item w x o item)
item_kept w x None item inv is honest = inv
item_kept w x (Some n) item inv is honest =
    let new : Node = record n { queue = n.queue ++ item ∷ [] } in
    let w' : World = with_item w x (Some n) item in
    let grows : Grows (n.core).rt (n.core).rt = record { keeps = λ d n h one at. at } in
    let good : IsLoopSafeNode (table w) n = inv.nodes x n is in
    node_kept w w' x n new inv is refl grows (inv.named x n is)
    (record { numbers = good.numbers; entries = good.entries; queue = each_append (IsHonestItem (table w)) n.queue (item ∷ []) good.queue (honest, tt) })
    (flying_stays w w' (follows_of w w' x n new is refl grows) inv.flying)

push_kept : (w : World) (x : ℕ) (item : Item) → IsLoopSafe w → IsHonestItem (table w) item → IsLoopSafe (push w x item)
unfolding push
push_kept w x item inv honest = item_kept w x (slice_get w.nodes x) item inv refl honest

pub found_here : (P : Copy → Type 0) (b : Bool) (c d : Copy) (rest : Option Copy) → P c → (rest ≡ Some d → P d) → (if b then Some c else rest) ≡ Some d → P d
found_here P true c d rest here more is = subst P (same_Some c d is) here
found_here P false c d rest here more is = more is

pub found_honest : (P : Copy → Type 0) (cs : List Copy) (id : ℕ) (c : Copy) → AllByRecursion P cs → find_copy cs id ≡ Some c → P c
found_honest P [] id c all is = absurd (none-some c is)
found_honest P (d ∷ ds) id c all is = found_here P (d.id == id) d c (find_copy ds id) all.0 (found_honest P ds id c all.1) is

pub without_honest : (P : Copy → Type 0) (cs : List Copy) (id : ℕ) → AllByRecursion P cs → AllByRecursion P (without cs id)
unfolding without
without_honest P cs id all = each_filter P (λ c. not (c.id == id)) cs all

-- the flight without one
lighter : (w : World) (id : ℕ) → IsLoopSafe w → IsLoopSafe (without_copy w id)
lighter w id inv = same_nodes w (without_copy w id) refl inv (without_honest (IsHonestCopy (table w)) w.flying id inv.flying)

pub step_kept : (w : World) (e : Event) → IsLoopSafe w → IsLoopSafe (after w (step w e))
step_kept w e inv = by_cases w (λ e o. IsLoopSafe (after w o)) (record {
  idle = λ e none. inv;
  full = λ e x n f is full. inv;
  given = λ x d b n is. push_kept w x (New b d) inv tt;
  taken = λ x core item items is free.
      let n : Node = record { core = core; queue = item ∷ items } in
      let good : IsLoopSafeNode (table w) n = inv.nodes x n is in
      done_kept w x n (turn core (range w x) item) items inv is (turn_ok (table w) core (range w x) item (fit (table w) n good) good.queue.0) good.queue.1;
  sent = λ x d n is may free. done_kept w x n (send n.core (range w x) d) n.queue inv is (send_ok (table w) n.core (range w x) d (fit (table w) n (inv.nodes x n is))) (inv.nodes x n is).queue;
  asked = λ x d n is may free. done_kept w x n (ask n.core d) n.queue inv is (ask_ok (table w) n.core d (fit (table w) n (inv.nodes x n is))) (inv.nodes x n is).queue;
  linked = λ a b apart. same_nodes w (with_link w a b) refl inv inv.flying;
  cut = λ a b stands. same_nodes w (without_link w a b) refl inv inv.flying;
  heard = λ id c is. push_kept (without_copy w id) c.to (Heard c.from c.message) (lighter w id inv) (found_honest (IsHonestCopy (table w)) w.flying id c inv.flying is);
  lost = λ id c is. lighter w id inv;
  doubled = λ id c is. same_nodes w (with_double w c) refl inv
      (each_append (IsHonestCopy (table w)) w.flying (double_of w c ∷ []) inv.flying (found_honest (IsHonestCopy (table w)) w.flying id c inv.flying is, tt));
}) e

-- ---- runs

pub run_kept : (w : World) (es : List Event) → IsLoopSafe w → IsLoopSafe (run w es)
unfolding run
run_kept w [] inv = inv
run_kept w (e ∷ es) inv = run_kept (after w (step w e)) es (step_kept w e inv)

pub opening_good : (tables : ℕ → Table) (variant : Variant) (ip : ℕ) (firsts : List ℕ) → AllByRecursion (λ n. 1 ≤ n) firsts → (x : ℕ) (n : Node) → slice_get (openings variant ip firsts) x ≡ Some n → IsLoopSafeNode tables n × ((n.core).ip ≡ ip + x)
opening_good tables variant ip [] all x n is = absurd (none-some n is)
opening_good tables variant ip (first ∷ firsts) all zero n is =
    let P : Node → Type 0 = λ n. IsLoopSafeNode tables n × ((n.core).ip ≡ ip + 0) in
    subst P (same_Some _ n is) (
      record {
        numbers = record { own = all.0; entries = λ d e there. absurd (none-some e (sym (maps.get-empty nat_cmp d) ∙ there)) };
        entries = λ d e there. absurd (none-some e (sym (maps.get-empty nat_cmp d) ∙ there));
        queue = tt;
      },
      omega arith,
    )
opening_good tables variant ip (first ∷ firsts) all (suc x) n is =
    let later = opening_good tables variant (ip + 1) firsts all.1 x n is in
    (later.0, let e = later.1 in omega arith)

pub start_kept : (variant : Variant) (firsts : List ℕ) → AllByRecursion (λ n. 1 ≤ n) firsts → IsLoopSafe (start variant firsts)
unfolding start
start_kept variant firsts all = record {
  nodes = λ x n is. (opening_good (table (start variant firsts)) variant 0 firsts all x n is).0;
  flying = tt;
  named = λ x n is. let e = (opening_good (table (start variant firsts)) variant 0 firsts all x n is).1 in omega arith;
}
