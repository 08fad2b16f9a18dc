-- Every event of the mesh keeps the account, and so does every run.
use Rattle.std.proofs.Common.{◌≡◌, ℕ, zero, suc, ◌+◌, ◌<◌, ◌≤◌, Bool, true, false, cond, not, ◌==◌, List, [], ◌∷◌, ◌++◌, set, length, length-set, Some, refl, ap, sym, ◌∙◌, subst, arith}
use Rattle.std.specs.Prelude.{slice_get, if◌then◌else◌, filter}
use Rattle.std.specs.List.{AllByRecursion}
use Rattle.std.specs.Ordering.{nat_cmp}
use Rattle.std.proofs.lemmas.Bool.{eqb-true}
use Rattle.std.proofs.lemmas.Option.{none-some, same_Some, slice_get_within as is_within}
use Rattle.std.specs.FinMap as maps
use Rattle.mesh_base.specs.declared.events.Full.{Full as Counter}
use Rattle.mesh_base.specs.declared.events.Variant.{Variant}
use Rattle.mesh_base.proofs.Lemmas.Lists.{some_at}
use Rattle.aodv_model.specs.Cores.{Item, New, Heard, bodies_in}
use Rattle.aodv_model.specs.Handlers.{Reaction, took, turn, send, ask}
use Rattle.aodv_model.proofs.SoundTurns.{Stands, Settles, turn_settles, send_settles, ask_settles}
use Rattle.mesh_model.proofs.Cases.{NamesNoCopy, Refuses, by_cases}
use Rattle.mesh_model.specs.Worlds.{Full, World, Node, Copy, Event, Double, range, copies, done_by, push, with_item, find_copy, without, Outcome, Idle, without_copy, double_of, step, after, run, openings, start}
use Rattle.mesh_model.specs.InMesh.{IsNodeInMesh, IsCopyInMesh, AreNumbered, IsInMesh, IsEvent}
use Rattle.mesh_model.specs.Accounts.{Test, total, total_below, counts, in_item, in_store, in_copy, waiting, queued_data, in_flight, given_data, doubled_data, in_found, in_taken, delivered_data, in_dropped, dropped_data, over_run, over_worlds}
use Rattle.mesh_model.proofs.Totals.{total-append, total-set, total_below_same}
use Rattle.mesh_model.proofs.AccountTurns.{IsAccounted, turn_accounted, send_accounted, ask_accounted}
use Rattle.mesh_model.proofs.Steps.{found_honest}
use Rattle.mesh_model.proofs.MeshSteps.{own, step_placed, start_placed}
use Rattle.mesh_model.proofs.Sizes.{same_size, start_size}

-- all that is in the world
abbrev in_world : Test → World → ℕ
in_world t w = waiting t w + queued_data t w + in_flight t w

abbrev stored : Test → ℕ → Node → ℕ
stored t size n = in_store t size (n.core).ip (n.core).store

abbrev lined : Test → Node → ℕ
lined t n = total (in_item t (n.core).ip) n.queue

-- one node has done something: what it had, and `had` more that it took
done_sum : (t : Test) (w : World) (x : ℕ) (n : Node) (had out gone : ℕ) (did : Reaction) (queue : List Item) → slice_get w.nodes x ≡ Some n → (n.core).ip ≡ x → (did.core).ip ≡ x
    → IsAccounted t w x n.core had out gone did → lined t n ≡ had + total (in_item t x) queue
    → in_world t (done_by w x did queue) + (if (did.effect).deliver then out else 0) + (if (did.effect).lost then gone else 0) ≡ in_world t w
unfolding waiting queued_data in_flight done_by
done_sum t w x n had out gone did queue is named same account split =
    let size = length w.nodes in
    let new : Node = record { core = did.core; queue = queue } in
    let kept : total (stored t size) (set w.nodes x new) + stored t size n ≡ total (stored t size) w.nodes + stored t size new = total-set (stored t size) w.nodes x n new is in
    let moved : total (lined t) (set w.nodes x new) + lined t n ≡ total (lined t) w.nodes + lined t new = total-set (lined t) w.nodes x n new is in
    let grown : total (in_copy t) (w.flying ++ copies w x (did.effect).cast) ≡ total (in_copy t) w.flying + total (in_copy t) (copies w x (did.effect).cast) = total-append (in_copy t) w.flying _ in
    let sized : total (stored t (length (set w.nodes x new))) (set w.nodes x new) ≡ total (stored t size) (set w.nodes x new) = ap (λ k. total (stored t k) (set w.nodes x new)) (length-set w.nodes x new) in
    let mine : stored t size new ≡ in_store t size (n.core).ip (did.core).store = ap (λ k. in_store t size k (did.core).store) (same ∙ sym named) in
    let line : lined t new ≡ total (in_item t x) queue = ap (λ k. total (in_item t k) queue) same in
    let sum = account.sum in
    omega arith

item_sum : (t : Test) (w : World) (x : ℕ) (n : Node) (item : Item) → slice_get w.nodes x ≡ Some n → (n.core).ip ≡ x → in_world t (with_item w x (Some n) item) ≡ in_world t w + in_item t x item
unfolding waiting queued_data in_flight
item_sum t w x n item is named =
    let size = length w.nodes in
    let new : Node = record n { queue = n.queue ++ item ∷ [] } in
    let kept : total (stored t size) (set w.nodes x new) + stored t size n ≡ total (stored t size) w.nodes + stored t size new = total-set (stored t size) w.nodes x n new is in
    let moved : total (lined t) (set w.nodes x new) + lined t n ≡ total (lined t) w.nodes + lined t new = total-set (lined t) w.nodes x n new is in
    let sized : total (stored t (length (set w.nodes x new))) (set w.nodes x new) ≡ total (stored t size) (set w.nodes x new) = ap (λ k. total (stored t k) (set w.nodes x new)) (length-set w.nodes x new) in
    let more : total (in_item t (n.core).ip) (n.queue ++ item ∷ []) ≡ total (in_item t (n.core).ip) n.queue + total (in_item t (n.core).ip) (item ∷ []) = total-append (in_item t (n.core).ip) n.queue (item ∷ []) in
    let mine : in_item t (n.core).ip item ≡ in_item t x item = ap (λ k. in_item t k item) named in
    omega arith

push_sum : (t : Test) (w : World) (x : ℕ) (n : Node) (item : Item) → slice_get w.nodes x ≡ Some n → (n.core).ip ≡ x → in_world t (push w x item) ≡ in_world t w + in_item t x item
unfolding push
push_sum t w x n item is named = ap (λ o. in_world t (with_item w x o item)) is ∙ item_sum t w x n item is named

-- ---- copies

all_stay : (f : Copy → ℕ) (low next id : ℕ) (cs : List Copy) → id < low → AreNumbered low cs next → total f (filter (λ c. not (c.id == id)) cs) ≡ total f cs
all_stay f low next id [] l numbered = refl
all_stay f low next id (c ∷ cs) l numbered = at (c.id == id) refl (all_stay f (c.id + 1) next id cs (let le = numbered.0 in omega arith) numbered.1)
  where
    at : (b : Bool) → (c.id == id) ≡ b → total f (filter (λ c. not (c.id == id)) cs) ≡ total f cs → total f (cond (not b) (c ∷ filter (λ c. not (c.id == id)) cs) (filter (λ c. not (c.id == id)) cs)) ≡ f c + total f cs
    at true e rest = let here = eqb-true c.id id e in let le = numbered.0 in absurd (omega arith)
    at false e rest = omega arith

gone_case : (f : Copy → ℕ) (next id : ℕ) (d c : Copy) (cs : List Copy) (b : Bool) → (d.id == id) ≡ b → AreNumbered (d.id + 1) cs next → (if b then Some d else find_copy cs id) ≡ Some c
    → (find_copy cs id ≡ Some c → total f (filter (λ c. not (c.id == id)) cs) + f c ≡ total f cs)
    → total f (cond (not b) (d ∷ filter (λ c. not (c.id == id)) cs) (filter (λ c. not (c.id == id)) cs)) + f c ≡ f d + total f cs
gone_case f next id d c cs true e numbered is rest =
    let same = ap f (same_Some d c is) in
    let here = eqb-true d.id id e in
    let stay = all_stay f (d.id + 1) next id cs (omega arith) numbered in
    omega arith
gone_case f next id d c cs false e numbered is rest = let r = rest is in omega arith

one_goes : (f : Copy → ℕ) (low next id : ℕ) (c : Copy) (cs : List Copy) → AreNumbered low cs next → find_copy cs id ≡ Some c → total f (filter (λ c. not (c.id == id)) cs) + f c ≡ total f cs
one_goes f low next id c [] numbered is = absurd (none-some c is)
one_goes f low next id c (d ∷ ds) numbered is = gone_case f next id d c ds (d.id == id) refl numbered.1 is (one_goes f (d.id + 1) next id c ds numbered.1)

lighter_sum : (t : Test) (w : World) (id : ℕ) (c : Copy) → IsInMesh w → find_copy w.flying id ≡ Some c → in_world t (without_copy w id) + in_copy t c ≡ in_world t w
unfolding waiting queued_data in_flight without
lighter_sum t w id c places is = let e = one_goes (in_copy t) 1 w.next_copy id c w.flying places.numbered is in omega arith

-- ---- outcomes

-- what comes and what goes
abbrev Balanced : Test → World → Event → Outcome → Type 0
Balanced t w e o = in_world t (after w o) + delivered_data t e o + dropped_data t e o ≡ in_world t w + given_data t e o + doubled_data t w e

nothing : (b : Bool) (z : ℕ) → (if b then z else z) ≡ z
nothing true z = refl
nothing false z = refl

none_more : {a b : ℕ} → a ≡ b → a ≡ 0 + b
none_more e = omega (arith, e)

-- a send, or a request
own_sum : (t : Test) (w : World) (x : ℕ) (n : Node) (did : Reaction) → IsInMesh w → slice_get w.nodes x ≡ Some n → Settles (length w.nodes) x did → IsAccounted t w x n.core 0 0 0 did → in_world t (done_by w x did n.queue) ≡ in_world t w
own_sum t w x n did places is settles account =
    let named : (n.core).ip ≡ x = (places.nodes x n is).named in
    let c : Stands (length w.nodes) x did.core = settles.core in
    let sum = done_sum t w x n 0 0 0 did n.queue is named c.named account (none_more (ap (λ k. total (in_item t k) n.queue) named)) in
    let a = nothing (did.effect).deliver 0 in
    let b = nothing (did.effect).lost 0 in
    omega arith

idle_balanced : (t : Test) (w : World) (e : Event) → NamesNoCopy w e → Balanced t w e Idle
idle_balanced t w (Double id) none = let nothing = ap (in_found t) none in omega arith
idle_balanced t w others none = refl

full_balanced : (t : Test) (w : World) (e : Event) (x : ℕ) (n : Node) (f : Counter) → Refuses (range w x) e x n f → Balanced t w e (Full x f)
full_balanced t w (Double id) x n f full = absurd full
full_balanced t w others x n f full = refl

step_balanced_sum : (t : Test) (w : World) (e : Event) → IsEvent (length w.nodes) e → IsInMesh w → Balanced t w e (step w e)
unfolding waiting queued_data in_flight
step_balanced_sum t w e ok places = by_cases w (λ e o. IsEvent (length w.nodes) e → Balanced t w e o) (record {
  idle = λ e none ok. idle_balanced t w e none;
  full = λ e x n f is full ok. full_balanced t w e x n f full;
  given = λ x d b n is ok. let e = push_sum t w x n (New b d) is (places.nodes x n is).named in omega arith;
  taken = λ x core item items is free ok.
      let n : Node = record { core = core; queue = item ∷ items } in
      let p : IsNodeInMesh (length w.nodes) x n = places.nodes x n is in
      let s : Settles (length w.nodes) x (turn core (range w x) item) = turn_settles (length w.nodes) x core (range w x) item (own w x n places is) p.queue.0 in
      let c : Stands (length w.nodes) x (turn core (range w x) item).core = s.core in
      let named : core.ip ≡ x = p.named in
      let sum = done_sum t w x n (in_item t core.ip item) (in_taken t x (took core item)) (in_dropped t (took core item)) (turn core (range w x) item) items is named c.named
      (subst (λ k. IsAccounted t w x core (in_item t core.ip item) (in_taken t k (took core item)) (in_dropped t (took core item)) (turn core (range w x) item)) named (turn_accounted t w x x core item p.queue.0))
      (ap (λ k. in_item t core.ip item + total (in_item t k) items) named) in
      omega arith;
  sent = λ x d n is may free ok.
      let sum = own_sum t w x n (send n.core (range w x) d) places is (send_settles (length w.nodes) x n.core (range w x) d (own w x n places is) (is_within w.nodes x n is) may) (send_accounted t w x n.core d ok.1 may) in
      omega arith;
  asked = λ x d n is may free ok.
      let sum = own_sum t w x n (ask n.core d) places is (ask_settles (length w.nodes) x n.core d (own w x n places is) (is_within w.nodes x n is) ok.1) (ask_accounted t w x n.core d) in
      omega arith;
  linked = λ a b apart ok. refl;
  cut = λ a b stands ok. refl;
  heard = λ id c is ok.
      let p : IsCopyInMesh (length w.nodes) c = found_honest (IsCopyInMesh (length w.nodes)) w.flying id c places.flying is in
      let n = some_at w.nodes c.to p.1 in
      let light = lighter_sum t w id c places is in
      let e = push_sum t (without_copy w id) c.to n.0 (Heard c.from c.message) n.1 (places.nodes c.to n.0 n.1).named in
      omega arith;
  lost = λ id c is ok. let light = lighter_sum t w id c places is in omega arith;
  doubled = λ id c is ok.
      let all = total-append (in_copy t) w.flying (double_of w c ∷ []) in
      let one = ap (in_found t) is in
      omega arith;
}) e ok

pub step_balanced : (t : Test) (w : World) (e : Event) → IsEvent (length w.nodes) e → IsInMesh w
    → waiting t (after w (step w e)) + queued_data t (after w (step w e)) + in_flight t (after w (step w e)) + delivered_data t e (step w e) + dropped_data t e (step w e)
    ≡ waiting t w + queued_data t w + in_flight t w + given_data t e (step w e) + doubled_data t w e
step_balanced t w e ok places = step_balanced_sum t w e ok places

-- ---- runs

run_balanced : (t : Test) (w : World) (es : List Event) → AllByRecursion (IsEvent (length w.nodes)) es → IsInMesh w
    → in_world t w + over_run (given_data t) w es + over_worlds (doubled_data t) w es ≡ over_run (delivered_data t) w es + in_world t (run w es) + over_run (dropped_data t) w es
unfolding over_run over_worlds run
run_balanced t w [] all places = omega arith
run_balanced t w (e ∷ es) all places =
    let w' : World = after w (step w e) in
    let one = step_balanced t w e all.0 places in
    let rest = run_balanced t w' es (subst (λ k. AllByRecursion (IsEvent k) es) (sym (same_size w e)) all.1) (step_placed w e all.0 places) in
    omega arith

empty_store : (t : Test) (size x : ℕ) → in_store t size x maps.empty ≡ 0
unfolding in_store
empty_store t size x = total_below_same size _ (λ d. 0) (λ q. ap (λ o. total (counts t x q) (bodies_in o)) (maps.get-empty nat_cmp q)) ∙ zeros size
  where
    zeros : (n : ℕ) → total_below n (λ d. 0) ≡ 0
    zeros zero = refl
    zeros (suc n) = omega (arith, zeros n)

none_stored : (t : Test) (size : ℕ) (v : Variant) (ip : ℕ) (firsts : List ℕ) → total (stored t size) (openings v ip firsts) ≡ 0
none_stored t size v ip [] = refl
none_stored t size v ip (first ∷ firsts) = let e = empty_store t size ip in let rest = none_stored t size v (ip + 1) firsts in omega arith

none_lined : (t : Test) (v : Variant) (ip : ℕ) (firsts : List ℕ) → total (lined t) (openings v ip firsts) ≡ 0
none_lined t v ip [] = refl
none_lined t v ip (first ∷ firsts) = omega (arith, none_lined t v (ip + 1) firsts)

pub start_empty : (t : Test) (v : Variant) (firsts : List ℕ) → in_world t (start v firsts) ≡ 0
unfolding start waiting queued_data in_flight
start_empty t v firsts = let a = none_stored t (length (openings v 0 firsts)) v 0 firsts in let b = none_lined t v 0 firsts in omega arith

pub account : (t : Test) (v : Variant) (firsts : List ℕ) (es : List Event) → AllByRecursion (λ n. 1 ≤ n) firsts → AllByRecursion (IsEvent (length firsts)) es
    → over_run (given_data t) (start v firsts) es + over_worlds (doubled_data t) (start v firsts) es
    ≡ over_run (delivered_data t) (start v firsts) es
    + waiting t (run (start v firsts) es) + queued_data t (run (start v firsts) es) + in_flight t (run (start v firsts) es)
    + over_run (dropped_data t) (start v firsts) es
account t v firsts es all ok =
    let sum = run_balanced t (start v firsts) es (subst (λ k. AllByRecursion (IsEvent k) es) (sym (start_size v firsts)) ok) (start_placed v firsts all) in
    let none = start_empty t v firsts in
    omega arith
