-- The only counter that a step of a run can find at its end is a sequence number.
use Rattle.std.proofs.Common.{◌≡◌, ℕ, ◌+◌, ◌≤◌, Bool, true, false, not, ◌&&◌, ◌==◌, List, [], ◌∷◌, length, Some, None, refl, sym, ◌∙◌, subst, arith}
use Rattle.std.specs.Prelude.{slice_get, if◌then◌else◌}
use Rattle.std.proofs.lemmas.Bool.Decides.{nat_tests}
use Rattle.std.proofs.lemmas.Option.{none-some, same_Some}
use Rattle.std.specs.List.{AllByRecursion}
use Rattle.std.proofs.lemmas.Map.Steps.{length-le_from_distinct_below}
use Rattle.mesh_base.specs.declared.events.Full.{Full as Counter}
use Rattle.mesh_base.specs.declared.events.Full.TheVariants as full
use Rattle.mesh_base.specs.declared.events.Variant.{Variant}
use Rattle.aodv_model.proofs.Numbers.{ask_fills_number}
use Rattle.aodv_model.specs.Cores.{Core, Heard, Item, New, Pkt, Rerr, Rrep, Rreq, has_seen}
use Rattle.aodv_model.specs.Fullness.{greatest, is_hop_full, is_number_full, after_learning}
use Rattle.aodv_model.specs.Handlers.{key_of, send, turn}
use Rattle.mesh_model.proofs.Cases.{Refuses, by_cases, front_full}
use Rattle.mesh_model.proofs.Honest.{front_distinct, front_long, front_within, run_trails, start_trails}
use Rattle.mesh_model.proofs.Lists.{each_map}
use Rattle.mesh_model.proofs.NumberSteps.{IsWithin, run_within, start_within}
use Rattle.mesh_model.proofs.Sizes.{run_size, start_size}
use Rattle.mesh_model.proofs.Steps.{start_kept}
use Rattle.mesh_model.specs.Invariants.{IsLoopSafe}
use Rattle.mesh_model.specs.Trails.{HasReplyWalk, HasRequestWalk, HasWalks, IsBackedWalk, ItemHasWalk, around, front}
use Rattle.mesh_model.specs.Worlds.{AreFirstNumbers, Ask, Event, Next, WorldEffect, Node, Outcome, Send, Full, Turn, World, range, run, start, step}

-- ---- hops

-- a walk has no more hops than there are nodes
pub walk_within : (v : Variant) (w : World) (d n h from : ℕ) (others : List ℕ) → IsBackedWalk (around v w) d n (from ∷ others) → length (from ∷ others) ≡ h + 1 → h ≤ length w.nodes
walk_within v w d n h from others walk long =
    let bound : length (front (from ∷ others)) ≤ length w.nodes = length-le_from_distinct_below (front (from ∷ others)) (length w.nodes) (front_distinct (around v w) d n from others walk) (front_within v w d n from others walk) in
    let all : length (front (from ∷ others)) + 1 ≡ length (from ∷ others) = front_long from others in
    omega arith

few_hops : (h size : ℕ) (b : Bool) → h ≤ size → size ≤ 200 → ((h == 255) && b) ≡ false
few_hops h size b l few = other (h == 255) (not_there h (omega arith))
  where
    not_there : (h : ℕ) → h ≤ 200 → (h == 255) ≡ false
    not_there h l = grind (arith, nat_tests)

    other : (a : Bool) → a ≡ false → (a && b) ≡ false
    other true e = absurd (wrong e)
      where
        wrong : true ≡ false → ⊥
        wrong e = cc
    other false e = refl

hop_free : (v : Variant) (w : World) (x : ℕ) (core : Core) (item : Item) → length w.nodes ≤ 200 → ItemHasWalk (around v w) x item → is_hop_full core item ≡ false
hop_free v w x core (New b d) few t = refl
hop_free v w x core (Heard from (Pkt b d o)) few t = refl
hop_free v w x core (Heard from (Rreq m)) few t =
    let r : HasRequestWalk (around v w) from m.oip m.osn m.hops (key_of v m) = t.1 in
    few_hops m.hops (length w.nodes) (not (has_seen core.seen (key_of core.variant m))) (walk_within v w m.oip m.osn m.hops from r.others r.walk r.long) few
hop_free v w x core (Heard from (Rrep m)) few t =
    let r : HasReplyWalk (around v w) from m.dip m.dsn m.hops = t.1 in
    alone (m.hops == 255) (few_hops m.hops (length w.nodes) true (walk_within v w m.dip m.dsn m.hops from r.others r.walk r.long) few)
  where
    alone : (b : Bool) → (b && true) ≡ false → b ≡ false
    alone true e = e
    alone false e = refl
hop_free v w x core (Heard from (Rerr dests)) few t = refl

-- ---- outcomes

-- where it is a refusal it is for a number
abbrev Fills : Outcome → Type 0
Fills o = (x : ℕ) (f : Counter) → o ≡ Full x f → f ≡ full.Number

goes_fills : (w : World) (h : WorldEffect) → Fills (Next w h)
goes_fills w h x f is = cc

-- the order in which the counters are tried
number_first : (a b : Bool) (f : Counter) → a ≡ false → (if a then Some full.Hops else if b then Some full.Number else None) ≡ Some f → f ≡ full.Number
number_first true b f free is = cc
number_first false true f free is = sym (same_Some full.Number f is)
number_first false false f free is = absurd (none-some f is)

front_number : (v : Variant) (w : World) (x : ℕ) (core : Core) (queue : List Item) (f : Counter) → length w.nodes ≤ 200 → AllByRecursion (ItemHasWalk (around v w) x) queue → front_full core (range w x) queue ≡ Some f → f ≡ full.Number
front_number v w x core [] f few walks is = absurd (none-some f is)
front_number v w x core (item ∷ items) f few walks is =
    number_first (is_hop_full core item) (is_number_full (after_learning core item).rt ((turn core (range w x) item).effect).broken) f (hop_free v w x core item few walks.0) is

only_number : (v : Variant) (w : World) (e : Event) (x : ℕ) (n : Node) (f : Counter) → length w.nodes ≤ 200 → HasWalks v w → IsWithin w → slice_get w.nodes x ≡ Some n → Refuses (range w x) e x n f → f ≡ full.Number
only_number v w (Turn y) x n f few trails all is full = front_number v w x n.core n.queue f few (trails.nodes x n is).queue full.1
only_number v w (Send y d) x n f few trails all is full = number_first false (is_number_full (n.core).rt ((send n.core (range w x) d).effect).broken) f refl full.1
only_number v w (Ask y d) x n f few trails all is full = ask_fills_number x n.core f (all.nodes x n is).core full.1
only_number v w others x n f few trails all is full = absurd full

step_fills : (v : Variant) (w : World) (e : Event) → length w.nodes ≤ 200 → HasWalks v w → IsWithin w → Fills (step w e)
step_fills v w e few trails all = by_cases w (λ e. Fills) (record {
  idle = λ e none x f is. cc;
  full = λ e x n f is full y g same. let one : f ≡ g = cc in sym one ∙ only_number v w e x n f few trails all is full;
  given = λ x d b n is. goes_fills _ _;
  taken = λ x core item items is free. goes_fills _ _;
  sent = λ x d n is may free. goes_fills _ _;
  asked = λ x d n is may free. goes_fills _ _;
  linked = λ a b apart. goes_fills _ _;
  cut = λ a b stands. goes_fills _ _;
  heard = λ id c is. goes_fills _ _;
  lost = λ id c is. goes_fills _ _;
  doubled = λ id c is. goes_fills _ _;
}) e

pub only_numbers_fill : (v : Variant) (firsts : List ℕ) (events : List Event) (event : Event) (x : ℕ) (f : Counter) → AreFirstNumbers firsts → step (run (start v firsts) events) event ≡ Full x f → f ≡ full.Number
only_numbers_fill v firsts events event x f ok =
    let inv : IsLoopSafe (start v firsts) = start_kept v firsts (each_map (λ n. (1 ≤ n) × (n ≤ greatest)) (λ n. 1 ≤ n) (λ n l. l.0) firsts ok.numbers) in
    let size : length (run (start v firsts) events).nodes ≡ length firsts = run_size (start v firsts) events ∙ start_size v firsts in
    step_fills v (run (start v firsts) events) event (subst (λ k. k ≤ 200) (sym size) ok.few)
    (run_trails v (start v firsts) events inv (start_trails v firsts)).1
    (run_within v (start v firsts) events inv (start_trails v firsts) (start_within v firsts ok.numbers)) x f
