-- The least of a kind by a set of them, and that what is chosen is enabled.
use Rattle.std.proofs.Common.{◌≡◌, ◌≢◌, ℕ, zero, suc, ◌+◌, ◌<◌, ◌≤◌, Bool, true, false, ◌==◌, List, [], ◌∷◌, length, Some, None, Option, refl, ap, sym, ◌∙◌, subst, arith, inl, inr, eq-eqb}
use Rattle.std.specs.Prelude.{if◌then◌else◌, is_some, option_map, slice_get}
use Rattle.std.proofs.lemmas.Bool.{cases_eq}
use Rattle.std.proofs.lemmas.Option.{none-some, same_Some}
use Rattle.std.specs.FinSet as sets
use Rattle.mesh_base.specs.Members.{NodeIds, IsLeastFrom}
use Rattle.mesh_base.specs.declared.events.Full.{Full as Counter}
use Rattle.aodv_model.specs.Cores.{Item}
use Rattle.aodv_model.specs.Handlers.{send, ask}
use Rattle.aodv_model.specs.Fullness.{turn_full, send_full, ask_full}
use Rattle.mesh_model.specs.Worlds.{World, Node, Copy, Event, Turn, Send, Ask, Deliver, WorldEffect, Sent, Outcome, Idle, Next, range, done_by, copies, unless_full, turn_of, send_of, ask_of, at_node, at_copy, find_copy, step}
use Rattle.mesh_model.specs.Choices.{waits, least_from, beside, least_pair_from, may_turn_in, may_send_in, may_ask_in, first_turn, first_send_in, first_ask_in, first_send, first_ask, first_copy, first_of, pick}

-- ---- the least by a set

module _ (n : ℕ) (s : NodeIds) (p : ℕ → Bool) (same : (q : ℕ) → q < n → sets.contains s q ≡ p q) (below : (q : ℕ) → sets.contains s q ≡ true → q < n) where
  found_here : (i : ℕ) (r : Option ℕ) → sets.contains s i ≡ true → IsLeastFrom s i r → r ≡ Some i
  found_here i None is least = absurd (differ (least i (omega arith)))
    where
      differ : sets.contains s i ≡ false → ⊥
      differ other = cc
  found_here i (Some m) is least = elim (cases_eq m i) [ inl e ↦ ap Some e | inr other ↦ absurd (differ (least.2 i (omega arith) (let above : i ≤ m = least.0 in omega arith))) ]
    where
      differ : sets.contains s i ≡ false → ⊥
      differ other = cc

  found_later : (i : ℕ) (r : Option ℕ) → sets.contains s i ≡ false → IsLeastFrom s i r → IsLeastFrom s (i + 1) r
  found_later i None other least = λ q above. least q (omega arith)
  found_later i (Some m) other least = (elim (cases_eq m i) [ inl e ↦ absurd (differ (subst (λ k. sets.contains s k ≡ true) e least.1)) | inr apart ↦ (let above : i ≤ m = least.0 in omega arith) ], least.1, λ q above under. least.2 q (omega arith) under)
    where
      differ : sets.contains s i ≡ true → ⊥
      differ is = cc

  least_case : (i k : ℕ) (r : Option ℕ) (b : Bool) → i < n → p i ≡ b → IsLeastFrom s i r → (IsLeastFrom s (i + 1) r → r ≡ least_from k (i + 1) p) → r ≡ (if b then Some i else least_from k (i + 1) p)
  least_case i k r true l e least onward = found_here i r (same i l ∙ e) least
  least_case i k r false l e least onward = onward (found_later i r (same i l ∙ e) least)

  least_on : (k i : ℕ) (r : Option ℕ) → i + k ≡ n → IsLeastFrom s i r → r ≡ least_from k i p
  least_on zero i None all least = refl
  least_on zero i (Some m) all least = absurd (let low : m < n = below m least.1 in let above : i ≤ m = least.0 in omega arith)
  least_on (suc k) i r all least = least_case i k r (p i) (omega arith) refl least (λ next. least_on k (i + 1) r (omega arith) next)

  -- the least member is the least that passes
  pub least_of : (r : Option ℕ) → IsLeastFrom s 0 r → r ≡ least_from n 0 p
  least_of r least = least_on n 0 r (omega arith) least

-- a number with what is found of it
abbrev pub with_found : (ℕ → Option ℕ) → Option ℕ → Option (ℕ × ℕ)
with_found found None = None
with_found found (Some m) = option_map (λ d. (m, d)) (found m)

-- a pair is that of the least number of which something is found
least_pair_is : (k i : ℕ) (found : ℕ → Option ℕ) → with_found found (least_from k i (λ q. is_some (found q))) ≡ least_pair_from k i found
least_pair_is zero i found = refl
least_pair_is (suc k) i found = either (found i) refl (least_pair_is k (i + 1) found)
  where
    either : (o : Option ℕ) → found i ≡ o → with_found found (least_from k (i + 1) (λ q. is_some (found q))) ≡ least_pair_from k (i + 1) found
        → with_found found (if is_some o then Some i else least_from k (i + 1) (λ q. is_some (found q))) ≡ beside i o (least_pair_from k (i + 1) found)
    either None e rest = rest
    either (Some d) e rest = ap (option_map (λ d. (i, d))) e

-- by the least member of a set of those of which something is found
pub least_pair_of : (n : ℕ) (s : NodeIds) (found : ℕ → Option ℕ) → ((q : ℕ) → q < n → sets.contains s q ≡ is_some (found q)) → ((q : ℕ) → sets.contains s q ≡ true → q < n)
    → (r : Option ℕ) → IsLeastFrom s 0 r → with_found found r ≡ least_pair_from n 0 found
least_pair_of n s found same below r least = ap (with_found found) (least_of n s (λ q. is_some (found q)) same below r least) ∙ least_pair_is n 0 found

-- ---- what is found passes

passes_here : (k i m : ℕ) (p : ℕ → Bool) (b : Bool) → p i ≡ b → (if b then Some i else least_from k (i + 1) p) ≡ Some m → (least_from k (i + 1) p ≡ Some m → p m ≡ true) → p m ≡ true
passes_here k i m p true e is rest = subst (λ q. p q ≡ true) (same_Some i m is) e
passes_here k i m p false e is rest = rest is

pub least_passes : (k i m : ℕ) (p : ℕ → Bool) → least_from k i p ≡ Some m → p m ≡ true
least_passes zero i m p is = absurd (none-some m is)
least_passes (suc k) i m p is = passes_here k i m p (p i) refl is (λ e. least_passes k (i + 1) m p e)

pair_here : (k i : ℕ) (m : ℕ × ℕ) (found : ℕ → Option ℕ) (o : Option ℕ) → found i ≡ o → beside i o (least_pair_from k (i + 1) found) ≡ Some m → (least_pair_from k (i + 1) found ≡ Some m → found m.0 ≡ Some m.1) → found m.0 ≡ Some m.1
pair_here k i m found None e is rest = rest is
pair_here k i m found (Some d) e is rest = subst (λ q. found q.0 ≡ Some q.1) (same_Some (i, d) m is) e

pub least_pair_found : (k i : ℕ) (m : ℕ × ℕ) (found : ℕ → Option ℕ) → least_pair_from k i found ≡ Some m → found m.0 ≡ Some m.1
least_pair_found zero i m found is = absurd (none-some m is)
least_pair_found (suc k) i m found is = pair_here k i m found (found i) refl is (λ e. least_pair_found k (i + 1) m found e)

-- ---- what passes is enabled

unless_goes : (x : ℕ) (f : Option Counter) (w : World) (h : WorldEffect) → unless_full x f (Next w h) ≢ Idle
unless_goes x None w h = λ e. cc
unless_goes x (Some f) w h = λ e. cc

turn_enabled : (w : World) (x : ℕ) (o : Option Node) → may_turn_in o ≡ true → at_node o (turn_of w x) ≢ Idle
turn_enabled w x None may = λ e. cc
turn_enabled w x (Some n) may = by_queue n.queue may
  where
    by_queue : (items : List Item) → waits items ≡ true → turn_of w x n.core items ≢ Idle
    by_queue [] may = λ e. cc
    by_queue (item ∷ items) may = unless_goes x (turn_full n.core (range w x) item) _ _

send_enabled : (w : World) (x d : ℕ) (o : Option Node) → may_send_in o d ≡ true → at_node o (send_of w x d) ≢ Idle
send_enabled w x d None may = λ e. cc
send_enabled w x d (Some n) may = subst (λ b. (if b then unless_full x (send_full n.core (range w x) d) (Next (done_by w x (send n.core (range w x) d) n.queue) (Sent (send n.core (range w x) d).effect (copies w x ((send n.core (range w x) d).effect).cast))) else Idle) ≢ Idle) (sym may) (unless_goes x (send_full n.core (range w x) d) _ _)

ask_enabled : (w : World) (x d : ℕ) (o : Option Node) → may_ask_in o d ≡ true → at_node o (ask_of w x d) ≢ Idle
ask_enabled w x d None may = λ e. cc
ask_enabled w x d (Some n) may = subst (λ b. (if b then unless_full x (ask_full n.core) (Next (done_by w x (ask n.core d) n.queue) (Sent (ask n.core d).effect (copies w x ((ask n.core d).effect).cast))) else Idle) ≢ Idle) (sym may) (unless_goes x (ask_full n.core) _ _)

-- the first copy is found by its id
deliver_enabled : (w : World) (cs : List Copy) (id : ℕ) (f : Copy → Outcome) → ((c : Copy) → f c ≢ Idle) → option_map (λ c. c.id) (slice_get cs 0) ≡ Some id → at_copy (find_copy cs id) f ≢ Idle
deliver_enabled w [] id f goes is = absurd (none-some id is)
deliver_enabled w (c ∷ cs) id f goes is = subst (λ b. at_copy (if b then Some c else find_copy cs id) f ≢ Idle) (sym (ap (λ k. k == id) (same_Some c.id id is) ∙ eq-eqb id id refl)) (goes c)

pub enabled_turn : (w : World) (x : ℕ) → first_turn w ≡ Some x → step w (Turn x) ≢ Idle
unfolding first_turn step
enabled_turn w x is = turn_enabled w x (slice_get w.nodes x) (least_passes (length w.nodes) 0 x (λ x. may_turn_in (slice_get w.nodes x)) is)

enabled_deliver : (w : World) (id : ℕ) → first_copy w ≡ Some id → step w (Deliver id) ≢ Idle
unfolding first_copy step
enabled_deliver w id is = deliver_enabled w w.flying id _ (λ c e. cc) is

pub enabled_send : (w : World) (p : ℕ × ℕ) → first_send w ≡ Some p → step w (Send p.0 p.1) ≢ Idle
unfolding first_send first_send_in step
enabled_send w p is =
    let found : first_send_in (length w.nodes) (slice_get w.nodes p.0) ≡ Some p.1 = least_pair_found (length w.nodes) 0 p (λ x. first_send_in (length w.nodes) (slice_get w.nodes x)) is in
    send_enabled w p.0 p.1 (slice_get w.nodes p.0) (least_passes (length w.nodes) 0 p.1 (may_send_in (slice_get w.nodes p.0)) found)

pub enabled_ask : (w : World) (p : ℕ × ℕ) → first_ask w ≡ Some p → step w (Ask p.0 p.1) ≢ Idle
unfolding first_ask first_ask_in step
enabled_ask w p is =
    let found : first_ask_in (length w.nodes) (slice_get w.nodes p.0) ≡ Some p.1 = least_pair_found (length w.nodes) 0 p (λ x. first_ask_in (length w.nodes) (slice_get w.nodes x)) is in
    ask_enabled w p.0 p.1 (slice_get w.nodes p.0) (least_passes (length w.nodes) 0 p.1 (may_ask_in (slice_get w.nodes p.0)) found)

-- ---- the choice

enabled_by : {A : Type 0} (w : World) (e : Event) (event : A → Event) (o : Option A) (others : List (Option Event)) → ((a : A) → o ≡ Some a → step w (event a) ≢ Idle) → (first_of others ≡ Some e → step w e ≢ Idle)
    → first_of (option_map event o ∷ others) ≡ Some e → step w e ≢ Idle
enabled_by w e event None others first rest is = rest is
enabled_by w e event (Some a) others first rest is = subst (λ k. step w k ≢ Idle) (same_Some (event a) e is) (first a refl)

pub pick_goes : (w : World) (e : Event) → pick w ≡ Some e → step w e ≢ Idle
unfolding pick
pick_goes w e is =
    enabled_by w e Turn (first_turn w) _ (enabled_turn w)
    (enabled_by w e Deliver (first_copy w) _ (enabled_deliver w)
    (enabled_by w e (λ p. Send p.0 p.1) (first_send w) _ (enabled_send w)
    (enabled_by w e (λ p. Ask p.0 p.1) (first_ask w) [] (enabled_ask w) (λ none. absurd (none-some e none)))))
    is
