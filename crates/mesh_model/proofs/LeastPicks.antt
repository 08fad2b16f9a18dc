-- What is chosen comes before all else that is enabled.
use Rattle.std.proofs.Common.{◌≡◌, ◌≢◌, ℕ, zero, suc, ◌+◌, ◌<◌, ◌≤◌, Bool, true, false, ◌==◌, List, [], ◌∷◌, length, Some, None, Option, refl, sym, ap, subst, ◌∙◌, arith, inl, inr}
use Rattle.std.specs.Prelude.{if◌then◌else◌, option_map, slice_get}
use Rattle.std.proofs.lemmas.Bool.{cases_eq, eqb-true}
use Rattle.std.proofs.lemmas.Option.{none-some, same_Some}
use Rattle.aodv_model.specs.Cores.{Item}
use Rattle.aodv_model.specs.Handlers.{may_send, may_ask}
use Rattle.mesh_model.specs.InMesh.{AreNumbered, IsInMesh, IsEvent}
use Rattle.mesh_model.specs.Worlds.{World, Node, Copy, Event, Turn, Send, Ask, Deliver, Outcome, Idle, turn_of, send_of, ask_of, at_node, at_copy, find_copy, step}
use Rattle.mesh_model.specs.Choices.{waits, least_from, beside, least_pair_from, may_turn_in, may_send_in, may_ask_in, first_turn, first_send_in, first_ask_in, first_send, first_ask, first_copy, first_of, pick, IsChoice, IsPairNoLater, IsNoLater}
use Rattle.mesh_model.specs.Laws.{PickIsLeast}

-- ---- what passes is found

-- one is found, and none that passes is less
IsLeast : Option ℕ → ℕ → Type 0
IsLeast o m = (n : ℕ) × (o ≡ Some n) × (n ≤ m)

least_here : (i m : ℕ) (p : ℕ → Bool) (b : Bool) (rest : Option ℕ) → p i ≡ b → i ≤ m → p m ≡ true
    → (i + 1 ≤ m → IsLeast rest m) → IsLeast (if b then Some i else rest) m
unfolding IsLeast
least_here i m p true rest here le passes later = (i, refl, le)
least_here i m p false rest here le passes later =
    elim (cases_eq i m) [
      | inl same ↦ absurd (clash same)
      | inr apart ↦ later (omega arith)
    ]
  where
    clash : i ≡ m → ⊥
    clash same = let other : false ≡ true = sym here ∙ ap p same ∙ passes in cc

least_there : (k i m : ℕ) (p : ℕ → Bool) → i ≤ m → m < i + k → p m ≡ true → IsLeast (least_from k i p) m
unfolding IsLeast
least_there zero i m p le lt passes = absurd (omega arith)
least_there (suc k) i m p le lt passes =
    least_here i m p (p i) (least_from k (i + 1) p) refl le passes (λ up. least_there k (i + 1) m p up (omega arith) passes)

-- a pair is found, and it is no later than this one
IsLeastPair : Option (ℕ × ℕ) → ℕ → ℕ → Type 0
IsLeastPair o x d = (p : ℕ × ℕ) × (o ≡ Some p) × IsPairNoLater p.0 p.1 x d

pair_here : (i x d : ℕ) (o : Option ℕ) (rest : Option (ℕ × ℕ)) → i ≤ x → (i ≡ x → IsLeast o d)
    → (i + 1 ≤ x → IsLeastPair rest x d) → IsLeastPair (beside i o rest) x d
unfolding IsLeast IsLeastPair
pair_here i x d (Some c) rest le here later =
    elim (cases_eq i x) [
      | inl same ↦ let found = here same in
          let is : c ≡ found.0 = same_Some c found.0 found.1 in
          ((i, c), refl, inr (same, omega (arith, is, found.2)))
      | inr apart ↦ ((i, c), refl, inl (omega arith))
    ]
pair_here i x d None rest le here later =
    elim (cases_eq i x) [
      | inl same ↦ let found = here same in absurd (none-some found.0 found.1)
      | inr apart ↦ later (omega arith)
    ]

pair_there : (k i x d : ℕ) (found : ℕ → Option ℕ) → i ≤ x → x < i + k → IsLeast (found x) d → IsLeastPair (least_pair_from k i found) x d
unfolding IsLeastPair
pair_there zero i x d found le lt is = absurd (omega arith)
pair_there (suc k) i x d found le lt is =
    pair_here i x d (found i) (least_pair_from k (i + 1) found) le
    (λ same. subst (λ y. IsLeast (found y) d) (sym same) is)
    (λ up. pair_there k (i + 1) x d found up (omega arith) is)

-- ---- what is enabled passes

turn_passes : (w : World) (x : ℕ) (o : Option Node) → at_node o (turn_of w x) ≢ Idle → may_turn_in o ≡ true
turn_passes w x None goes = absurd (goes refl)
turn_passes w x (Some n) goes = by_queue n.queue goes
  where
    by_queue : (items : List Item) → turn_of w x n.core items ≢ Idle → waits items ≡ true
    by_queue [] goes = absurd (goes refl)
    by_queue (item ∷ items) goes = refl

unless_idle : (b : Bool) (o : Outcome) → (if b then o else Idle) ≢ Idle → b ≡ true
unless_idle true o goes = refl
unless_idle false o goes = absurd (goes refl)

send_passes : (w : World) (x d : ℕ) (o : Option Node) → at_node o (send_of w x d) ≢ Idle → may_send_in o d ≡ true
send_passes w x d None goes = absurd (goes refl)
send_passes w x d (Some n) goes = unless_idle (may_send n.core d) _ goes

ask_passes : (w : World) (x d : ℕ) (o : Option Node) → at_node o (ask_of w x d) ≢ Idle → may_ask_in o d ≡ true
ask_passes w x d None goes = absurd (goes refl)
ask_passes w x d (Some n) goes = unless_idle (may_ask n.core d) _ goes

-- ids rise, so the first copy has the least
found_above : (low : ℕ) (cs : List Copy) (next id : ℕ) (f : Copy → Outcome) → AreNumbered low cs next → at_copy (find_copy cs id) f ≢ Idle → low ≤ id
found_above low [] next id f numbered goes = absurd (goes refl)
found_above low (c ∷ cs) next id f numbered goes =
    either (c.id == id) refl goes (λ later. found_above (c.id + 1) cs next id f numbered.1 later)
  where
    either : (b : Bool) → (c.id == id) ≡ b → at_copy (if b then Some c else find_copy cs id) f ≢ Idle
        → (at_copy (find_copy cs id) f ≢ Idle → c.id + 1 ≤ id) → low ≤ id
    either true same goes rest = let is = eqb-true c.id id same in omega (arith, numbered.0, is)
    either false other goes rest = omega (arith, numbered.0, rest goes)

copy_there : (cs : List Copy) (low next id : ℕ) (f : Copy → Outcome) → AreNumbered low cs next → at_copy (find_copy cs id) f ≢ Idle
    → IsLeast (option_map (λ c. c.id) (slice_get cs 0)) id
unfolding IsLeast
copy_there [] low next id f numbered goes = absurd (goes refl)
copy_there (c ∷ cs) low next id f numbered goes =
    (c.id, refl, found_above c.id (c ∷ cs) next id f (omega arith, numbered.1) goes)

-- ---- the choice

IsChosen : Event → Option Event → Type 0
IsChosen e o = (chosen : Event) × (o ≡ Some chosen) × IsNoLater chosen e

module _ {A : Type 0} (e : Event) (event : A → Event) where
  chosen_here : (o : Option A) (others : List (Option Event)) (a : A) → o ≡ Some a → IsNoLater (event a) e
      → IsChosen e (first_of (option_map event o ∷ others))
  unfolding IsChosen
  chosen_here None others a found no_later = absurd (none-some a found)
  chosen_here (Some b) others a found no_later =
      (event b, refl, subst (λ c. IsNoLater (event c) e) (sym (same_Some b a found)) no_later)

  chosen_or : (o : Option A) (others : List (Option Event)) → ((a : A) → IsNoLater (event a) e) → IsChosen e (first_of others)
      → IsChosen e (first_of (option_map event o ∷ others))
  unfolding IsChosen
  chosen_or None others no_later rest = rest
  chosen_or (Some a) others no_later rest = (event a, refl, no_later a)

module _ (w : World) (is : IsInMesh w) where
  size : ℕ
  size = length w.nodes

  turn_least : (x : ℕ) → x < size → step w (Turn x) ≢ Idle → IsLeast (first_turn w) x
  unfolding first_turn step size
  turn_least x lt goes = least_there size 0 x (λ y. may_turn_in (slice_get w.nodes y)) (omega arith) (omega arith) (turn_passes w x (slice_get w.nodes x) goes)

  copy_least : (id : ℕ) → step w (Deliver id) ≢ Idle → IsLeast (first_copy w) id
  unfolding first_copy step
  copy_least id goes = copy_there w.flying 1 w.next_copy id _ is.numbered goes

  send_least : (x d : ℕ) → x < size → d < size → step w (Send x d) ≢ Idle → IsLeastPair (first_send w) x d
  unfolding first_send first_send_in step size
  send_least x d x_lt d_lt goes =
      let passes : may_send_in (slice_get w.nodes x) d ≡ true = send_passes w x d (slice_get w.nodes x) goes in
      pair_there size 0 x d (λ y. least_from size 0 (may_send_in (slice_get w.nodes y))) (omega arith) (omega arith)
      (least_there size 0 d (may_send_in (slice_get w.nodes x)) (omega arith) (omega arith) passes)

  ask_least : (x d : ℕ) → x < size → d < size → step w (Ask x d) ≢ Idle → IsLeastPair (first_ask w) x d
  unfolding first_ask first_ask_in step size
  ask_least x d x_lt d_lt goes =
      let passes : may_ask_in (slice_get w.nodes x) d ≡ true = ask_passes w x d (slice_get w.nodes x) goes in
      pair_there size 0 x d (λ y. least_from size 0 (may_ask_in (slice_get w.nodes y))) (omega arith) (omega arith)
      (least_there size 0 d (may_ask_in (slice_get w.nodes x)) (omega arith) (omega arith) passes)

  least : (e : Event) → IsEvent size e → IsChoice e → step w e ≢ Idle → IsChosen e (pick w)
  unfolding pick size IsLeast IsLeastPair
  least (Turn x) event choice goes =
      let found = turn_least x event goes in
      chosen_here (Turn x) Turn (first_turn w) _ found.0 found.1 found.2
  least (Deliver id) event choice goes =
      let found = copy_least id goes in
      chosen_or (Deliver id) Turn (first_turn w) _ (λ _. tt)
      (chosen_here (Deliver id) Deliver (first_copy w) _ found.0 found.1 found.2)
  least (Send x d) event choice goes =
      let found = send_least x d event.0 event.1 goes in
      chosen_or (Send x d) Turn (first_turn w) _ (λ _. tt)
      (chosen_or (Send x d) Deliver (first_copy w) _ (λ _. tt)
      (chosen_here (Send x d) (λ p. Send p.0 p.1) (first_send w) _ found.0 found.1 found.2))
  least (Ask x d) event choice goes =
      let found = ask_least x d event.0 event.1 goes in
      chosen_or (Ask x d) Turn (first_turn w) _ (λ _. tt)
      (chosen_or (Ask x d) Deliver (first_copy w) _ (λ _. tt)
      (chosen_or (Ask x d) (λ p. Send p.0 p.1) (first_send w) _ (λ _. tt)
      (chosen_here (Ask x d) (λ p. Ask p.0 p.1) (first_ask w) [] found.0 found.1 found.2)))
  least others event choice goes = absurd choice

pub pick_is_least : PickIsLeast
unfolding IsChosen size
pick_is_least w e is event choice goes = least w is e event choice goes
