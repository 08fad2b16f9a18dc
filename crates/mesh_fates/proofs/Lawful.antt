-- The laws, copy by copy.
use Rattle.std.proofs.Common.{◌≡◌, ◌<◌, ℕ, zero, suc, ◌+◌, ◌*◌, ◌%◌, Bool, true, false, cond, ◌&&◌, ltb, eqb, Option, Some, None, List, [], ◌∷◌, ◌++◌, refl, ap, ◌∙◌, append_assoc, arith, ◌⊎◌, inl, inr}
use Rattle.std.specs.List.{AllByRecursion, Contains}
use Rattle.std.proofs.lemmas.Bool.{le-ltb, lt-ltb, ltb-true, eq-eqb, eqb-true, or_cases, and_parts}
use Rattle.rand_pcg.specs.Lcg.{Lcg}
use Rattle.mesh_make.specs.Words.{word, after}
use Rattle.mesh_model.specs.Worlds.{Event, Give, Turn, Send, Ask, Link, Cut, Deliver, Lose, Double}
use Rattle.mesh_fates.specs.declared.rates.Rates.{Rates}
use Rattle.mesh_fates.specs.declared.due.Due.{Due}
use Rattle.mesh_fates.specs.declared.fate.Lot.{Lot}
use Rattle.mesh_fates.specs.declared.fate.Fate.{Fate}
use Rattle.mesh_fates.specs.Rates.{loss_of}
use Rattle.mesh_fates.specs.Fates.{happens_at, delay_by, next_lot, draw_by, draw}
use Rattle.mesh_fates.specs.Plans.{Plan, is_before, with_due}
use Rattle.mesh_fates.specs.Channels.{Channel, due_at, planned, planned_double, losses, doublings, number_behind, decided, with_double}
use Rattle.mesh_fates.specs.Steps.{decided_one}
use Rattle.mesh_fates.specs.Laws.{IsOldOrNext, IsOrdered, after_words, words_of, doublings_in}
use Rattle.mesh_fates.proofs.Planned.{all_with}

-- ---- rates of 0

pub never : (rate w : ℕ) → rate ≡ 0 → happens_at rate w ≡ false
never rate w none = le-ltb (w % 1000) rate (omega arith)

never_lost : (rates : Rates) (unicast : Bool) (w : ℕ) → rates.loss ≡ 0 → rates.loss_unicast ≡ 0 → happens_at (loss_of rates unicast) w ≡ false
never_lost rates true w loss one = never rates.loss_unicast w one
never_lost rates false w loss one = never rates.loss w loss

-- what a fate leaves to do
left_of : ℕ → ℕ → Fate → List Event
left_of id new fate = doublings id new fate.double ++ losses id fate.lot

none_left : (rates : Rates) (unicast : Bool) (id new : ℕ) (rng : Lcg) → rates.loss ≡ 0 → rates.loss_unicast ≡ 0 → rates.double ≡ 0 → left_of id new (draw rates unicast rng).fate ≡ []
unfolding left_of draw
none_left rates unicast id new rng loss one double =
    rw (never rates.double (word (after (after rng))) double, never_lost rates unicast (word rng) loss one) refl

append_none : (xs : List Event) → xs ++ [] ≡ xs
append_none [] = refl
append_none (x ∷ xs) = ap (λ (ys : List Event). x ∷ ys) (append_none xs)

pub lossless : (rates : Rates) (unicast : Bool) (count id new : ℕ) (c : Channel) → rates.loss ≡ 0 → rates.loss_unicast ≡ 0 → rates.double ≡ 0 → (decided rates unicast count id new c).left ≡ c.left
unfolding decided left_of
lossless rates unicast zero id new c loss one double = refl
lossless rates unicast (suc count) id new c loss one double =
    lossless rates unicast count (id + 1) (number_behind new (draw rates unicast c.rng).fate.double) (decided_one rates unicast id new c) loss one double
    ∙ append_assoc c.left (doublings id new (draw rates unicast c.rng).fate.double) (losses id (draw rates unicast c.rng).fate.lot)
    ∙ ap (λ (events : List Event). c.left ++ events) (none_left rates unicast id new c.rng loss one double)
    ∙ append_none c.left

-- ---- no copy late

-- a property of each copy that a plan has, and of each copy that comes to it, is one of the plan then
all_planned : (P : Due → Type 0) (plan : Plan) (tick id : ℕ) (lot : Lot) → AllByRecursion P plan → P (due_at tick id lot.delay) → AllByRecursion P (planned plan tick id lot)
all_planned P plan tick id lot all one = by lot.lost
  where
    by : (lost : Bool) → AllByRecursion P (cond lost plan (with_due plan (due_at tick id lot.delay)))
    by true = all
    by false = all_with P plan (due_at tick id lot.delay) all one

-- what a law says of the copies that one fate plans: all steps go by such a property
record Covers (P : Due → Type 0) (rates : Rates) (tick : ℕ) : Type 0 where
  covers : (id w : ℕ) → P (due_at tick id (delay_by rates w))

by_double : (P : Due → Type 0) (rates : Rates) (unicast : Bool) (plan : Plan) (tick id new : ℕ) (lot : Lot) (third : Bool) (rng : Lcg) → Covers P rates tick → AllByRecursion P plan → P (due_at tick id lot.delay) → AllByRecursion P (planned (planned_double plan tick new (draw_by rates unicast lot third rng).fate.double) tick id (draw_by rates unicast lot third rng).fate.lot)
by_double P rates unicast plan tick id new lot true rng covers all one =
    all_planned P (planned plan tick new (next_lot rates unicast rng)) tick id lot (all_planned P plan tick new (next_lot rates unicast rng) all (covers.covers new (word (after rng)))) one
by_double P rates unicast plan tick id new lot false rng covers all one = all_planned P plan tick id lot all one

all_decided : (P : Due → Type 0) (rates : Rates) (unicast : Bool) (count id new : ℕ) (c : Channel) → Covers P rates c.tick → AllByRecursion P c.plan → AllByRecursion P (decided rates unicast count id new c).plan
unfolding decided draw
all_decided P rates unicast zero id new c covers all = all
all_decided P rates unicast (suc count) id new c covers all =
    all_decided P rates unicast count (id + 1) (number_behind new (draw rates unicast c.rng).fate.double) (decided_one rates unicast id new c) covers
    (by_double P rates unicast c.plan c.tick id new (next_lot rates unicast c.rng) (happens_at rates.double (word (after (after c.rng)))) (after (after (after c.rng))) covers all (covers.covers id (word (after c.rng))))

all_map : (P Q : Due → Type 0) (plan : Plan) → ((d : Due) → P d → Q d) → AllByRecursion P plan → AllByRecursion Q plan
all_map P Q [] f all = tt
all_map P Q (d ∷ plan) f all = (f d all.0, all_map P Q plan f all.1)

in_rest : (e : Due) (plan : Plan) (d : Due) → Contains plan d → Contains (e ∷ plan) d
in_rest e plan d at = (suc at.0, omega (arith, at.1), at.2)

all_contained : (plan : Plan) → AllByRecursion (Contains plan) plan
all_contained [] = tt
all_contained (d ∷ plan) = ((0, omega arith, refl), all_map (Contains plan) (Contains (d ∷ plan)) plan (in_rest d plan) (all_contained plan))

prompt_delay : (tick delay : ℕ) → delay ≡ 0 → tick + 1 + delay ≡ tick + 1
prompt_delay tick delay none = omega arith

no_delay : (rates : Rates) (w : ℕ) → rates.late ≡ 0 → delay_by rates w ≡ 0
no_delay rates w none = rw none (omega arith)

pub prompt : (rates : Rates) (unicast : Bool) (count id new : ℕ) (c : Channel) → rates.late ≡ 0 → AllByRecursion (IsOldOrNext c) (decided rates unicast count id new c).plan
prompt rates unicast count id new c none =
    all_decided (IsOldOrNext c) rates unicast count id new c (record { covers = λ i w. inr (prompt_delay c.tick (delay_by rates w) (no_delay rates w none)) })
    (all_map (Contains c.plan) (IsOldOrNext c) c.plan (λ d at. inl at) (all_contained c.plan))

-- ---- the order of the plan

IsEarlier : Due → Due → Type 0
IsEarlier a b = (a.tick < b.tick) ⊎ ((a.tick ≡ b.tick) × (a.id < b.id))

earlier_of : (a b : Due) → is_before a b ≡ true → IsEarlier a b
unfolding IsEarlier
earlier_of a b is = elim (or_cases (ltb a.tick b.tick) (eqb a.tick b.tick && ltb a.id b.id) is) [
  | inl less ↦ inl (ltb-true a.tick b.tick less)
  | inr same ↦
      let both = and_parts (eqb a.tick b.tick) (ltb a.id b.id) same in
      inr (eqb-true a.tick b.tick both.0, ltb-true a.id b.id both.1)
]

before_of : (a b : Due) → IsEarlier a b → is_before a b ≡ true
unfolding IsEarlier
before_of a b (inl less) = rw (lt-ltb a.tick b.tick less) refl
before_of a b (inr same) = rw (le-ltb a.tick b.tick (omega (arith, same.0)), eq-eqb a.tick b.tick same.0, lt-ltb a.id b.id same.1) refl

earlier_than : (a b c : Due) → IsEarlier a b → IsEarlier b c → IsEarlier a c
unfolding IsEarlier
earlier_than a b c (inl x) (inl y) = inl (omega arith)
earlier_than a b c (inl x) (inr y) = inl (omega (arith, y.0))
earlier_than a b c (inr x) (inl y) = inl (omega (arith, x.0))
earlier_than a b c (inr x) (inr y) = inr (x.0 ∙ y.0, omega (arith, x.1, y.1))

before_than : (a b c : Due) → is_before a b ≡ true → is_before b c ≡ true → is_before a c ≡ true
before_than a b c x y = before_of a c (earlier_than a b c (earlier_of a b x) (earlier_of b c y))

ordered_with : (plan : Plan) (new : Due) → IsOrdered plan → IsOrdered (with_due plan new)
unfolding with_due
ordered_with [] new all = (tt, tt)
ordered_with (d ∷ plan) new all = by_tests (is_before new d) (is_before d new) refl refl (ordered_with plan new all.1)
  where
    by_tests : (a b : Bool) → is_before new d ≡ a → is_before d new ≡ b → IsOrdered (with_due plan new) → IsOrdered (cond a (new ∷ d ∷ plan) (cond b (d ∷ with_due plan new) (d ∷ plan)))
    by_tests true b is isnt rest = ((is, all_map (λ e. is_before d e ≡ true) (λ e. is_before new e ≡ true) plan (λ e h. before_than new d e is h) all.0), all)
    by_tests false true isnt is rest = (all_with (λ e. is_before d e ≡ true) plan new all.0 is, rest)
    by_tests false false isnt is rest = all

ordered_planned : (plan : Plan) (tick id : ℕ) (lot : Lot) → IsOrdered plan → IsOrdered (planned plan tick id lot)
ordered_planned plan tick id lot ordered = by lot.lost
  where
    by : (lost : Bool) → IsOrdered (cond lost plan (with_due plan (due_at tick id lot.delay)))
    by true = ordered
    by false = ordered_with plan (due_at tick id lot.delay) ordered

ordered_double : (plan : Plan) (tick new : ℕ) (double : Option Lot) → IsOrdered plan → IsOrdered (planned_double plan tick new double)
ordered_double plan tick new None ordered = ordered
ordered_double plan tick new (Some lot) ordered = ordered_planned plan tick new lot ordered

pub deciding_ordered : (rates : Rates) (unicast : Bool) (count id new : ℕ) (c : Channel) → IsOrdered c.plan → IsOrdered (decided rates unicast count id new c).plan
unfolding decided
deciding_ordered rates unicast zero id new c ordered = ordered
deciding_ordered rates unicast (suc count) id new c ordered =
    let fate = (draw rates unicast c.rng).fate in
    deciding_ordered rates unicast count (id + 1) (number_behind new fate.double) (decided_one rates unicast id new c)
    (ordered_planned (planned_double c.plan c.tick new fate.double) c.tick id fate.lot (ordered_double c.plan c.tick new fate.double ordered))

pub doubling_ordered : (rates : Rates) (id : ℕ) (c : Channel) → IsOrdered c.plan → IsOrdered (with_double rates id c).plan
doubling_ordered rates id c ordered = ordered_with c.plan (due_at c.tick id (delay_by rates (word c.rng))) ordered

-- ---- the words

draws : (rates : Rates) (unicast : Bool) (lot : Lot) (third : Bool) (rng : Lcg) → (draw_by rates unicast lot third (after (after (after rng)))).rng ≡ after_words (words_of (draw_by rates unicast lot third (after (after (after rng)))).fate) rng
draws rates unicast lot true rng = refl
draws rates unicast lot false rng = refl

pub fate_words : (rates : Rates) (unicast : Bool) (rng : Lcg) → (draw rates unicast rng).rng ≡ after_words (words_of (draw rates unicast rng).fate) rng
unfolding draw
fate_words rates unicast rng = draws rates unicast (next_lot rates unicast rng) (happens_at rates.double (word (after (after rng)))) rng

words_add : (m n : ℕ) (rng : Lcg) → after_words n (after_words m rng) ≡ after_words (m + n) rng
words_add zero n rng = ap (λ (k : ℕ). after_words k rng) (let e : n ≡ 0 + n = omega arith in e)
words_add (suc m) n rng = words_add m n (after rng) ∙ ap (λ (k : ℕ). after_words k rng) (let e : suc (m + n) ≡ suc m + n = omega arith in e)

doublings_add : (xs ys : List Event) → doublings_in (xs ++ ys) ≡ doublings_in xs + doublings_in ys
doublings_add [] ys = omega arith
doublings_add (Double id ∷ xs) ys = let rest = doublings_add xs ys in omega (arith, rest)
doublings_add (Give x d body ∷ xs) ys = doublings_add xs ys
doublings_add (Turn x ∷ xs) ys = doublings_add xs ys
doublings_add (Send x d ∷ xs) ys = doublings_add xs ys
doublings_add (Ask x d ∷ xs) ys = doublings_add xs ys
doublings_add (Link a b ∷ xs) ys = doublings_add xs ys
doublings_add (Cut a b ∷ xs) ys = doublings_add xs ys
doublings_add (Deliver id ∷ xs) ys = doublings_add xs ys
doublings_add (Lose id ∷ xs) ys = doublings_add xs ys

none_lost : (id : ℕ) (lot : Lot) → doublings_in (losses id lot) ≡ 0
none_lost id lot = by lot.lost
  where
    by : (lost : Bool) → doublings_in (cond lost (Lose id ∷ []) []) ≡ 0
    by true = refl
    by false = refl

-- whether there is a double, as a number
one_if_some : Option Lot → ℕ
one_if_some None = 0
one_if_some (Some lot) = 1

doubled_once : (id new : ℕ) (double : Option Lot) (lot : Lot) → doublings_in (doublings id new double ++ losses id lot) ≡ one_if_some double
unfolding one_if_some
doubled_once id new None lot = none_lost id lot
doubled_once id new (Some other) lot =
    let first = none_lost new other in
    let last = none_lost id lot in
    let both = doublings_add (losses new other) (losses id lot) in
    omega (arith, first, last, both)

words_once : (double : Option Lot) (lot : Lot) → words_of (record { lot = lot; double = double }) ≡ 3 + 2 * one_if_some double
unfolding one_if_some
words_once None lot = omega arith
words_once (Some other) lot = omega arith

pub cast_words : (rates : Rates) (unicast : Bool) (count id new : ℕ) (c : Channel) → (doubled : ℕ) × (doublings_in (decided rates unicast count id new c).left ≡ doublings_in c.left + doubled) × ((decided rates unicast count id new c).rng ≡ after_words (3 * count + 2 * doubled) c.rng)
unfolding decided
cast_words rates unicast zero id new c = (0, omega arith, refl)
cast_words rates unicast (suc count) id new c =
    let fate = (draw rates unicast c.rng).fate in
    let step = decided_one rates unicast id new c in
    let rest = cast_words rates unicast count (id + 1) (number_behind new fate.double) step in
    let double = doublings id new fate.double in
    let loss = losses id fate.lot in
    let whole : doublings_in (decided rates unicast (suc count) id new c).left ≡ doublings_in (decided rates unicast count (id + 1) (number_behind new fate.double) step).left = refl in
    let added : doublings_in step.left ≡ doublings_in (c.left ++ double) + doublings_in loss = doublings_add (c.left ++ double) loss in
    let before = doublings_add c.left double in
    let both = doublings_add double loss in
    let once = doubled_once id new fate.double fate.lot in
    let here = fate_words rates unicast c.rng in
    let taken = words_once fate.double fate.lot in
    let many : words_of fate + (3 * count + 2 * rest.0) ≡ 3 * suc count + 2 * (one_if_some fate.double + rest.0) = omega (arith, taken) in (
      one_if_some fate.double + rest.0,
      omega (arith, whole, rest.1, added, before, both, once),
      rest.2 ∙ ap (λ (g : Lcg). after_words (3 * count + 2 * rest.0) g) here ∙ words_add (words_of fate) (3 * count + 2 * rest.0) c.rng ∙ ap (λ (k : ℕ). after_words k c.rng) many,
    )
