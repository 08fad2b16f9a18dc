-- Casts that are cut, so that a cast may join at an id of its own.
use Rattle.std.proofs.Common.{◌≡◌, ℕ, zero, suc, ◌+◌, ◌-◌, ◌^◌, ◌<◌, ◌≤◌, ◌≢◌, ◌⊎◌, inl, inr, Bool, true, false, cond, List, [], ◌∷◌, ◌++◌, length, take, drop, min, Option, Some, None, refl, sym, ap, subst, ◌∙◌, append-nil, arith}
use Rattle.std.specs.Prelude.{slice_get}
use Rattle.std.specs.Bool.{OnTrue}
use Rattle.std.specs.List.{AllByRecursion}
use Rattle.std.specs.FinSet.{contains, remove}
use Rattle.std.specs.FinMap.{nat_cmp-IsAntisymmetric}
use Rattle.std.proofs.lemmas.Cmp.{nat_cmp_total}
use Rattle.std.proofs.lemmas.Bool.{cases_lt, cases_eq, lt-ltb, le-ltb}
use Rattle.std.proofs.lemmas.List.{take_all, take-append-le, take-append-drop, length-take, length-take-le, drop_all, length_push}
use Rattle.std.proofs.lemmas.Option.{same_Some}
use Rattle.std.specs.Map.Calls.{RetainsPairs}
use Rattle.mesh_base.specs.declared.events.Flying.{Flying}
use Rattle.mesh_base.specs.Members.{NodeIds, members_below, member_list, rank}
use Rattle.mesh_base.proofs.Ranks.{member-rank}
use Rattle.mesh_base.proofs.Lemmas.Sets.{remove_here, remove_other}
use Rattle.mesh_radio.specs.Copies.{AreBefore}
use Rattle.mesh_radio.specs.Kept.{copies_in, AreSlots}
use Rattle.mesh_radio.specs.Casts.{Entry, AreCasts, AreLeft, AreRising, IsAlone, IsCut, IsFront, copies_of, size, slot, slots_of, slots_at}
use Rattle.mesh_radio.specs.declared.casts.Cast.{Cast}
use Rattle.mesh_radio.proofs.Finds.{all-found}
use Rattle.mesh_radio.proofs.Numbered.{found_in}
use Rattle.mesh_radio.proofs.Entries.{slots-are, slots-get, slot-there, copies_append}
use Rattle.mesh_radio.proofs.Sweeps.{rising-weak}

-- ---- the front of a set

-- so it is for the nodes below `node`
pub record IsFrontBelow (whole : NodeIds) (count node : ℕ) (front : NodeIds) : Type 0 where
  pub same : (q : ℕ) → (q < node → rank whole q < count) → contains front q ≡ contains whole q
  pub none : (q : ℕ) → q < node → count ≤ rank whole q → contains front q ≡ false

pub front-start : (whole : NodeIds) (count : ℕ) → IsFrontBelow whole count 0 whole
front-start whole count = record { same = λ q _. refl; none = λ q lt _. absurd (omega arith) }

pub front-removed : (whole : NodeIds) (count node : ℕ) (front : NodeIds) → IsFrontBelow whole count node front → count ≤ rank whole node → IsFrontBelow whole count (node + 1) (remove front node)
front-removed whole count node front f le = record {
  same = λ q few.
      let ne : q ≢ node = λ e. (
      let lt : rank whole q < count = few (omega arith) in
      let at : rank whole q ≡ rank whole node = ap (rank whole) e in
      omega arith) in
      remove_other nat_cmp_total nat_cmp-IsAntisymmetric front node q ne ∙ f.same q (λ lt. few (omega arith));
  none = λ q lt many. elim (cases_eq q node) [
    | inl e ↦ ap (contains (remove front node)) e ∙ remove_here nat_cmp_total nat_cmp-IsAntisymmetric front node
    | inr ne ↦ remove_other nat_cmp_total nat_cmp-IsAntisymmetric front node q ne ∙ f.none q (omega arith) many
  ];
}

pub front-stays : (whole : NodeIds) (count node : ℕ) (front : NodeIds) → IsFrontBelow whole count node front → rank whole node < count → IsFrontBelow whole count (node + 1) front
front-stays whole count node front f lt = record {
  same = λ q few. f.same q (λ less. few (omega arith));
  none = λ q less many. elim (cases_eq q node) [
    | inl e ↦ absurd (let at : rank whole q ≡ rank whole node = ap (rank whole) e in omega arith)
    | inr ne ↦ f.none q (omega arith) many
  ];
}

front-list : (whole : NodeIds) (count n : ℕ) (front : NodeIds) → IsFrontBelow whole count 256 front → n ≤ 256 → members_below n front ≡ take count (members_below n whole)
unfolding members_below
front-list whole count zero front f le = sym (take_all count [] (omega arith))
front-list whole count (suc n) front f le =
    let before = front-list whole count n front f (omega arith) in
    elim (cases_lt (rank whole n) count) [
      | inl lt ↦
          let all = take_all count (members_below n whole) (omega arith) in
          let more = take_all count (members_below n whole ++ n ∷ []) (omega (arith, length_push (members_below n whole) n)) in
          ap (λ b. cond b (members_below n front ++ n ∷ []) (members_below n front)) (f.same n (λ _. lt))
          ∙ elim (contains whole n) as (λ b. cond b (members_below n front ++ n ∷ []) (members_below n front) ≡ take count (cond b (members_below n whole ++ n ∷ []) (members_below n whole))) [
            | true ↦ ap (λ ms. ms ++ n ∷ []) (before ∙ all) ∙ sym more
            | false ↦ before
          ]
      | inr ge ↦
          ap (λ b. cond b (members_below n front ++ n ∷ []) (members_below n front)) (f.none n (omega arith) ge)
          ∙ elim (contains whole n) as (λ b. members_below n front ≡ take count (cond b (members_below n whole ++ n ∷ []) (members_below n whole))) [
            | true ↦ before ∙ sym (take-append-le count (members_below n whole) (n ∷ []) ge)
            | false ↦ before
          ]
    ]

pub front-is : (whole : NodeIds) (count : ℕ) (front : NodeIds) → IsFrontBelow whole count 256 front → IsFront whole count front
front-is whole count front f = record {
  list = front-list whole count 256 front f (omega arith);
  same = λ q out. f.same q (λ lt. elim out [ inl few ↦ few | inr past ↦ absurd (omega arith) ]);
}

-- ---- the copies of slots

pub slots-append : (c : Cast) (k : ℕ) (xs ys : List ℕ) → slots_of c k (xs ++ ys) ≡ slots_of c k xs ++ slots_of c (k + length xs) ys
slots-append c k [] ys = let same : k ≡ k + 0 = omega arith in ap (λ n. slots_of c n ys) same
slots-append c k (x ∷ xs) ys =
    let same : k + 1 + length xs ≡ k + suc (length xs) = omega arith in
    ap (λ (ss : List (Option Flying)). slot c k x ∷ ss) (slots-append c (k + 1) xs ys ∙ ap (λ n. slots_of c (k + 1) xs ++ slots_of c n ys) same)

slots-to : (c : Cast) (to : NodeIds) (k : ℕ) (tos : List ℕ) → slots_of (record c { to = to }) k tos ≡ slots_of c k tos
slots-to c to k [] = refl
slots-to c to k (x ∷ tos) = ap (λ (ss : List (Option Flying)). slot c k x ∷ ss) (slots-to c to (k + 1) tos)

before-split : (id : ℕ) (xs ys : List Flying) → AreBefore id (xs ++ ys) → AreBefore id xs × AreBefore id ys
before-split id [] ys all = (tt, all)
before-split id (x ∷ xs) ys all = let rest = before-split id xs ys all.1 in ((all.0, rest.0), rest.1)

-- none flies of the ids from that one on
late-none : (id first : ℕ) (slots : List (Option Flying)) → AreSlots first slots → id ≤ first → AreBefore id (copies_in slots) → copies_in slots ≡ []
late-none id first [] are le before = refl
late-none id first (None ∷ slots) are le before = late-none id (first + 1) slots are (omega arith) before
late-none id first (Some c ∷ slots) are le before = let here = are.0 in let lt = before.0 in absurd (omega arith)

-- ---- a cast that is cut

module _ (id k : ℕ) (c : Cast) (to : NodeIds) (lt : k < id) (before : AreBefore id (copies_in (slots_at (k, c)))) (front : IsFront c.to (id - k) to) where
  abbrev whole : List ℕ
  whole = member_list c.to

  cut-size : size (record c { to = to }) ≡ min (id - k) (size c)
  cut-size = ap length front.list ∙ length-take (id - k) whole

  -- the copies that were cut off don't fly
  rest-none : (xs : List ℕ) → slots_of c k whole ≡ slots_of c k xs ++ slots_of c (k + length xs) (drop (id - k) whole) → (id ≤ k + length xs) ⊎ (drop (id - k) whole ≡ [])
      → copies_in (slots_of c k whole) ≡ copies_in (slots_of c k xs)
  rest-none xs parts out =
      let rest = slots_of c (k + length xs) (drop (id - k) whole) in
      let split = ap copies_in parts ∙ copies_append (slots_of c k xs) rest in
      let late = (before-split id (copies_in (slots_of c k xs)) (copies_in rest) (subst (AreBefore id) split before)).1 in
      let none : copies_in rest ≡ [] = elim out [
        | inl le ↦ late-none id (k + length xs) rest (slots-are c (k + length xs) (drop (id - k) whole)) le late
        | inr empty ↦ ap (λ ms. copies_in (slots_of c (k + length xs) ms)) empty
      ] in
      split ∙ ap (λ fs. copies_in (slots_of c k xs) ++ fs) none ∙ append-nil (copies_in (slots_of c k xs))

  cut-copies : copies_in (slots_at (k, record c { to = to })) ≡ copies_in (slots_at (k, c))
  cut-copies =
      let xs = take (id - k) whole in
      let parts = ap (slots_of c k) (sym (take-append-drop (id - k) whole)) ∙ slots-append c k xs (drop (id - k) whole) in
      ap copies_in (slots-to c to k (member_list to) ∙ ap (slots_of c k) front.list)
      ∙ sym (rest-none xs parts (elim (cases_lt (id - k) (length whole)) [
        | inl less ↦ inl (omega (arith, length-take-le (id - k) whole (omega arith)))
        | inr more ↦ inr (drop_all (id - k) whole more)
      ]))

  cut-left : AreLeft c → AreLeft (record c { to = to })
  cut-left are q is = elim (cases_lt q 256) [
    | inr past ↦ front.same q (inr past) ∙ are q is
    | inl small ↦ elim (cases_lt (rank c.to q) (id - k)) [
      | inl few ↦ front.same q (inl few) ∙ are q is
      | inr many ↦
          let j = rank c.to q in
          let slots = slots_at (k, c) in
          let at = slots-get c k j q whole (member-rank q c.to small (are q is)) in
          let found = found_in slots k j (k + j) (slot c (k + j) q) (slots-are c k whole) at refl ∙ slot-there c (k + j) q is in
          let early : k + j < id = all-found (λ f. f.id < id) (copies_in slots) (k + j) (record { id = k + j; from = c.from; to = q; bytes = c.bytes }) before found in
          absurd (omega arith)
    ]
  ]

-- ---- all casts, once they are cut

pub record AreCut (low id : ℕ) (before now : List Entry) : Type 0 where
  pub same : copies_of now ≡ copies_of before
  pub rising : AreRising low now id
  pub lefts : AllByRecursion (λ e. AreLeft e.1) now
  pub alone : AllByRecursion (λ e. IsAlone e.1) now

cut-none : (low id : ℕ) → low ≤ id → AreCut low id [] []
cut-none low id le = record { same = refl; rising = le; lefts = tt; alone = tt }

cut-kept : (low next id : ℕ) (e : Entry) (w : Cast) (es rest : List Entry) → AreRising low (e ∷ es) next → AreLeft e.1 → IsAlone e.1 → AreBefore id (copies_in (slots_at e)) → e.0 < id
    → w ≡ record e.1 { to = w.to } → IsFront (e.1).to (id - e.0) w.to → (e.0 + size w ≤ id → AreRising (e.0 + size w) es next → AreCut (e.0 + size w) id es rest) → AreCut low id (e ∷ es) ((e.0, w) ∷ rest)
cut-kept low next id e w es rest r left one before lt is front more =
    let long = ap size is ∙ cut-size id e.0 e.1 w.to lt before front in
    let up = r.0 in
    let some = r.1 in
    let cut = more (omega arith) (rising-weak (e.0 + size w) (e.0 + size e.1) next es (omega arith) r.2) in
    record {
      same = ap (λ (x : Cast). copies_in (slots_at (e.0, x)) ++ copies_of rest) is
          ∙ ap (λ fs. fs ++ copies_of rest) (cut-copies id e.0 e.1 w.to lt before front)
          ∙ ap (λ fs. copies_in (slots_at e) ++ fs) cut.same;
      rising = (r.0, omega arith, cut.rising);
      lefts = (subst AreLeft (sym is) (cut-left id e.0 e.1 w.to lt before front left), cut.lefts);
      alone = (λ many. let bytes = ap (λ (x : Cast). length x.bytes) is in let few = one (omega arith) in omega arith, cut.alone);
    }

cut-gone : (low next id : ℕ) (e : Entry) (es rest : List Entry) → AreRising low (e ∷ es) next → AreBefore id (copies_in (slots_at e)) → id ≤ e.0
    → (AreRising low es next → AreCut low id es rest) → AreCut low id (e ∷ es) rest
cut-gone low next id e es rest r before le more =
    let up = r.0 in
    let cut = more (rising-weak low (e.0 + size e.1) next es (omega arith) r.2) in
    let none = late-none id e.0 (slots_at e) (slots-are e.1 e.0 (member_list (e.1).to)) le before in
    record {
      same = cut.same ∙ ap (λ fs. fs ++ copies_of es) (sym none);
      rising = cut.rising;
      lefts = cut.lefts;
      alone = cut.alone;
    }

module _ {F : Type 0} (T : F → ℕ → Cast → Bool → Cast → F → Type 0) (id : ℕ) (f : F)
    (says : (k : ℕ) (c : Cast) (b : Bool) (w : Cast) (g : F) → T f k c b w g → IsCut id k c w b × (g ≡ f)) where
  pub all-cut : (low next : ℕ) (es now : List Entry) → RetainsPairs T f es now → AreRising low es next → AllByRecursion (λ e. AreLeft e.1) es → AllByRecursion (λ e. IsAlone e.1) es
      → AreBefore id (copies_of es) → low ≤ id → AreCut low id es now
  all-cut low next [] now h r all ones before le = subst (AreCut low id []) (sym h) (cut-none low id le)
  all-cut low next (e ∷ es) now h r all ones before le =
      let said = says e.0 e.1 h.0 h.1 h.2 h.4 in
      let rest = subst (λ g. RetainsPairs T g es h.3) said.1 h.5 in
      let cut = said.0 in
      let parts = before-split id (copies_in (slots_at e)) (copies_of es) before in
      subst (AreCut low id (e ∷ es)) (sym h.6) (elim (cases_lt e.0 id) [
        | inl lt ↦
            let stays = cut.stays_below ∙ lt-ltb e.0 id lt in
            let how = subst (λ b. OnTrue b ((h.1 ≡ record e.1 { to = (h.1).to }) × IsFront (e.1).to (id - e.0) (h.1).to)) stays cut.cut in
            subst (λ b. AreCut low id (e ∷ es) (cond b ((e.0, h.1) ∷ h.3) h.3)) (sym stays)
            (cut-kept low next id e h.1 es h.3 r all.0 ones.0 parts.0 lt how.0 how.1
            (λ few up. all-cut (e.0 + size h.1) next es h.3 rest up all.1 ones.1 parts.1 few))
        | inr ge ↦
            subst (λ b. AreCut low id (e ∷ es) (cond b ((e.0, h.1) ∷ h.3) h.3)) (sym (cut.stays_below ∙ le-ltb e.0 id ge))
            (cut-gone low next id e es h.3 r parts.0 ge (λ up. all-cut low next es h.3 rest up all.1 ones.1 parts.1 le))
      ])

-- ---- an id after those of all casts

pub rising-last : (low next id index : ℕ) (es : List Entry) (e : Entry) → AreRising low es next → slice_get es index ≡ Some e → index + 1 ≡ length es → e.0 + size e.1 ≤ id → AreRising low es id
rising-last low next id zero [] e r at last le = absurd cc
rising-last low next id (suc index) [] e r at last le = absurd cc
rising-last low next id zero (x ∷ []) e r at last le = (r.0, r.1, subst (λ (y : Entry). y.0 + size y.1 ≤ id) (sym (same_Some x e at)) le)
rising-last low next id zero (x ∷ (y ∷ es)) e r at last le = absurd (omega arith)
rising-last low next id (suc index) (x ∷ es) e r at last le = (r.0, r.1, rising-last (x.0 + size x.1) next id index es e r.2 at (omega arith) le)

-- ids may be left out after the last
pub rising-later : (low next later : ℕ) (es : List Entry) → AreRising low es next → next ≤ later → AreRising low es later
rising-later low next later [] r le = omega arith
rising-later low next later (e ∷ es) r le = (r.0, r.1, rising-later (e.0 + size e.1) next later es r.2 le)

pub casts-later : (es : List Entry) (next later : ℕ) → AreCasts es next → next ≤ later → later < 2 ^ 64 → AreCasts es later
casts-later es next later are le few = record { rising = rising-later 1 next later es are.rising le; few = few; lefts = are.lefts; alone = are.alone }
