-- The members of a set one after the other, and their ranks.
use Rattle.std.proofs.Common.{◌≡◌, ◌≢◌, ◌<◌, ◌≤◌, ℕ, zero, suc, ◌+◌, true, false, cond, List, [], ◌∷◌, ◌++◌, length, Some, None, refl, sym, ap, subst, ◌∙◌, append_assoc, append-nil, arith, inl, inr, eq-eqb}
use Rattle.std.specs.Prelude.{slice_get}
use Rattle.std.specs.List.{AllByRecursion}
use Rattle.std.specs.Ordering.{nat_cmp}
use Rattle.std.specs.Cmp.{unsigned_tied}
use Rattle.std.specs.FinSet.{contains, insert, empty, contains-empty, contains-insert}
use Rattle.std.proofs.lemmas.Cmp.{nat_cmp_total}
use Rattle.std.proofs.lemmas.Bool.{cases_eq, cases_lt, ne_eqb}
use Rattle.std.proofs.lemmas.List.{length_push}
use Rattle.std.proofs.lemmas.Option.{same_Some, none-some, slice_get_past, slice_get_within, slice_get-get_or}
use Rattle.mesh_base.specs.Members.{NodeIds, members_below, member_list}

pub members-zero : (s : NodeIds) → members_below 0 s ≡ []
unfolding members_below
members-zero s = refl

-- no member from i on, below m
pub members-none : (m i : ℕ) (s : NodeIds) → i ≤ m → ((q : ℕ) → i ≤ q → q < m → contains s q ≡ false) → members_below m s ≡ members_below i s
unfolding members_below
members-none zero i s le none = let zero_is : 0 ≡ i = omega arith in ap (λ (n : ℕ). members_below n s) zero_is
members-none (suc m) i s le none = elim (cases_eq i (suc m)) [
  | inl same ↦ ap (λ (n : ℕ). members_below n s) (sym same)
  | inr ne ↦ rw (none m (omega arith) (omega arith)) (members-none m i s (omega arith) (λ q up lt. none q up (omega arith)))
]

-- m is the next member from i on
pub members-next : (m i : ℕ) (s : NodeIds) → i ≤ m → contains s m ≡ true → ((q : ℕ) → i ≤ q → q < m → contains s q ≡ false) → members_below (m + 1) s ≡ members_below i s ++ m ∷ []
unfolding members_below
members-next m i s le is none =
    let up : m + 1 ≡ suc m = omega arith in
    rw (up, is) (ap (λ (ms : List ℕ). ms ++ m ∷ []) (members-none m i s le none))

pub members-rise : (m i : ℕ) (s : NodeIds) → i ≤ m → length (members_below i s) ≤ length (members_below m s)
unfolding members_below
members-rise zero i s le = let zero_is : 0 ≡ i = omega arith in subst (λ (n : ℕ). length (members_below n s) ≤ length (members_below 0 s)) zero_is (omega arith)
members-rise (suc m) i s le = elim (cases_eq i (suc m)) [
  | inl same ↦ rw same (omega arith)
  | inr ne ↦
      let before = members-rise m i s (omega arith) in
      elim (contains s m) as (λ b. length (members_below i s) ≤ length (cond b (members_below m s ++ m ∷ []) (members_below m s))) [
        | true ↦ omega (arith, length_push (members_below m s) m)
        | false ↦ before
      ]
]

pub members_few : (n : ℕ) (s : NodeIds) → length (members_below n s) ≤ n
unfolding members_below
members_few zero s = omega arith
members_few (suc n) s =
    let before = members_few n s in
    elim (contains s n) as (λ b. length (cond b (members_below n s ++ n ∷ []) (members_below n s)) ≤ suc n) [
      | true ↦ omega (arith, length_push (members_below n s) n)
      | false ↦ omega arith
    ]

pub all-push : (P : ℕ → Type 0) (xs : List ℕ) (x : ℕ) → AllByRecursion P xs → P x → AllByRecursion P (xs ++ x ∷ [])
all-push P [] x all is = (is, all)
all-push P (y ∷ xs) x all is = (all.0, all-push P xs x all.1 is)

pub members-all : (P : ℕ → Type 0) (n : ℕ) (s : NodeIds) → ((q : ℕ) → contains s q ≡ true → P q) → AllByRecursion P (members_below n s)
unfolding members_below
members-all P zero s each = tt
members-all P (suc n) s each =
    let before = members-all P n s each in
    elim (contains s n) as (λ b. contains s n ≡ b → AllByRecursion P (cond b (members_below n s ++ n ∷ []) (members_below n s))) [
      | true ↦ λ is. all-push P (members_below n s) n before (each n is)
      | false ↦ λ _. before
    ] refl

-- a set of nodes below `size` has no other members
pub members-size : (n size : ℕ) (s : NodeIds) → size ≤ n → ((q : ℕ) → contains s q ≡ true → q < size) → members_below n s ≡ members_below size s
members-size n size s le below = members-none n size s le (λ q up lt. elim (contains s q) as (λ b. contains s q ≡ b → b ≡ false) [ true ↦ λ is. absurd (let lt : q < size = below q is in omega arith) | false ↦ λ _. refl ] refl)

-- the members from i on are after those below it
pub members-more : (m i : ℕ) (s : NodeIds) → i ≤ m → (ms : List ℕ) × (members_below m s ≡ members_below i s ++ ms)
unfolding members_below
members-more zero i s le = let e : 0 ≡ i = omega arith in ([], ap (λ n. members_below n s) e ∙ sym (append-nil (members_below i s)))
members-more (suc m) i s le = elim (cases_eq i (suc m)) [
  | inl same ↦ ([], ap (λ n. members_below n s) (sym same) ∙ sym (append-nil (members_below i s)))
  | inr ne ↦
      let before = members-more m i s (omega arith) in
      elim (contains s m) as (λ b. (ms : List ℕ) × (cond b (members_below m s ++ m ∷ []) (members_below m s) ≡ members_below i s ++ ms)) [
        | true ↦ (before.0 ++ m ∷ [], ap (λ l. l ++ m ∷ []) before.1 ∙ append_assoc (members_below i s) before.0 (m ∷ []))
        | false ↦ before
      ]
]

get_front : (xs ys : List ℕ) (x : ℕ) → slice_get ((xs ++ x ∷ []) ++ ys) (length xs) ≡ Some x
get_front [] ys x = refl
get_front (y ∷ xs) ys x = get_front xs ys x

-- m is the member after as many as there are below i
pub member-at : (m i k : ℕ) (s : NodeIds) → m < 256 → i ≤ m → contains s m ≡ true → ((q : ℕ) → i ≤ q → q < m → contains s q ≡ false) → length (members_below i s) ≡ k → slice_get (members_below 256 s) k ≡ Some m
member-at m i k s lt le is none e =
    let more = members-more 256 (m + 1) s (omega arith) in
    ap (λ l. slice_get l k) (more.1 ∙ ap (λ l. l ++ more.0) (members-next m i s le is none))
    ∙ ap (λ n. slice_get ((members_below i s ++ m ∷ []) ++ more.0) n) (sym e)
    ∙ get_front (members_below i s) more.0 m

-- there are no more than those below i
pub member-past : (i k : ℕ) (s : NodeIds) → i ≤ 256 → ((q : ℕ) → i ≤ q → contains s q ≡ false) → length (members_below i s) ≤ k → slice_get (members_below 256 s) k ≡ None
member-past i k s le none few =
    ap (λ l. slice_get l k) (members-none 256 i s le (λ q up lt. none q up)) ∙ slice_get_past (members_below i s) k few

pub members-one : (m i : ℕ) (s : NodeIds) → i ≤ m → contains s m ≡ true → ((q : ℕ) → i ≤ q → q < m → contains s q ≡ false) → length (members_below (m + 1) s) ≡ length (members_below i s) + 1
members-one m i s le is none = ap length (members-next m i s le is none) ∙ length_push (members_below i s) m

-- ---- one member

pub member_list-one : (m : ℕ) → m < 256 → member_list (insert empty m) ≡ m ∷ []
member_list-one m lt =
    let s : NodeIds = insert empty m in
    let others : (q : ℕ) → q ≢ m → contains s q ≡ false = λ q ne. contains-insert nat_cmp_total empty m q ∙ rw (unsigned_tied q m, ne_eqb q m ne, contains-empty nat_cmp q) refl in
    let here : contains s m ≡ true = contains-insert nat_cmp_total empty m m ∙ rw (unsigned_tied m m, eq-eqb m m refl) refl in
    members-none 256 (m + 1) s (omega arith) (λ q up less. others q (λ e. omega arith))
    ∙ members-next m 0 s (omega arith) here (λ q up less. others q (λ e. omega arith))
    ∙ ap (λ ms. ms ++ m ∷ []) (members-zero s)

-- ---- they rise

abbrev pub Rises : ℕ → List ℕ → ℕ → Type 0
Rises low [] next = low ≤ next
Rises low (x ∷ xs) next = (low ≤ x) × Rises (x + 1) xs next

rises-push : (low next : ℕ) (xs : List ℕ) (x : ℕ) → Rises low xs next → next ≤ x → Rises low (xs ++ x ∷ []) (x + 1)
rises-push low next [] x r le = (omega arith, omega arith)
rises-push low next (y ∷ xs) x r le = (r.0, rises-push (y + 1) next xs x r.1 le)

rises-more : (low next later : ℕ) (xs : List ℕ) → Rises low xs next → next ≤ later → Rises low xs later
rises-more low next later [] r le = omega arith
rises-more low next later (x ∷ xs) r le = (r.0, rises-more (x + 1) next later xs r.1 le)

pub members-sorted : (n : ℕ) (s : NodeIds) → Rises 0 (members_below n s) n
unfolding members_below
members-sorted zero s = omega arith
members-sorted (suc n) s =
    let before = members-sorted n s in
    let next : n + 1 ≡ suc n = omega arith in
    elim (contains s n) as (λ b. Rises 0 (cond b (members_below n s ++ n ∷ []) (members_below n s)) (suc n)) [
      | true ↦ subst (Rises 0 (members_below n s ++ n ∷ [])) next (rises-push 0 n (members_below n s) n before (omega arith))
      | false ↦ rises-more 0 n (suc n) (members_below n s) before (omega arith)
    ]

rises-first : (low next j y : ℕ) (xs : List ℕ) → Rises low xs next → slice_get xs j ≡ Some y → low ≤ y
rises-first low next zero y [] r e = absurd cc
rises-first low next (suc j) y [] r e = absurd cc
rises-first low next zero y (x ∷ xs) r e = let same : x ≡ y = same_Some x y e in let up = r.0 in omega arith
rises-first low next (suc j) y (x ∷ xs) r e = let rest = rises-first (x + 1) next j y xs r.1 e in let up = r.0 in omega arith

pub rises-order : (low next i j x y : ℕ) (xs : List ℕ) → Rises low xs next → slice_get xs i ≡ Some x → slice_get xs j ≡ Some y → i < j → x < y
rises-order low next zero j x y [] r e h lt = absurd cc
rises-order low next (suc i) j x y [] r e h lt = absurd cc
rises-order low next i zero x y (z ∷ xs) r e h lt = absurd (omega arith)
rises-order low next zero (suc j) x y (z ∷ xs) r e h lt = let same : z ≡ x = same_Some z x e in let up = rises-first (z + 1) next j y xs r.1 h in omega arith
rises-order low next (suc i) (suc j) x y (z ∷ xs) r e h lt = rises-order (z + 1) next i j x y xs r.1 e h (omega arith)

-- a member stands after as many as there are below it
pub member-rank : (m : ℕ) (s : NodeIds) → m < 256 → contains s m ≡ true → slice_get (members_below 256 s) (length (members_below m s)) ≡ Some m
member-rank m s lt is = member-at m m (length (members_below m s)) s lt (omega arith) is (λ q le less. absurd (omega arith)) refl

-- of two members the later is not less
pub members-order : (i j x y : ℕ) (s : NodeIds) → slice_get (members_below 256 s) i ≡ Some x → slice_get (members_below 256 s) j ≡ Some y → i ≤ j → x ≤ y
members-order i j x y s e h le = elim (cases_lt i j) [
  | inl lt ↦ let less = rises-order 0 256 i j x y (members_below 256 s) (members-sorted 256 s) e h lt in omega arith
  | inr ge ↦
      let same : i ≡ j = omega arith in
      let equal : x ≡ y = same_Some x y (sym e ∙ ap (slice_get (members_below 256 s)) same ∙ h) in
      omega arith
]

pub rises-bound : (low next j y : ℕ) (xs : List ℕ) → Rises low xs next → slice_get xs j ≡ Some y → y < next
rises-bound low next zero y [] r e = absurd cc
rises-bound low next (suc j) y [] r e = absurd cc
rises-bound low next zero y (x ∷ xs) r e = let same : x ≡ y = same_Some x y e in let up = rises-le (x + 1) next xs r.1 in omega arith
  where
    rises-le : (low next : ℕ) (xs : List ℕ) → Rises low xs next → low ≤ next
    rises-le low next [] r = r
    rises-le low next (x ∷ xs) r = let rest = rises-le (x + 1) next xs r.1 in let up = r.0 in omega arith
rises-bound low next (suc j) y (x ∷ xs) r e = rises-bound (x + 1) next j y xs r.1 e

-- where there is no first member there is none
pub no-first : (s : NodeIds) (q : ℕ) → slice_get (members_below 256 s) 0 ≡ None → q < 256 → contains s q ≡ false
no-first s q none lt = elim (contains s q) as (λ b. contains s q ≡ b → b ≡ false) [
  | true ↦ λ is. absurd (
      let at = member-rank q s lt is in
      let inside = slice_get_within (members_below 256 s) (length (members_below q s)) q at in
      none-some _ (sym none ∙ slice_get-get_or (members_below 256 s) 0 0 (omega arith)))
  | false ↦ λ _. refl
] refl
