-- Rising destinations as a map.
use Rattle.std.proofs.Common.{◌≡◌, ◌<◌, ◌≤◌, ℕ, zero, suc, Bool, true, false, cond, eqb, List, [], ◌∷◌, ◌++◌, length, Option, Some, None, refl, sym, ap, subst, ◌∙◌, arith}
use Rattle.std.specs.Prelude.{IsTrue, T, get_or}
use Rattle.std.proofs.lemmas.Bool.{cases_lt}
use Rattle.std.specs.declared.cmp.Ordering.{Ordering}
use Rattle.std.specs.FinMap.Entries.{by_order}
use Rattle.std.specs.Cmp.{nat_cmp_is}
use Rattle.std.proofs.Common.{eq-eqb, inl, inr}
use Rattle.std.specs.Ordering.{nat_cmp, eq_by_cmp}
use Rattle.std.specs.declared.cmp.Ordering.TheVariants.{Less, Equal, Greater}
use Rattle.std.specs.Cmp.{unsigned_tied}
use Rattle.std.specs.FinMap as maps
use Rattle.std.specs.FinMap.{is_sorted, find}
use Rattle.std.specs.FinMap.Entries.{put, is_sorted-put, below_all}
use Rattle.std.specs.Cmp.{ranked}
use Rattle.std.specs.Ordering.{is_lt}
use Rattle.std.specs.List.Sorted.{IsNonDecreasingBy}
use Rattle.std.proofs.lemmas.List.{get_or_default}
use Rattle.std.proofs.lemmas.Bool.{ne_eqb, cases_eq}
use Rattle.std.proofs.lemmas.Cmp.{nat_cmp_total}
use Rattle.std.proofs.lemmas.Option.{none-some}
use Rattle.mesh_base.proofs.Lemmas.Bools.{left_of_both, right_of_both}
use Rattle.aodv_model.specs.Destinations.{Numbers, IsRising}

pub entries_of : (es : List (ℕ × ℕ)) → IsRising es → maps.entries (maps.from_sorted {R = nat_cmp} es) ≡ es
entries_of es is = maps.entries-from_sorted nat_cmp es (search is.sorted)

pub no_entries : maps.from_sorted {R = nat_cmp} [] ≡ maps.empty {X = ℕ}
no_entries = maps.empty_of_len (maps.from_sorted {R = nat_cmp} []) (maps.len-entries (maps.from_sorted {R = nat_cmp} []) ∙ ap length (entries_of [] (record { sorted = refl })))

cond_none : (b : Bool) (v : ℕ) (o : Option ℕ) → cond b (Some v) o ≡ None → (b ≡ false) × (o ≡ None)
cond_none true v o e = absurd (none-some v (sym e))
cond_none false v o e = (refl, e)

at_greater : (d n : ℕ) (e : ℕ × ℕ) (es rest : List (ℕ × ℕ)) (r : Ordering) → Greater ≡ r → by_order r ((d, n) ∷ e ∷ es) ((e.0, n) ∷ es) (e ∷ rest) ≡ e ∷ rest
at_greater d n e es rest r is = subst (λ (r : Ordering). by_order r ((d, n) ∷ e ∷ es) ((e.0, n) ∷ es) (e ∷ rest) ≡ e ∷ rest) is refl

pub put_last : (es : List (ℕ × ℕ)) (d n : ℕ) → ((q : ℕ) → d ≤ q → find nat_cmp q es ≡ None) → put nat_cmp d n es ≡ es ++ (d, n) ∷ []
put_last [] d n above = refl
put_last (e ∷ es) d n above =
    let lt : e.0 < d = elim (cases_lt e.0 d) [
      | inl lt ↦ lt
      | inr le ↦ let f = (cond_none (eq_by_cmp nat_cmp e.0 e.0) e.1 (find nat_cmp e.0 es) (above e.0 le)).0 in
          let t : eq_by_cmp nat_cmp e.0 e.0 ≡ true = unsigned_tied e.0 e.0 ∙ eq-eqb e.0 e.0 refl in cc
    ] in
    at_greater d n e es (put nat_cmp d n es) (nat_cmp d e.0) (nat_cmp_is d e.0 Greater lt)
    ∙ ap (λ xs. e ∷ xs) (put_last es d n (λ q le. (cond_none (eq_by_cmp nat_cmp q e.0) e.1 (find nat_cmp q es) (above q le)).1))

-- what a push needs and gives
pub record Pushed (es : List (ℕ × ℕ)) (d n : ℕ) : Type 0 where
  pub rising : IsRising (es ++ (d, n) ∷ [])
  pub entries : maps.entries (maps.from_sorted {R = nat_cmp} (es ++ (d, n) ∷ [])) ≡ es ++ (d, n) ∷ []
  pub map : maps.from_sorted {R = nat_cmp} (es ++ (d, n) ∷ []) ≡ maps.insert (maps.from_sorted es) d n

pub pushed : (es : List (ℕ × ℕ)) (d n : ℕ) → IsRising es → ((q : ℕ) → d ≤ q → maps.get (maps.from_sorted {R = nat_cmp} es) q ≡ None) → Pushed es d n
pushed es d n is above =
    let last = put_last es d n (λ q le. sym (maps.get-from_sorted nat_cmp es q (search is.sorted)) ∙ above q le) in
    let old = is_sorted-put nat_cmp nat_cmp_total d n es (search is.sorted) in
    let rising : IsRising (es ++ (d, n) ∷ []) = record { sorted = subst (λ (xs : List (ℕ × ℕ)). IsTrue (is_sorted nat_cmp xs)) last (is_true (is_sorted nat_cmp (put nat_cmp d n es)) old) } in
    let new = entries_of (es ++ (d, n) ∷ []) rising in
    record {
      rising = rising;
      entries = new;
      map = maps.same_entries_map _ (maps.insert (maps.from_sorted es) d n) (new ∙ sym last ∙ sym (maps.entries-insert nat_cmp_total (maps.from_sorted es) d n ∙ ap (put nat_cmp d n) (entries_of es is)));
    }
  where
    is_true : (b : Bool) → T b → IsTrue b
    is_true true t = refl
    is_true false t = absurd t

pub entries_shown : (es : List (ℕ × ℕ)) (m : Numbers) → IsRising es → maps.from_sorted es ≡ m → maps.entries m ≡ es
entries_shown es m is e = sym (ap maps.entries e) ∙ entries_of es is

-- ---- a binary search

is_true : (b : Bool) → IsTrue b → T b
is_true true e = tt
is_true false e = absurd (none_true e)
  where
    none_true : false ≡ true → ⊥
    none_true e = cc

lower : (o : Ordering) → T (is_lt o) → Less ≡ o
lower Less h = refl
lower Equal h = absurd h
lower Greater h = absurd h

-- the destination of the k-th pair
abbrev pub dest_at : {X : Type 0} → (ℕ × X) → List (ℕ × X) → ℕ → ℕ
dest_at x es k = (get_or es k x).0

above_first : {X : Type 0} (x : ℕ × X) (d : ℕ) (es : List (ℕ × X)) (i : ℕ) → T (below_all nat_cmp d es) → i < length es → d < dest_at x es i
above_first x d [] i below h = absurd (omega arith)
above_first x d (e ∷ es) zero below h = ranked d e.0 Less (lower (nat_cmp d e.0) (left_of_both _ _ below))
above_first x d (e ∷ es) (suc i) below h = above_first x d es i (right_of_both _ _ below) (omega arith)

pub rises : {X : Type 0} (x : ℕ × X) (es : List (ℕ × X)) (i j : ℕ) → T (is_sorted nat_cmp es) → i < j → j < length es → dest_at x es i < dest_at x es j
rises x [] i j sorted lt h = absurd (omega arith)
rises x (e ∷ es) i zero sorted lt h = absurd (omega arith)
rises x (e ∷ es) zero (suc j) sorted lt h = above_first x e.0 es j (left_of_both _ _ sorted) (omega arith)
rises x (e ∷ es) (suc i) (suc j) sorted lt h = rises x es i j (right_of_both _ _ sorted) (omega arith) (omega arith)

rises_or_same : (es : List (ℕ × ℕ)) (i j : ℕ) → IsRising es → i ≤ j → j < length es → dest_at (0, 0) es i ≤ dest_at (0, 0) es j
rises_or_same es i j is le h =
    elim (cases_eq i j) [
      | inl same ↦ omega (arith, ap (dest_at (0, 0) es) same)
      | inr apart ↦ let up = rises (0, 0) es i j (is_true _ is.sorted) (omega arith) h in omega arith
    ]

pub falls_nowhere : (es : List (ℕ × ℕ)) → IsRising es → IsNonDecreasingBy (λ p. p.0) es
falls_nowhere es is i j d le h =
    rw (get_or_default es i d (0, 0) (omega arith), get_or_default es j d (0, 0) h) (rises_or_same es i j is le h)

-- an index with all lower destinations before it and none after it
pub record IsIndexFor (es : List (ℕ × ℕ)) (d index : ℕ) : Type 0 where
  pub within : index ≤ length es
  pub below : (i : ℕ) → i < index → dest_at (0, 0) es i < d
  pub above : (i : ℕ) → index ≤ i → i < length es → d ≤ dest_at (0, 0) es i

find_here : (es : List (ℕ × ℕ)) (d index : ℕ) → ((i : ℕ) → i < index → dest_at (0, 0) es i < d) → index < length es → dest_at (0, 0) es index ≡ d → find nat_cmp d es ≡ Some (get_or es index (0, 0)).1
find_here [] d index below h is = absurd (omega arith)
find_here (e ∷ es) d zero below h is = rw (unsigned_tied d e.0, eq-eqb d e.0 (sym is)) refl
find_here (e ∷ es) d (suc index) below h is =
    let first = below 0 (omega arith) in
    rw (unsigned_tied d e.0, ne_eqb d e.0 (λ same. omega arith)) (find_here es d index (λ i lt. below (suc i) (omega arith)) (omega arith) is)

find_nowhere : (es : List (ℕ × ℕ)) (d : ℕ) → ((i : ℕ) → i < length es → dest_at (0, 0) es i ≡ d → ⊥) → find nat_cmp d es ≡ None
find_nowhere [] d none = refl
find_nowhere (e ∷ es) d none =
    let other = none 0 (omega arith) in
    rw (unsigned_tied d e.0, ne_eqb d e.0 (λ same. other (sym same))) (find_nowhere es d (λ i h. none (suc i) (omega arith)))

nowhere : (es : List (ℕ × ℕ)) (d index i : ℕ) → IsRising es → IsIndexFor es d index → (index < length es → dest_at (0, 0) es index ≡ d → ⊥) → i < length es → dest_at (0, 0) es i ≡ d → ⊥
nowhere es d index i is at not h e =
    elim (cases_lt i index) [
      | inl early ↦ let below = at.below i early in omega arith
      | inr late ↦
          elim (cases_eq i index) [
            | inl same ↦ not (omega arith) (ap (dest_at (0, 0) es) (sym same) ∙ e)
            | inr other ↦
                let up = rises (0, 0) es index i (is_true _ is.sorted) (omega arith) h in
                let from = at.above index (omega arith) (omega arith) in
                omega arith
          ]
    ]

pub number_here : (es : List (ℕ × ℕ)) (d index : ℕ) → IsRising es → IsIndexFor es d index → index < length es → dest_at (0, 0) es index ≡ d
    → Some (get_or es index (0, 0)).1 ≡ maps.get (maps.from_sorted {R = nat_cmp} es) d
number_here es d index is at h same = sym (maps.get-from_sorted nat_cmp es d (is_true _ is.sorted) ∙ find_here es d index at.below h same)

pub number_nowhere : (es : List (ℕ × ℕ)) (d index : ℕ) → IsRising es → IsIndexFor es d index → (index < length es → dest_at (0, 0) es index ≡ d → ⊥)
    → None ≡ maps.get (maps.from_sorted {R = nat_cmp} es) d
number_nowhere es d index is at not = sym (maps.get-from_sorted nat_cmp es d (is_true _ is.sorted) ∙ find_nowhere es d (λ i h. nowhere es d index i is at not h))

pub index_along : (xs es : List (ℕ × ℕ)) (d index : ℕ) → xs ≡ es → index ≤ length xs → ((i : ℕ) → i < index → dest_at (0, 0) xs i < d)
    → ((i : ℕ) → index ≤ i → i < length xs → d ≤ dest_at (0, 0) xs i) → IsIndexFor es d index
index_along xs es d index e within below above = subst (λ ys. IsIndexFor ys d index) e (record { within = within; below = below; above = above })

-- ---- no pairs

pub empty_if : (es : List (ℕ × ℕ)) → es ≡ [] → maps.from_sorted {R = nat_cmp} es ≡ maps.empty
empty_if es e = ap maps.from_sorted e ∙ no_entries

if_empty : (es : List (ℕ × ℕ)) → IsRising es → maps.from_sorted {R = nat_cmp} es ≡ maps.empty → length es ≡ 0
if_empty es is e = sym (ap length (entries_of es is)) ∙ sym (maps.len-entries (maps.from_sorted es)) ∙ ap maps.len e ∙ maps.len-empty nat_cmp ℕ

pub entries_if : (es : List (ℕ × ℕ)) → es ≡ [] → maps.entries (maps.from_sorted {R = nat_cmp} es) ≡ []
entries_if es e = ap (λ xs. maps.entries (maps.from_sorted {R = nat_cmp} xs)) e ∙ entries_of [] (record { sorted = refl })

-- the test of an empty list
pub empty_tested : (es : List (ℕ × ℕ)) (m : Numbers) (b : Bool) → IsRising es → maps.from_sorted es ≡ m → b ≡ eqb (length es) 0 → (IsTrue b → m ≡ maps.empty) × (m ≡ maps.empty → IsTrue b)
empty_tested [] m b is shown e = (λ _. sym shown ∙ no_entries, λ _. e)
empty_tested (x ∷ es) m b is shown e =
    (λ h. absurd (false_true (sym (ne_eqb (length (x ∷ es)) 0 length_zero) ∙ sym e ∙ h)), λ none. absurd (length_zero (if_empty (x ∷ es) is (shown ∙ none))))
  where
    false_true : false ≡ true → ⊥
    false_true e = cc

    length_zero : length (x ∷ es) ≡ 0 → ⊥
    length_zero e = omega arith

-- ---- how many destinations stand below a number

at_least : {X : Type 0} (x : ℕ × X) (es : List (ℕ × X)) (k : ℕ) → T (is_sorted nat_cmp es) → k < length es → k ≤ dest_at x es k
at_least x es zero sorted h = omega arith
at_least x es (suc k) sorted h =
    let before = at_least x es k sorted (omega arith) in
    let up = rises x es k (suc k) sorted (omega arith) h in
    omega arith

pub found_at : {X : Type 0} (x : ℕ × X) (es : List (ℕ × X)) (k : ℕ) → T (is_sorted nat_cmp es) → k < length es → find nat_cmp (dest_at x es k) es ≡ Some (get_or es k x).1
found_at x [] k sorted h = absurd (omega arith)
found_at x (e ∷ es) zero sorted h = rw (unsigned_tied e.0 e.0, eq-eqb e.0 e.0 refl) refl
found_at x (e ∷ es) (suc k) sorted h =
    let up = rises x (e ∷ es) 0 (suc k) sorted (omega arith) h in
    rw (unsigned_tied (dest_at x es k) e.0, ne_eqb (dest_at x es k) e.0 (λ same. omega arith)) (found_at x es k (right_of_both _ _ sorted) (omega arith))

few_entries : {X : Type 0} (es : List (ℕ × X)) (n : ℕ) → T (is_sorted nat_cmp es) → ((q : ℕ) → n ≤ q → find nat_cmp q es ≡ None) → length es ≤ n
few_entries [] n sorted none = omega arith
few_entries (e ∷ es) n sorted none =
    elim (cases_lt n (length (e ∷ es))) [
      | inl lt ↦ absurd (none-some _ (sym (none (dest_at e (e ∷ es) n) (at_least e (e ∷ es) n sorted lt)) ∙ found_at e (e ∷ es) n sorted lt))
      | inr le ↦ le
    ]

-- a map with all its keys below n has at most n of them
pub few_below : {X : Type 0} (m : maps.FinMap nat_cmp X) (n : ℕ) → ((q : ℕ) → n ≤ q → maps.get m q ≡ None) → length (maps.entries m) ≤ n
few_below m n none = few_entries (maps.entries m) n (maps.entries_sorted m) (λ q le. sym (maps.get-entries m q) ∙ none q le)

-- the pairs after the first rise too, and none of them has its destination
pub no_later : (e : ℕ × ℕ) (es : List (ℕ × ℕ)) → T (is_sorted nat_cmp (e ∷ es)) → T (is_sorted nat_cmp es) × (find nat_cmp e.0 es ≡ None)
no_later e es sorted =
    (right_of_both _ _ sorted, find_nowhere es e.0 (λ i h same. let up = above_first (0, 0) e.0 es i (left_of_both _ _ sorted) h in omega arith))
