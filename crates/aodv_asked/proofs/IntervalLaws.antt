-- Intervals and their numbers.
use Rattle.std.proofs.Common.{◌≡◌, ◌<◌, ◌≤◌, ℕ, zero, suc, ◌+◌, ◌-◌, Bool, true, false, cond, eqb, ltb, leb, ◌&&◌, ◌||◌, List, [], ◌∷◌, ◌++◌, length, get_or, take, drop, refl, sym, ap, subst, ◌∙◌, arith}
use Rattle.std.proofs.Math.Bool.{or_assoc}
use Rattle.std.proofs.lemmas.List.{take-append-drop}
use Rattle.std.proofs.lemmas.Bool.{eqb-true, eqb-false, leb-false, le-ltb, ne_eqb, lt-leb}
use Rattle.std.specs.FinMap.{nat_cmp-IsAntisymmetric}
use borrow.Author.Tests.{ltb-true}
use Rattle.std.proofs.lemmas.Bool.Decides.{nat_tests}
use Rattle.std.proofs.lemmas.Cmp.{nat_cmp_total}
use Rattle.std.specs.Cmp.{unsigned_tied}
use Rattle.std.specs.Ordering.{nat_cmp}
use Rattle.std.specs.FinSet.{empty, insert, contains, contains-empty, contains-insert, same_set}
use Rattle.aodv_asked.specs.declared.interval.Interval.{Interval}
use Rattle.aodv_asked.specs.Insertions.{interval_at, is_in, is_near_to, extension, with_id}
use Rattle.aodv_asked.specs.Intervals.{is_near_in, IdSet, with_range, ids_in, AreApart}

-- each interval ends before the id, and not next to it
abbrev pub AllBefore : List Interval → ℕ → Type 0
AllBefore [] q = Unit {0}
AllBefore (v ∷ vs) q = (v.last + 1 < q) × AllBefore vs q

range_more : (lo n q : ℕ) (b : Bool) → (eqb q (lo + n) || ((leb lo q && ltb q (lo + n)) || b)) ≡ ((leb lo q && ltb q (lo + (n + 1))) || b)
range_more lo n q b = grind (arith, nat_tests)

range_none : (lo q : ℕ) (b : Bool) → b ≡ ((leb lo q && ltb q (lo + 0)) || b)
range_none lo q b = grind (arith, nat_tests)

pub contains-with_range : (s : IdSet) (lo n q : ℕ) → contains (with_range s lo n) q ≡ ((leb lo q && ltb q (lo + n)) || contains s q)
unfolding with_range
contains-with_range s lo zero q = range_none lo q (contains s q)
contains-with_range s lo (suc n) q = contains-insert nat_cmp_total (with_range s lo n) (lo + n) q ∙ rw (unsigned_tied q (lo + n), contains-with_range s lo n q) (range_more lo n q (contains s q) ∙ ap (λ (m : ℕ). (leb lo q && ltb q (lo + m)) || contains s q) (omega arith))

is_in-joined : (lo : ℕ) (v : Interval) (vs : List Interval) (q x : ℕ) → v.first ≤ v.last → AreApart (v.last + 2) vs → q ≡ v.last + 1 → is_in (extension v q vs) x ≡ (eqb x q || ((leb v.first x && leb x v.last) || is_in vs x))
unfolding is_in
is_in-joined lo v [] q x some apart next = grind (arith, nat_tests)
is_in-joined lo v (w ∷ ws) q x some apart next = grind (arith, nat_tests)

is_in-with_id : (lo : ℕ) (vs : List Interval) (q x : ℕ) → AreApart lo vs → is_in (with_id vs q) x ≡ (eqb x q || is_in vs x)
unfolding is_in
is_in-with_id lo [] q x apart = grind (arith, nat_tests)
is_in-with_id lo (v ∷ vs) q x apart =
    let ih = is_in-with_id (v.last + 2) vs q x apart.2 in
    let j = is_in-joined (v.last + 2) v vs q x apart.1 apart.2 in
    by_cases (ltb (q + 1) v.first) (eqb (q + 1) v.first) (leb q v.last) (eqb q (v.last + 1)) refl refl refl refl ih j
  where
    by_cases : (a b c d : Bool) → ltb (q + 1) v.first ≡ a → eqb (q + 1) v.first ≡ b → leb q v.last ≡ c → eqb q (v.last + 1) ≡ d
        → is_in (with_id vs q) x ≡ (eqb x q || is_in vs x) → (q ≡ v.last + 1 → is_in (extension v q vs) x ≡ (eqb x q || ((leb v.first x && leb x v.last) || is_in vs x)))
        → is_in (cond a (record { first = q; last = q } ∷ v ∷ vs) (cond b (record { first = q; last = v.last } ∷ vs) (cond c (v ∷ vs) (cond d (extension v q vs) (v ∷ with_id vs q))))) x ≡ (eqb x q || is_in (v ∷ vs) x)
    by_cases true b c d ea eb ec ed ih j = grind (arith, nat_tests)
    by_cases false true c d ea eb ec ed ih j = grind (arith, nat_tests)
    by_cases false false true d ea eb ec ed ih j = grind (arith, nat_tests)
    by_cases false false false true ea eb ec ed ih j = j (eqb-true _ _ ed)
    by_cases false false false false ea eb ec ed ih j = grind (arith, nat_tests, ih)

pub apart-with_id : (lo : ℕ) (vs : List Interval) (q : ℕ) → lo ≤ q → AreApart lo vs → AreApart lo (with_id vs q)
apart-with_id lo [] q low apart = (low, omega arith, tt)
apart-with_id lo (v ∷ vs) q low apart =
    by_cases (ltb (q + 1) v.first) (eqb (q + 1) v.first) (leb q v.last) (eqb q (v.last + 1)) refl refl refl refl (λ le. apart-with_id (v.last + 2) vs q le apart.2)
  where
    joined_apart : (ws : List Interval) → q ≡ v.last + 1 → AreApart (v.last + 2) ws → AreApart lo (extension v q ws)
    joined_apart [] next rest = (apart.0, omega (arith, apart.1), tt)
    joined_apart (w ∷ ws) next rest =
        at (eqb (q + 1) w.first) refl
      where
        at : (b : Bool) → eqb (q + 1) w.first ≡ b → AreApart lo (cond b (record { first = v.first; last = w.last } ∷ ws) (record { first = v.first; last = q } ∷ w ∷ ws))
        at true e = (apart.0, omega (arith, apart.1, rest.0, rest.1), rest.2)
        at false e = let ne = eqb-false _ _ e in (apart.0, omega (arith, apart.1), (omega (arith, rest.0, ne), rest.1, rest.2))

    by_cases : (a b c d : Bool) → ltb (q + 1) v.first ≡ a → eqb (q + 1) v.first ≡ b → leb q v.last ≡ c → eqb q (v.last + 1) ≡ d → (v.last + 2 ≤ q → AreApart (v.last + 2) (with_id vs q))
        → AreApart lo (cond a (record { first = q; last = q } ∷ v ∷ vs) (cond b (record { first = q; last = v.last } ∷ vs) (cond c (v ∷ vs) (cond d (extension v q vs) (v ∷ with_id vs q)))))
    by_cases true b c d ea eb ec ed ih = (low, omega arith, (omega (arith, ltb-true _ _ ea), apart.1, apart.2))
    by_cases false true c d ea eb ec ed ih = (low, omega (arith, eqb-true _ _ eb, apart.1), apart.2)
    by_cases false false true d ea eb ec ed ih = apart
    by_cases false false false true ea eb ec ed ih = joined_apart vs (eqb-true _ _ ed) apart.2
    by_cases false false false false ea eb ec ed ih =
        (apart.0, apart.1, ih (later (leb-false _ _ ec) (eqb-false _ _ ed)))
      where
        later : v.last < q → (q ≡ v.last + 1 → ⊥) → v.last + 2 ≤ q
        later lt ne = omega arith

pub contains-ids_in : (lo : ℕ) (vs : List Interval) (q : ℕ) → AreApart lo vs → contains (ids_in vs) q ≡ is_in vs q
unfolding ids_in is_in
contains-ids_in lo [] q apart = contains-empty nat_cmp q
contains-ids_in lo (v ∷ vs) q apart =
    let ih = contains-ids_in (v.last + 2) vs q apart.2 in
    let end : v.first + (v.last + 1 - v.first) ≡ v.last + 1 = omega (arith, apart.1) in
    contains-with_range (ids_in vs) v.first (v.last + 1 - v.first) q ∙ rw (end, ih) (grind (arith, nat_tests))

pub AllBefore-push : (vs : List Interval) (v : Interval) (q : ℕ) → AllBefore vs q → v.last + 1 < q → AllBefore (vs ++ v ∷ []) q
AllBefore-push [] v q all h = (h, tt)
AllBefore-push (w ∷ vs) v q all h = (all.0, AllBefore-push vs v q all.1 h)

pub with_id-skip : (lo : ℕ) (xs ys : List Interval) (q : ℕ) → AreApart lo (xs ++ ys) → AllBefore xs q → with_id (xs ++ ys) q ≡ xs ++ with_id ys q
with_id-skip lo [] ys q apart before = refl
with_id-skip lo (v ∷ xs) ys q apart before =
    let a : ltb (q + 1) v.first ≡ false = le-ltb _ _ (omega (arith, apart.1, before.0)) in
    let b : eqb (q + 1) v.first ≡ false = ne_eqb _ _ (λ e. omega (arith, apart.1, before.0)) in
    let c : leb q v.last ≡ false = lt-leb _ _ (omega (arith, before.0)) in
    let d : eqb q (v.last + 1) ≡ false = ne_eqb _ _ (λ e. omega (arith, before.0)) in
    rw (a, b, c, d) (ap (λ (zs : List Interval). v ∷ zs) (with_id-skip (v.last + 2) xs ys q apart.2 before.1))

pub ids_in-with_id : (vs : List Interval) (q : ℕ) → AreApart 0 vs → ids_in (with_id vs q) ≡ insert (ids_in vs) q
ids_in-with_id vs q apart = same_set nat_cmp_total nat_cmp-IsAntisymmetric _ _ (λ x.
    contains-ids_in 0 (with_id vs q) x (apart-with_id 0 vs q (omega arith) apart)
    ∙ is_in-with_id 0 vs q x apart
    ∙ sym (contains-insert nat_cmp_total (ids_in vs) q x ∙ rw (unsigned_tied x q, contains-ids_in 0 vs x apart) refl))

pub no_ids_in : ids_in [] ≡ empty
unfolding ids_in
no_ids_in = refl

-- ---- at the position of a number

pub with_id-at : (vs : List Interval) (k q : ℕ) → AreApart 0 vs → AllBefore (take k vs) q → with_id vs q ≡ take k vs ++ with_id (drop k vs) q
with_id-at vs k q apart before =
    let parts = take-append-drop k vs in
    ap (λ (xs : List Interval). with_id xs q) (sym parts) ∙ with_id-skip 0 (take k vs) (drop k vs) q (subst (AreApart 0) (sym parts) apart) before

pub drop_at : (vs : List Interval) (k : ℕ) (v : Interval) → k < length vs → ((d : Interval) → get_or vs k d ≡ v) → drop k vs ≡ v ∷ drop (suc k) vs
drop_at [] k v h at = absurd (omega arith)
drop_at (w ∷ vs) zero v h at = ap (λ (x : Interval). x ∷ vs) (at v)
drop_at (w ∷ vs) (suc k) v h at = drop_at vs k v (omega arith) at

pub is_in-append : (xs ys : List Interval) (x : ℕ) → is_in (xs ++ ys) x ≡ (is_in xs x || is_in ys x)
unfolding is_in
is_in-append [] ys x = refl
is_in-append (v ∷ xs) ys x = ap (λ (b : Bool). (leb v.first x && leb x v.last) || b) (is_in-append xs ys x) ∙ sym (or_assoc (leb v.first x && leb x v.last) (is_in xs x) (is_in ys x))

pub is_in_before : (xs : List Interval) (q x : ℕ) → AllBefore xs q → q ≤ x + 1 → is_in xs x ≡ false
unfolding is_in
is_in_before [] q x before h = refl
is_in_before (v ∷ xs) q x before h = let ih = is_in_before xs q x before.1 h in let late : v.last + 1 < q = before.0 in grind (arith, nat_tests, ih)

pub is_in_after : (lo : ℕ) (ys : List Interval) (x : ℕ) → AreApart lo ys → x < lo → is_in ys x ≡ false
unfolding is_in
is_in_after lo [] x apart h = refl
is_in_after lo (v ∷ ys) x apart h = let ih = is_in_after (v.last + 2) ys x apart.2 (omega (arith, apart.0, apart.1)) in let early : lo ≤ v.first = apart.0 in grind (arith, nat_tests, ih)

later_apart : (lo lo' : ℕ) (ys : List Interval) → AreApart lo ys → ((v : Interval) (vs : List Interval) → ys ≡ v ∷ vs → lo' ≤ v.first) → AreApart lo' ys
later_apart lo lo' [] apart h = tt
later_apart lo lo' (v ∷ ys) apart h = (h v ys refl, apart.1, apart.2)

pub near_is : (vs : List Interval) (q : ℕ) → AreApart 0 vs → is_near_to vs q ≡ is_near_in (ids_in vs) q
near_is vs q apart = rw (contains-ids_in 0 vs q apart, contains-ids_in 0 vs (q + 1) apart, contains-ids_in 0 vs (q - 1) apart) refl

-- the intervals before a position end before the id, and not next to it
pub all_before : (xs vs : List Interval) (k q : ℕ) → xs ≡ vs → k ≤ length xs → ((i : ℕ) → i < k → (interval_at xs i).last + 1 < q) → AllBefore (take k vs) q
all_before xs vs k q same le each = subst (λ ys. AllBefore (take k ys) q) same (along xs k le each)
  where
    along : (xs : List Interval) (k : ℕ) → k ≤ length xs → ((i : ℕ) → i < k → (interval_at xs i).last + 1 < q) → AllBefore (take k xs) q
    along xs zero le each = tt
    along [] (suc k) le each = absurd (omega arith)
    along (v ∷ xs) (suc k) le each = (each 0 (omega arith), along xs k (omega arith) (λ i lt. each (suc i) (omega arith)))
