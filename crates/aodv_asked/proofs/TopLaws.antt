-- Ids and an interval that stands behind them.
use Rattle.std.proofs.Common.{◌≡◌, ◌<◌, ◌≤◌, ℕ, zero, suc, ◌+◌, ◌-◌, Bool, true, false, eqb, ltb, leb, ◌&&◌, ◌||◌, List, [], ◌∷◌, ◌++◌, length, length-append, max, take, Option, Some, None, refl, sym, ap, subst, ◌∙◌, arith, ◌⊎◌, inl, inr, IsTrue}
use Rattle.std.proofs.lemmas.Bool.{le-leb, lt-leb, cases_lt, leb-true, eqb-true}
use Rattle.std.proofs.lemmas.Bool.Decides.{nat_tests}
use Rattle.std.proofs.lemmas.Cmp.{nat_cmp_total}
use Rattle.std.proofs.Math.Bool.{or-true, or-false, and-false}
use Rattle.std.specs.Cmp.{unsigned_tied}
use Rattle.std.specs.List.{remove}
use Rattle.std.specs.Ordering.{nat_cmp}
use Rattle.std.specs.FinMap.{nat_cmp-IsAntisymmetric}
use Rattle.std.specs.FinSet.{empty, insert, contains, contains-empty, contains-insert, same_set}
use Rattle.mesh_base.specs.Members.{members_below, IsLeastFrom}
use Rattle.aodv_model.specs.Soundness.{AreBelow}
use Rattle.mesh_base.proofs.Ranks.{members_few, members-none}
use Rattle.aodv_asked.specs.declared.interval.Interval.{Interval}
use Rattle.aodv_asked.specs.Insertions.{interval, interval_at, is_in}
use Rattle.aodv_asked.specs.Intervals.{IdSet, with_range, ids_in, AreApart, IsGreatest, is_near_in}
use Rattle.aodv_asked.specs.Tops.{with_interval, ids_of, AreBefore, IsBehind, HasOneMore}
use Rattle.aodv_asked.proofs.IntervalLaws.{contains-with_range, contains-ids_in, is_in-append}

-- ---- which ids there are

same_range : (a b q : ℕ) (t : Bool) → ((leb a q && ltb q (a + (b + 1 - a))) || t) ≡ ((leb a q && leb q b) || t)
same_range a b q t = grind (arith, nat_tests)

pub contains-with_interval : (ids : IdSet) (v : Interval) (q : ℕ) → contains (with_interval ids v) q ≡ ((leb v.first q && leb q v.last) || contains ids q)
contains-with_interval ids v q =
    contains-with_range ids v.first (v.last + 1 - v.first) q ∙ same_range v.first v.last q (contains ids q)

contains-inserted : (ids : IdSet) (id q : ℕ) → contains (insert ids id) q ≡ (eqb q id || contains ids q)
contains-inserted ids id q =
    contains-insert nat_cmp_total ids id q ∙ ap (λ (b : Bool). b || contains ids q) (unsigned_tied q id)

same_ids : (a b : IdSet) → ((q : ℕ) → contains a q ≡ contains b q) → a ≡ b
same_ids a b same = same_set nat_cmp_total nat_cmp-IsAntisymmetric a b same

-- from the interval on the interval alone says which there are
pub from_top : (ids : IdSet) (v : Interval) (q : ℕ) → IsBehind ids v → v.first ≤ q → contains (with_interval ids v) q ≡ leb q v.last
from_top ids v q behind le = contains-with_interval ids v q ∙ at (contains ids q) refl
  where
    at : (b : Bool) → contains ids q ≡ b → ((leb v.first q && leb q v.last) || b) ≡ leb q v.last
    at true here = let before : q + 1 < v.first = behind.0 q here in absurd (omega arith)
    at false none = ap (λ (a : Bool). (a && leb q v.last) || false) (le-leb v.first q le) ∙ or-false (leb q v.last)

-- below it the ids say it
pub below_top : (ids : IdSet) (v : Interval) (q : ℕ) → q < v.first → contains (with_interval ids v) q ≡ contains ids q
below_top ids v q lt =
    contains-with_interval ids v q ∙ ap (λ (a : Bool). (a && leb q v.last) || contains ids q) (lt-leb v.first q lt)

-- above it there is none
pub above_top : (ids : IdSet) (v : Interval) (q : ℕ) → IsBehind ids v → v.first ≤ v.last + 1 → v.last < q → contains (with_interval ids v) q ≡ false
above_top ids v q behind some lt = from_top ids v q behind (omega arith) ∙ lt-leb q v.last lt

-- an id is in the interval, or before it
where_in : (ids : IdSet) (v : Interval) (q : ℕ) → contains (with_interval ids v) q ≡ true → ((v.first ≤ q) × (q ≤ v.last)) ⊎ (contains ids q ≡ true)
where_in ids v q here = at (leb v.first q) refl (leb q v.last) refl (sym (contains-with_interval ids v q) ∙ here)
  where
    at : (a : Bool) → leb v.first q ≡ a → (b : Bool) → leb q v.last ≡ b → ((a && b) || contains ids q) ≡ true → ((v.first ≤ q) × (q ≤ v.last)) ⊎ (contains ids q ≡ true)
    at true ea true eb e = inl (leb-true v.first q ea, leb-true q v.last eb)
    at true ea false eb e = inr e
    at false ea b eb e = inr e

-- ---- one more id

pub grown_new : (v : Interval) (id : ℕ) → v.last < v.first → HasOneMore v id (interval id id)
grown_new v id none ids behind = ((λ q here. absurd (empty_row q here), λ lt. absurd (omega arith)), same_ids _ _ same)
  where
    empty_row : (q : ℕ) → contains ids q ≡ true → ⊥
    empty_row q here = let first : v.first ≡ 1 = behind.1 none in let lt : q + 1 < v.first = behind.0 q here in omega arith

    one : (q : ℕ) (t : Bool) → ((leb id q && leb q id) || t) ≡ (eqb q id || ((leb v.first q && leb q v.last) || t))
    one q t = grind (arith, nat_tests)

    same : (q : ℕ) → contains (with_interval ids (interval id id)) q ≡ contains (insert (with_interval ids v) id) q
    same q =
        contains-with_interval ids (interval id id) q
        ∙ one q (contains ids q)
        ∙ sym (contains-inserted (with_interval ids v) id q ∙ ap (λ (b : Bool). eqb q id || b) (contains-with_interval ids v q))

pub grown_end : (v : Interval) (id : ℕ) → v.first ≤ v.last → v.first ≤ id → id ≤ v.last + 1 → HasOneMore v id (interval v.first (max v.last id))
grown_end v id some low high ids behind = ((behind.0, λ lt. absurd (omega arith)), same_ids _ _ same)
  where
    one : (q : ℕ) (t : Bool) → ((leb v.first q && leb q (max v.last id)) || t) ≡ (eqb q id || ((leb v.first q && leb q v.last) || t))
    one q t = grind (arith, nat_tests)

    same : (q : ℕ) → contains (with_interval ids (interval v.first (max v.last id))) q ≡ contains (insert (with_interval ids v) id) q
    same q =
        contains-with_interval ids (interval v.first (max v.last id)) q
        ∙ one q (contains ids q)
        ∙ sym (contains-inserted (with_interval ids v) id q ∙ ap (λ (b : Bool). eqb q id || b) (contains-with_interval ids v q))

-- the interval goes to the others, and a new one begins above it
pub new_top : (ids new : IdSet) (v : Interval) (id : ℕ) → new ≡ with_interval ids v → with_interval new (interval id id) ≡ insert (with_interval ids v) id
new_top ids new v id is = ap (λ (s : IdSet). with_interval s (interval id id)) is ∙ same_ids _ _ same
  where
    one : (q : ℕ) (t : Bool) → ((leb id q && leb q id) || t) ≡ (eqb q id || t)
    one q t = grind (arith, nat_tests)

    same : (q : ℕ) → contains (with_interval (with_interval ids v) (interval id id)) q ≡ contains (insert (with_interval ids v) id) q
    same q =
        contains-with_interval (with_interval ids v) (interval id id) q
        ∙ one q (contains (with_interval ids v) q)
        ∙ sym (contains-inserted (with_interval ids v) id q)

pub new_top_behind : (ids new : IdSet) (v : Interval) (id : ℕ) → new ≡ with_interval ids v → IsBehind ids v → v.first ≤ v.last → v.last + 1 < id → IsBehind new (interval id id)
new_top_behind ids new v id is behind some lt = (before, λ less. absurd (omega arith))
  where
    before : (q : ℕ) → contains new q ≡ true → q + 1 < id
    before q here = elim (where_in ids v q (ap (λ (s : IdSet). contains s q) (sym is) ∙ here)) [
      | inl inside ↦ let le : q ≤ v.last = inside.1 in omega arith
      | inr row ↦ let low : q + 1 < v.first = behind.0 q row in omega arith
    ]

-- the id goes to the others
pub under_top : (ids new : IdSet) (v : Interval) (id : ℕ) → new ≡ insert ids id → with_interval new v ≡ insert (with_interval ids v) id
under_top ids new v id is = ap (λ (s : IdSet). with_interval s v) is ∙ same_ids _ _ same
  where
    or_turn : (a b c : Bool) → (a || (b || c)) ≡ (b || (a || c))
    or_turn true true c = refl
    or_turn true false c = refl
    or_turn false b c = refl

    same : (q : ℕ) → contains (with_interval (insert ids id) v) q ≡ contains (insert (with_interval ids v) id) q
    same q =
        contains-with_interval (insert ids id) v q
        ∙ ap (λ (b : Bool). (leb v.first q && leb q v.last) || b) (contains-inserted ids id q)
        ∙ or_turn (leb v.first q && leb q v.last) (eqb q id) (contains ids q)
        ∙ sym (contains-inserted (with_interval ids v) id q ∙ ap (λ (b : Bool). eqb q id || b) (contains-with_interval ids v q))

pub under_top_behind : (ids new : IdSet) (v : Interval) (id : ℕ) → new ≡ insert ids id → IsBehind ids v → id + 1 < v.first → IsBehind new v
under_top_behind ids new v id is behind lt = (before, behind.1)
  where
    at : (q : ℕ) (b : Bool) → eqb q id ≡ b → (b || contains ids q) ≡ true → q + 1 < v.first
    at q true e here = let same : q ≡ id = eqb-true q id e in omega arith
    at q false e here = behind.0 q here

    before : (q : ℕ) → contains new q ≡ true → q + 1 < v.first
    before q here = at q (eqb q id) refl (sym (contains-inserted ids id q) ∙ ap (λ (s : IdSet). contains s q) (sym is) ∙ here)

-- the interval grows down, and takes the ids along that lead up to the new one
pub top_down : (ids new : IdSet) (v : Interval) (id first : ℕ) → with_range new first (id - first) ≡ ids → first ≤ id → id + 1 ≡ v.first → v.first ≤ v.last → with_interval new (interval first v.last) ≡ insert (with_interval ids v) id
top_down ids new v id first is le next some = same_ids _ _ same
  where
    one : (q : ℕ) (t : Bool) → ((leb first q && leb q v.last) || t) ≡ (eqb q id || ((leb v.first q && leb q v.last) || ((leb first q && ltb q (first + (id - first))) || t)))
    one q t = grind (arith, nat_tests)

    same : (q : ℕ) → contains (with_interval new (interval first v.last)) q ≡ contains (insert (with_interval ids v) id) q
    same q =
        contains-with_interval new (interval first v.last) q
        ∙ one q (contains new q)
        ∙ ap (λ (b : Bool). eqb q id || ((leb v.first q && leb q v.last) || b)) (sym (contains-with_range new first (id - first) q) ∙ ap (λ (s : IdSet). contains s q) is)
        ∙ sym (contains-inserted (with_interval ids v) id q ∙ ap (λ (b : Bool). eqb q id || b) (contains-with_interval ids v q))

-- ---- what is next to an id

pub near_under : (ids : IdSet) (v : Interval) (id : ℕ) → id + 1 < v.first → is_near_in (with_interval ids v) id ≡ is_near_in ids id
near_under ids v id lt =
    let here = below_top ids v id (omega arith) in
    let after = below_top ids v (id + 1) lt in
    let before = below_top ids v (id - 1) (omega arith) in
    rw (here, after, before) refl

pub near_above : (ids : IdSet) (v : Interval) (id : ℕ) → IsBehind ids v → v.first ≤ v.last → v.last + 1 < id → IsTrue (is_near_in (with_interval ids v) id) → ⊥
near_above ids v id behind some lt near =
    let here = above_top ids v id behind (omega arith) (omega arith) in
    let after = above_top ids v (id + 1) behind (omega arith) (omega arith) in
    let before = above_top ids v (id - 1) behind (omega arith) (omega arith) in
    let none : is_near_in (with_interval ids v) id ≡ false = rw (here, after, before) (and-false (ltb 0 id)) in
    absurd cc

-- ---- what an interval answers

in_alone : (v : Interval) (q : ℕ) → contains (ids_of v) q ≡ (leb v.first q && leb q v.last)
in_alone v q =
    contains-with_interval empty v q
    ∙ ap (λ (b : Bool). (leb v.first q && leb q v.last) || b) (contains-empty nat_cmp q)
    ∙ or-false (leb v.first q && leb q v.last)

outside : (a b q : ℕ) → (q < a) ⊎ (b < q) → (leb a q && leb q b) ≡ false
outside a b q (inl lt) = ap (λ (x : Bool). x && leb q b) (lt-leb a q lt)
outside a b q (inr lt) = ap (λ (x : Bool). leb a q && x) (lt-leb q b lt) ∙ and-false (leb a q)

inside : (a b q : ℕ) → a ≤ q → q ≤ b → (leb a q && leb q b) ≡ true
inside a b q low high = rw (le-leb a q low, le-leb q b high) refl

pub greatest_none : (v : Interval) → v.last < v.first → IsGreatest (ids_of v) None
greatest_none v none q = in_alone v q ∙ outside v.first v.last q (elim (cases_lt q v.first) [ inl lt ↦ inl lt | inr ge ↦ inr (omega arith) ])

pub greatest_last : (v : Interval) → v.first ≤ v.last → IsGreatest (ids_of v) (Some v.last)
greatest_last v some = (in_alone v v.last ∙ inside v.first v.last v.last some (omega arith), λ q lt. in_alone v q ∙ outside v.first v.last q (inr lt))

pub least_none : (v : Interval) (from : ℕ) → v.last < max from v.first → IsLeastFrom (ids_of v) from None
least_none v from past q le = in_alone v q ∙ outside v.first v.last q (elim (cases_lt q v.first) [ inl lt ↦ inl lt | inr ge ↦ inr (omega arith) ])

pub least_some : (v : Interval) (from : ℕ) → max from v.first ≤ v.last → IsLeastFrom (ids_of v) from (Some (max from v.first))
least_some v from within = (
  omega arith,
  in_alone v (max from v.first) ∙ inside v.first v.last (max from v.first) (omega arith) within,
  λ q low lt. in_alone v q ∙ outside v.first v.last q (inl (omega arith)),
)

-- ---- what the ids and the interval answer together

-- an id of the interval shows that there is one, and that it is not below its first
not_below : (v : Interval) (q : ℕ) → contains (ids_of v) q ≡ true → v.first ≤ q
not_below v q here = elim (where_in empty v q here) [
  | inl inside ↦ inside.0
  | inr none ↦ absurd (apart (sym (contains-empty nat_cmp q) ∙ none))
]
  where
    apart : false ≡ true → ⊥
    apart e = cc

not_last : (v : Interval) → IsGreatest (ids_of v) None → v.last < v.first
not_last v none = elim (cases_lt v.last v.first) [
  | inl lt ↦ lt
  | inr some ↦ absurd (apart (sym (none v.last) ∙ in_alone v v.last ∙ inside v.first v.last v.last some (omega arith)))
]
  where
    apart : false ≡ true → ⊥
    apart e = cc

-- none of the ids is from a number on that is not below the interval
none_late : (ids : IdSet) (v : Interval) (q : ℕ) → IsBehind ids v → v.first ≤ q + 1 → contains ids q ≡ false
none_late ids v q behind le = at (contains ids q) refl
  where
    at : (b : Bool) → contains ids q ≡ b → b ≡ false
    at true here = let low : q + 1 < v.first = behind.0 q here in absurd (omega arith)
    at false e = refl

from_both : (ids : IdSet) (v : Interval) (q : ℕ) → contains ids q ≡ false → contains (with_interval ids v) q ≡ contains (ids_of v) q
from_both ids v q none =
    contains-with_interval ids v q
    ∙ ap (λ (b : Bool). (leb v.first q && leb q v.last) || b) (none ∙ sym (contains-empty nat_cmp q))
    ∙ sym (contains-with_interval empty v q)

pub greatest_all : (ids : IdSet) (v : Interval) (r : Option ℕ) → IsBehind ids v → IsGreatest (ids_of v) r → IsGreatest (with_interval ids v) r
greatest_all ids v None behind none = λ q.
    let one : v.first ≡ 1 = behind.1 (not_last v none) in
    from_both ids v q (none_late ids v q behind (omega arith)) ∙ none q
greatest_all ids v (Some g) behind top =
    let low = not_below v g top.0 in (
      from_both ids v g (none_late ids v g behind (omega arith)) ∙ top.0,
      λ q lt. from_both ids v q (none_late ids v q behind (omega arith)) ∙ top.1 q lt,
    )

pub least_row : (ids : IdSet) (v : Interval) (from m : ℕ) → IsBehind ids v → IsLeastFrom ids from (Some m) → IsLeastFrom (with_interval ids v) from (Some m)
least_row ids v from m behind least =
    let low : m + 1 < v.first = behind.0 m least.1 in
    (least.0, below_top ids v m (omega arith) ∙ least.1, λ q le lt. below_top ids v q (omega arith) ∙ least.2 q le lt)

pub least_top : (ids : IdSet) (v : Interval) (from : ℕ) (r : Option ℕ) → IsLeastFrom ids from None → IsLeastFrom (ids_of v) from r → IsLeastFrom (with_interval ids v) from r
least_top ids v from None none least = λ q le. from_both ids v q (none q le) ∙ least q le
least_top ids v from (Some m) none least =
    (least.0, from_both ids v m (none m least.0) ∙ least.1, λ q le lt. from_both ids v q (none q le) ∙ least.2 q le lt)

-- ---- how many there are

members-same : (k : ℕ) (s t : IdSet) → ((q : ℕ) → q < k → contains s q ≡ contains t q) → members_below k s ≡ members_below k t
unfolding members_below
members-same zero s t same = refl
members-same (suc k) s t same =
    let rest = members-same k s t (λ q lt. same q (omega arith)) in
    let here = same k (omega arith) in
    rw (here, rest) refl

members-run : (n k : ℕ) (s : IdSet) → ((q : ℕ) → k ≤ q → q < k + n → contains s q ≡ true) → length (members_below (k + n) s) ≡ length (members_below k s) + n
unfolding members_below
members-run zero k s all = omega (arith, ap (λ (m : ℕ). length (members_below m s)) (plus_none k))
  where
    plus_none : (m : ℕ) → m + 0 ≡ m
    plus_none m = omega arith
members-run (suc n) k s all =
    let rest = members-run n k s (λ q le lt. all q le (omega arith)) in
    let up : k + suc n ≡ suc (k + n) = omega arith in
    let here : contains s (k + n) ≡ true = all (k + n) (omega arith) (omega arith) in
    ap (λ (m : ℕ). length (members_below m s)) up
    ∙ rw here (length-append (members_below (k + n) s) ((k + n) ∷ []) ∙ omega (arith, rest))

pub count_all : (ids : IdSet) (v : Interval) (count n : ℕ) → IsBehind ids v → ((m : ℕ) → AreBelow m ids → count ≡ length (members_below m ids)) → AreBelow n (with_interval ids v) → count + (v.last + 1 - v.first) ≡ length (members_below n (with_interval ids v))
count_all ids v count n behind counts below = elim (cases_lt v.last v.first) [
  | inl none ↦
      let same : members_below n (with_interval ids v) ≡ members_below n ids = members-same n (with_interval ids v) ids (λ q lt. contains-with_interval ids v q ∙ ap (λ (b : Bool). b || contains ids q) (outside v.first v.last q (elim (cases_lt q v.first) [ inl less ↦ inl less | inr ge ↦ inr (omega arith) ]))) in
      let is = counts n (λ q here. below q (contains-with_interval ids v q ∙ ap (λ (b : Bool). (leb v.first q && leb q v.last) || b) here ∙ or-true (leb v.first q && leb q v.last))) in
      let zero_wide : v.last + 1 - v.first ≡ 0 = omega arith in
      ap (λ (k : ℕ). count + k) zero_wide ∙ omega (arith, is, ap length same)
  | inr some ↦
      let all = with_interval ids v in
      let width = v.last + 1 - v.first in
      let end : v.last < n = below v.last (from_top ids v v.last behind some ∙ le-leb v.last v.last (omega arith)) in
      let none = members-none n (v.last + 1) all (omega arith) (λ q le lt. above_top ids v q behind (omega arith) (omega arith)) in
      let run = members-run width v.first all (λ q le lt. from_top ids v q behind le ∙ le-leb q v.last (omega arith)) in
      let same = members-same v.first all ids (λ q lt. below_top ids v q lt) in
      let is = counts v.first (λ q here. let low : q + 1 < v.first = behind.0 q here in omega arith) in
      let ends : v.first + width ≡ v.last + 1 = omega arith in
      ap (λ (m : ℕ). m + width) (is ∙ ap length (sym same)) ∙ sym run ∙ ap (λ (m : ℕ). length (members_below m all)) ends ∙ ap length (sym none)
]

-- there are no more than the numbers below the interval
pub count_few : (ids : IdSet) (v : Interval) (count : ℕ) → IsBehind ids v → ((m : ℕ) → AreBelow m ids → count ≡ length (members_below m ids)) → count ≤ v.first
count_few ids v count behind counts =
    let is = counts v.first (λ q here. let low : q + 1 < v.first = behind.0 q here in omega arith) in
    let few = members_few v.first ids in
    omega arith

-- ---- the last of the intervals

pub apart_push : (lo : ℕ) (vs : List Interval) (v : Interval) → AreApart lo vs → ((q : ℕ) → is_in vs q ≡ true → q + 1 < v.first) → lo ≤ v.first → v.first ≤ v.last → AreApart lo (vs ++ v ∷ [])
unfolding is_in
apart_push lo [] v apart before low some = (low, some, tt)
apart_push lo (w ∷ vs) v apart before low some =
    let end : w.last + 1 < v.first = before w.last (ap (λ (b : Bool). b || is_in vs w.last) (inside w.first w.last w.last apart.1 (omega arith))) in
    (apart.0, apart.1, apart_push (w.last + 2) vs v apart.2 (λ q here. before q (ap (λ (b : Bool). (leb w.first q && leb q w.last) || b) here ∙ or-true (leb w.first q && leb q w.last))) (omega arith) some)

pub apart_front : (lo : ℕ) (vs : List Interval) (v : Interval) → AreApart lo (vs ++ v ∷ []) → AreApart lo vs
apart_front lo [] v apart = tt
apart_front lo (w ∷ vs) v apart = (apart.0, apart.1, apart_front (w.last + 2) vs v apart.2)

pub some_last : (lo : ℕ) (vs : List Interval) (v : Interval) → AreApart lo (vs ++ v ∷ []) → (lo ≤ v.first) × (v.first ≤ v.last)
some_last lo [] v apart = (apart.0, apart.1)
some_last lo (w ∷ vs) v apart =
    let later = some_last (w.last + 2) vs v apart.2 in
    (omega (arith, later.0, apart.0, apart.1), later.1)

before_last : (lo : ℕ) (vs : List Interval) (v : Interval) (q : ℕ) → AreApart lo (vs ++ v ∷ []) → is_in vs q ≡ true → q + 1 < v.first
unfolding is_in
before_last lo [] v q apart here = absurd cc
before_last lo (w ∷ vs) v q apart here =
    let later = some_last (w.last + 2) vs v apart.2 in
    at (leb w.first q) (leb q w.last) refl refl here later.0 (before_last (w.last + 2) vs v q apart.2)
  where
    at : (a b : Bool) → leb w.first q ≡ a → leb q w.last ≡ b → ((a && b) || is_in vs q) ≡ true → w.last + 2 ≤ v.first → (is_in vs q ≡ true → q + 1 < v.first) → q + 1 < v.first
    at true true ea eb e le rest = let high : q ≤ w.last = leb-true q w.last eb in omega arith
    at true false ea eb e le rest = rest e
    at false b ea eb e le rest = rest e

pub ids_before_last : (vs : List Interval) (v : Interval) → AreApart 0 (vs ++ v ∷ []) → AreBefore (ids_in vs) v.first
ids_before_last vs v apart q here = before_last 0 vs v q apart (sym (contains-ids_in 0 vs q (apart_front 0 vs v apart)) ∙ here)

pub ids_push : (vs : List Interval) (v : Interval) → AreApart 0 (vs ++ v ∷ []) → ids_in (vs ++ v ∷ []) ≡ with_interval (ids_in vs) v
unfolding is_in
ids_push vs v apart = same_ids _ _ (λ q.
    contains-ids_in 0 (vs ++ v ∷ []) q apart
    ∙ is_in-append vs (v ∷ []) q
    ∙ turn (is_in vs q) (leb v.first q && leb q v.last)
    ∙ ap (λ (b : Bool). (leb v.first q && leb q v.last) || b) (sym (contains-ids_in 0 vs q (apart_front 0 vs v apart)))
    ∙ sym (contains-with_interval (ids_in vs) v q))
  where
    turn : (a b : Bool) → (a || (b || false)) ≡ (b || a)
    turn true true = refl
    turn true false = refl
    turn false true = refl
    turn false false = refl

-- one interval more, behind the others
pub push_apart : (vs : List Interval) (v : Interval) (ids : IdSet) → AreApart 0 vs → ids_in vs ≡ ids → IsBehind ids v → v.first ≤ v.last → AreApart 0 (vs ++ v ∷ [])
push_apart vs v ids apart is behind some =
    apart_push 0 vs v apart (λ q here. behind.0 q (ap (λ (s : IdSet). contains s q) (sym is) ∙ contains-ids_in 0 vs q apart ∙ here)) (omega arith) some

split_last : (vs : List Interval) (k : ℕ) (v : Interval) → k + 1 ≡ length vs → interval_at vs k ≡ v → vs ≡ take k vs ++ v ∷ []
split_last [] k v len at = absurd (omega arith)
split_last (w ∷ []) zero v len at = ap (λ (x : Interval). x ∷ []) at
split_last (w ∷ x ∷ vs) zero v len at = absurd (omega arith)
split_last (w ∷ vs) (suc k) v len at = ap (λ (xs : List Interval). w ∷ xs) (split_last vs k v (omega arith) at)

-- the intervals without the last one
pub removed_last : (vs : List Interval) (k : ℕ) → k + 1 ≡ length vs → remove vs k ≡ take k vs
removed_last [] k len = absurd (omega arith)
removed_last (v ∷ []) zero len = refl
removed_last (v ∷ w ∷ vs) zero len = absurd (omega arith)
removed_last (v ∷ vs) (suc k) len = ap (λ (xs : List Interval). v ∷ xs) (removed_last vs k (omega arith))

-- the interval v at position k is the last of those of the ids
pub record IsLastOf (vs : List Interval) (ids : IdSet) (k : ℕ) (v : Interval) : Type 0 where
  pub apart : AreApart 0 (take k vs ++ v ∷ [])
  pub parts : vs ≡ take k vs ++ v ∷ []
  pub shown : ids_in (take k vs ++ v ∷ []) ≡ ids

pub last_of : (vs : List Interval) (ids : IdSet) (k : ℕ) (v : Interval) → AreApart 0 vs → ids_in vs ≡ ids → k + 1 ≡ length vs → interval_at vs k ≡ v → IsLastOf vs ids k v
last_of vs ids k v apart is len at =
    let parts = split_last vs k v len at in
    record { apart = subst (AreApart 0) parts apart; parts = parts; shown = ap ids_in (sym parts) ∙ is }

up_to_last : (xs : List Interval) (v : Interval) (q : ℕ) → AreApart 0 (xs ++ v ∷ []) → contains (ids_in (xs ++ v ∷ [])) q ≡ true → q ≤ v.last
up_to_last xs v q apart here =
    elim (where_in (ids_in xs) v q (ap (λ (s : IdSet). contains s q) (sym (ids_push xs v apart)) ∙ here)) [
      | inl inside ↦ inside.1
      | inr row ↦ let low : q + 1 < v.first = ids_before_last xs v apart q row in let some : v.first ≤ v.last = (some_last 0 xs v apart).1 in omega arith
    ]

pub last_here : (vs : List Interval) (ids : IdSet) (k : ℕ) (v : Interval) → IsLastOf vs ids k v → contains ids v.last ≡ true
last_here vs ids k v at =
    let some : v.first ≤ v.last = (some_last 0 (take k vs) v at.apart).1 in
    ap (λ (s : IdSet). contains s v.last) (sym at.shown ∙ ids_push (take k vs) v at.apart)
    ∙ contains-with_interval (ids_in (take k vs)) v v.last
    ∙ ap (λ (b : Bool). b || contains (ids_in (take k vs)) v.last) (inside v.first v.last v.last some (omega arith))

pub last_before : (vs : List Interval) (ids : IdSet) (k : ℕ) (v : Interval) (id : ℕ) → IsLastOf vs ids k v → v.last + 1 < id → AreBefore ids id
last_before vs ids k v id at lt q here =
    let high : q ≤ v.last = up_to_last (take k vs) v q at.apart (ap (λ (s : IdSet). contains s q) at.shown ∙ here) in
    omega arith

pub last_some : (vs : List Interval) (ids : IdSet) (k : ℕ) (v : Interval) → IsLastOf vs ids k v → v.first ≤ v.last
last_some vs ids k v at = (some_last 0 (take k vs) v at.apart).1

pub last_taken : (vs : List Interval) (ids : IdSet) (k : ℕ) (v : Interval) (id : ℕ) → IsLastOf vs ids k v → v.last + 1 ≡ id → with_range (ids_in (take k vs)) v.first (id - v.first) ≡ ids
last_taken vs ids k v id at next =
    ap (λ (n : ℕ). with_range (ids_in (take k vs)) v.first (n - v.first)) (sym next)
    ∙ sym (ids_push (take k vs) v at.apart)
    ∙ at.shown

pub last_apart : (vs : List Interval) (ids : IdSet) (k : ℕ) (v : Interval) → IsLastOf vs ids k v → AreApart 0 (take k vs)
last_apart vs ids k v at = apart_front 0 (take k vs) v at.apart

pub last_apart_ids : (vs : List Interval) (ids : IdSet) (k : ℕ) (v : Interval) → IsLastOf vs ids k v → AreBefore (ids_in (take k vs)) v.first
last_apart_ids vs ids k v at = ids_before_last (take k vs) v at.apart

pub none_taken : (ids : IdSet) (id : ℕ) → with_range ids id (id - id) ≡ ids
unfolding with_range
none_taken ids id = let none : id - id ≡ 0 = omega arith in ap (λ (n : ℕ). with_range ids id n) none

pub none_before : (vs : List Interval) (ids : IdSet) (n : ℕ) → ids_in vs ≡ ids → length vs ≡ 0 → AreBefore ids n
unfolding ids_in
none_before [] ids n is len q here = absurd (apart (sym (contains-empty nat_cmp q) ∙ ap (λ (s : IdSet). contains s q) is ∙ here))
  where
    apart : false ≡ true → ⊥
    apart e = cc
none_before (v ∷ vs) ids n is len q here = absurd (omega arith)
