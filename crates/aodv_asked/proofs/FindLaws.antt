-- Which ids the intervals have, by a position among them.
use Rattle.std.proofs.Common.{◌≡◌, ◌<◌, ◌≤◌, ℕ, zero, suc, ◌+◌, Bool, true, false, leb, ◌&&◌, ◌||◌, List, [], ◌∷◌, length, Some, None, refl, sym, ap, ◌∙◌, arith, ◌⊎◌, inl, inr}
use Rattle.std.specs.List.Sorted.{IsNonDecreasingBy}
use Rattle.std.proofs.lemmas.Bool.{le-leb, lt-leb, cases_lt}
use Rattle.std.proofs.lemmas.List.{get_or_default}
use Rattle.std.specs.FinSet.{contains}
use Rattle.mesh_base.specs.Members.{IsLeastFrom}
use Rattle.aodv_asked.specs.declared.interval.Interval.{Interval}
use Rattle.aodv_asked.specs.Intervals.{ids_in, AreApart}
use Rattle.aodv_asked.specs.Insertions.{interval, interval_at, is_in}
use Rattle.aodv_asked.specs.Spots.{IsPosition}
use Rattle.aodv_asked.proofs.IntervalLaws.{contains-ids_in}
use Rattle.aodv_asked.proofs.Counts.{whole_interval}

-- ---- the intervals rise

from_low : (low : ℕ) (vs : List Interval) (i : ℕ) → AreApart low vs → i < length vs → low ≤ (interval_at vs i).first
from_low low [] i apart lt = absurd (omega arith)
from_low low (v ∷ vs) zero apart lt = apart.0
from_low low (v ∷ vs) (suc i) apart lt = let later = from_low (v.last + 2) vs i apart.2 (omega arith) in omega (arith, apart.0, apart.1)

rises : (low : ℕ) (vs : List Interval) (i j : ℕ) → AreApart low vs → i ≤ j → j < length vs
    → ((interval_at vs i).first ≤ (interval_at vs j).first) × ((interval_at vs i).last ≤ (interval_at vs j).last)
rises low [] i j apart le lt = absurd (omega arith)
rises low (v ∷ vs) zero zero apart le lt = (omega arith, omega arith)
rises low (v ∷ vs) zero (suc j) apart le lt =
    let later = from_low (v.last + 2) vs j apart.2 (omega arith) in
    let some = whole_interval (v.last + 2) vs j apart.2 (omega arith) in
    (omega (arith, apart.1), omega arith)
rises low (v ∷ vs) (suc i) zero apart le lt = absurd (omega arith)
rises low (v ∷ vs) (suc i) (suc j) apart le lt = rises (v.last + 2) vs i j apart.2 (omega arith) (omega arith)

pub ends_rise : (vs : List Interval) → AreApart 0 vs → IsNonDecreasingBy (λ v. v.last) vs
ends_rise vs apart i j d le lt =
    rw (get_or_default vs i d (interval 0 0) (omega arith), get_or_default vs j d (interval 0 0) lt) (rises 0 vs i j apart le lt).1

-- ---- which ids there are

in_at : (vs : List Interval) (k id : ℕ) → k < length vs → (interval_at vs k).first ≤ id → id ≤ (interval_at vs k).last → is_in vs id ≡ true
unfolding is_in
in_at [] k id lt lo hi = absurd (omega arith)
in_at (v ∷ vs) zero id lt lo hi = rw (le-leb v.first id lo, le-leb id v.last hi) refl
in_at (v ∷ vs) (suc k) id lt lo hi = ap (λ (b : Bool). (leb v.first id && leb id v.last) || b) (in_at vs k id (omega arith) lo hi) ∙ or_true (leb v.first id && leb id v.last)
  where
    or_true : (b : Bool) → (b || true) ≡ true
    or_true true = refl
    or_true false = refl

in_none : (vs : List Interval) (id : ℕ) → ((i : ℕ) → i < length vs → ((interval_at vs i).last < id) ⊎ (id < (interval_at vs i).first)) → is_in vs id ≡ false
unfolding is_in
in_none [] id none = refl
in_none (v ∷ vs) id none =
    ap (λ (b : Bool). (leb v.first id && leb id v.last) || b) (in_none vs id (λ i lt. none (suc i) (omega arith)))
    ∙ elim (none 0 (omega arith)) [
      | inl past ↦ rw (lt-leb id v.last past) (and_false (leb v.first id))
      | inr early ↦ rw (lt-leb v.first id early) refl
    ]
  where
    and_false : (b : Bool) → ((b && false) || false) ≡ false
    and_false true = refl
    and_false false = refl

-- no id from `from` on lies before the interval at the position
none_early : (vs : List Interval) (from position id : ℕ) → AreApart 0 vs → IsPosition vs from position → from ≤ id → (position < length vs → id < (interval_at vs position).first) → contains (ids_in vs) id ≡ false
none_early vs from position id apart at le early =
    contains-ids_in 0 vs id apart ∙ in_none vs id (λ i lt.
    elim (cases_lt i position) [
      | inl less ↦ inl (let ended = at.before i less in omega arith)
      | inr later ↦ inr (let up = (rises 0 vs position i apart later lt).0 in let first = early (omega arith) in omega arith)
    ])

pub none_from : (vs : List Interval) (from position id : ℕ) → AreApart 0 vs → IsPosition vs from position → length vs ≤ position → from ≤ id → contains (ids_in vs) id ≡ false
none_from vs from position id apart at past le = none_early vs from position id apart at le (λ lt. absurd (omega arith))

pub there : (vs : List Interval) (k id : ℕ) → AreApart 0 vs → k < length vs → (interval_at vs k).first ≤ id → id ≤ (interval_at vs k).last → contains (ids_in vs) id ≡ true
there vs k id apart lt lo hi = contains-ids_in 0 vs id apart ∙ in_at vs k id lt lo hi

-- whether the id is there is seen at its position
pub has_at : (vs : List Interval) (id position : ℕ) (v : Interval) → AreApart 0 vs → IsPosition vs id position → position < length vs → interval_at vs position ≡ v → leb v.first id ≡ contains (ids_in vs) id
has_at vs id position v apart at lt is =
    elim (cases_lt id v.first) [
      | inl early ↦ lt-leb v.first id early ∙ sym (none_early vs id position id apart at (omega arith) (λ _. let first : (interval_at vs position).first ≡ v.first = ap (λ (x : Interval). x.first) is in omega arith))
      | inr from ↦
          let first : (interval_at vs position).first ≡ v.first = ap (λ (x : Interval). x.first) is in
          le-leb v.first id from ∙ sym (there vs position id apart lt (omega arith) (at.after position (omega arith) lt))
    ]

pub least_past : (vs : List Interval) (from position : ℕ) → AreApart 0 vs → IsPosition vs from position → length vs ≤ position → IsLeastFrom (ids_in vs) from None
least_past vs from position apart at past q le = none_from vs from position q apart at past le

pub least_first : (vs : List Interval) (from position : ℕ) (v : Interval) → AreApart 0 vs → IsPosition vs from position → position < length vs → interval_at vs position ≡ v → from ≤ v.first → IsLeastFrom (ids_in vs) from (Some v.first)
least_first vs from position v apart at lt is le =
    let first : (interval_at vs position).first ≡ v.first = ap (λ (x : Interval). x.first) is in
    let some = whole_interval 0 vs position apart lt in
    (le, there vs position v.first apart lt (omega arith) (omega arith), λ q low less. none_early vs from position q apart at low (λ _. omega arith))

pub least_inside : (vs : List Interval) (from position : ℕ) (v : Interval) → AreApart 0 vs → IsPosition vs from position → position < length vs → interval_at vs position ≡ v → v.first < from → IsLeastFrom (ids_in vs) from (Some from)
least_inside vs from position v apart at lt is less =
    let first : (interval_at vs position).first ≡ v.first = ap (λ (x : Interval). x.first) is in
    (omega arith, there vs position from apart lt (omega arith) (at.after position (omega arith) lt), λ q low high. absurd (omega arith))
