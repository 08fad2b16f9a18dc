-- How many ids there are.
use Rattle.std.proofs.Common.{◌≡◌, ◌<◌, ◌≤◌, ℕ, zero, suc, ◌+◌, ◌-◌, Bool, true, false, leb, ◌&&◌, ◌||◌, List, [], ◌∷◌, length, length-append, get_or, take, refl, sym, ap, ◌∙◌, arith, inl, inr}
use Rattle.std.specs.Prelude.{min}
use Rattle.std.specs.FinSet as sets
use Rattle.std.proofs.lemmas.Bool.{cases_lt, le-leb, lt-leb}
use Rattle.std.proofs.Math.Bool.{or-true}
use Rattle.mesh_base.specs.Members.{members_below}
use Rattle.aodv_model.specs.Cores.{SeenRequests, next_request_id}
use Rattle.aodv_model.specs.Soundness.{AreBelow}
use Rattle.aodv_asked.specs.declared.interval.Interval.{Interval}
use Rattle.aodv_asked.specs.Insertions.{interval, interval_at, is_in}
use Rattle.aodv_asked.specs.Intervals.{ids_in, AreApart, RoomyIds, IdSet}
use Rattle.aodv_asked.specs.Requests.{ids_below, ids_beside}
use Rattle.aodv_asked.specs.Spots.{width, total}
use Rattle.aodv_asked.specs.Rows.{ids_at, pairs_of}
use Rattle.aodv_asked.proofs.IntervalLaws.{contains-ids_in, is_in_after}
use Rattle.aodv_asked.proofs.RowLaws.{shown}
use Rattle.aodv_asked.proofs.Listed.{seen_below}

total_more : (vs : List Interval) (k : ℕ) (d : Interval) → k < length vs → total (take (suc k) vs) ≡ total (take k vs) + width (get_or vs k d)
total_more [] k d lt = absurd (omega arith)
total_more (v ∷ vs) zero d lt = omega arith
total_more (v ∷ vs) (suc k) d lt = let rest = total_more vs k d (omega arith) in omega arith

-- an interval begins above the ids of those before it, as many as they are
pub total_before : (lo : ℕ) (vs : List Interval) (k : ℕ) → AreApart lo vs → k < length vs → total (take k vs) + lo ≤ (interval_at vs k).first
total_before lo [] k apart lt = absurd (omega arith)
total_before lo (v ∷ vs) zero apart lt = omega (arith, apart.0)
total_before lo (v ∷ vs) (suc k) apart lt =
    let rest = total_before (v.last + 2) vs k apart.2 (omega arith) in
    omega (arith, rest, apart.0, apart.1)

pub whole_interval : (lo : ℕ) (vs : List Interval) (k : ℕ) → AreApart lo vs → k < length vs → (interval_at vs k).first ≤ (interval_at vs k).last
whole_interval lo [] k apart lt = absurd (omega arith)
whole_interval lo (v ∷ vs) zero apart lt = apart.1
whole_interval lo (v ∷ vs) (suc k) apart lt = whole_interval (v.last + 2) vs k apart.2 (omega arith)

-- one more of them
pub total_step : (xs : List Interval) (k : ℕ) → k < length xs → total (take (k + 1) xs) ≡ total (take k xs) + width (interval_at xs k)
total_step xs k lt =
    let step = total_more xs k (interval 0 0) lt in
    let up : k + 1 ≡ suc k = omega arith in
    ap (λ n. total (take n xs)) up ∙ step

-- all of them
pub total_whole : (xs : List Interval) (k : ℕ) → length xs ≤ k → total (take k xs) ≡ total xs
total_whole [] zero le = refl
total_whole [] (suc k) le = refl
total_whole (v ∷ xs) zero le = absurd (omega arith)
total_whole (v ∷ xs) (suc k) le = ap (λ n. width v + n) (total_whole xs k (omega arith))

-- ---- numbers that are in an interval

one_if : Bool → ℕ
one_if true = 1
one_if false = 0

-- how many numbers below n are
counted : ℕ → List Interval → ℕ
counted zero vs = 0
counted (suc n) vs = counted n vs + one_if (is_in vs n)

counted_none : (n : ℕ) → counted n [] ≡ 0
unfolding counted one_if is_in
counted_none zero = refl
counted_none (suc n) = let before = counted_none n in omega arith

-- one more number, where the first interval is looked at apart
next_count : (first last n : ℕ) (later : Bool) → first ≤ last → (n ≤ last + 1 → later ≡ false) → one_if ((leb first n && leb n last) || later) + (min n (last + 1) - first) ≡ (min (suc n) (last + 1) - first) + one_if later
unfolding one_if
next_count first last n later some none = elim (cases_lt n first) [
  | inl less ↦ rw (lt-leb first n less) (omega arith)
  | inr ge ↦ elim (cases_lt last n) [
    | inl past ↦ rw (lt-leb n last past) (elim (leb first n) as (λ b. one_if ((b && false) || later) + (min n (last + 1) - first) ≡ (min (suc n) (last + 1) - first) + one_if later) [ true ↦ omega arith | false ↦ omega arith ])
    | inr le ↦ rw (le-leb first n ge, le-leb n last le, none (omega arith)) (omega arith)
  ]
]

counted_cons : (n lo : ℕ) (v : Interval) (vs : List Interval) → AreApart lo (v ∷ vs) → counted n (v ∷ vs) ≡ (min n (v.last + 1) - v.first) + counted n vs
unfolding counted is_in
counted_cons zero lo v vs apart = omega arith
counted_cons (suc n) lo v vs apart =
    let before = counted_cons n lo v vs apart in
    let one = next_count v.first v.last n (is_in vs n) apart.1 (λ le. is_in_after (v.last + 2) vs n apart.2 (omega arith)) in
    omega arith

counted_all : (n lo : ℕ) (vs : List Interval) → AreApart lo vs → ((q : ℕ) → is_in vs q ≡ true → q < n) → counted n vs ≡ total vs
unfolding is_in
counted_all n lo [] apart below = counted_none n
counted_all n lo (v ∷ vs) apart below =
    let last : v.last < n = below v.last (rw (le-leb v.first v.last apart.1, le-leb v.last v.last (omega arith)) refl) in
    let rest = counted_all n (v.last + 2) vs apart.2 (λ q t. below q (ap (λ b. (leb v.first q && leb q v.last) || b) t ∙ or-true (leb v.first q && leb q v.last))) in
    let first = counted_cons n lo v vs apart in
    let some : v.first ≤ v.last = apart.1 in
    omega arith

counted_members : (n lo : ℕ) (vs : List Interval) → AreApart lo vs → length (members_below n (ids_in vs)) ≡ counted n vs
unfolding counted members_below one_if
counted_members zero lo vs apart = refl
counted_members (suc n) lo vs apart = by (is_in vs n) (contains-ids_in lo vs n apart) (counted_members n lo vs apart)
  where
    by : (b : Bool) → sets.contains (ids_in vs) n ≡ b → length (members_below n (ids_in vs)) ≡ counted n vs → length (members_below (suc n) (ids_in vs)) ≡ counted n vs + one_if b
    by true t before = rw t (length-append (members_below n (ids_in vs)) (n ∷ []) ∙ ap (λ k. k + 1) before)
    by false t before = rw t (omega arith)

pub total_is : (n lo : ℕ) (vs : List Interval) (ids : IdSet) → AreApart lo vs → ids_in vs ≡ ids → AreBelow n ids → total vs ≡ length (members_below n ids)
total_is n lo vs ids apart is below =
    sym (counted_all n lo vs apart (λ q t. below q (ap (λ s. sets.contains s q) (sym is) ∙ contains-ids_in lo vs q apart ∙ t)))
    ∙ sym (counted_members n lo vs apart)
    ∙ ap (λ s. length (members_below n s)) is

-- ---- the ids beside an originator are those of its row

beside_is : (rows : List RoomyIds) (seen : SeenRequests) (o n : ℕ) → pairs_of rows ≡ seen → ids_below n seen o ≡ members_below n (ids_at rows o)
unfolding ids_below members_below
beside_is rows seen o zero is = refl
beside_is rows seen o (suc n) is =
    rw (shown rows seen o n is, beside_is rows seen o n is) refl

below_next : (rows : List RoomyIds) (seen : SeenRequests) (o : ℕ) → pairs_of rows ≡ seen → AreBelow (next_request_id seen o) (ids_at rows o)
below_next rows seen o is q here = seen_below seen o q (shown rows seen o q is ∙ here)

pub count_beside : (rows : List RoomyIds) (seen : SeenRequests) (o count : ℕ) (ids : IdSet) → pairs_of rows ≡ seen → ids_at rows o ≡ ids → ((n : ℕ) → AreBelow n ids → count ≡ length (members_below n ids)) → count ≡ length (ids_beside seen o)
count_beside rows seen o count ids is at counts =
    let n = next_request_id seen o in
    counts n (λ q here. below_next rows seen o is q (ap (λ s. sets.contains s q) at ∙ here))
    ∙ ap (λ s. length (members_below n s)) (sym at)
    ∙ ap length (sym (beside_is rows seen o n is))
