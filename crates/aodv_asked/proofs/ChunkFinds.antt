-- Intervals in chunks: their order, and how many ids they have.
use Rattle.std.proofs.Common.{◌≡◌, ◌<◌, ◌≤◌, ℕ, zero, suc, ◌+◌, ◌-◌, List, [], ◌∷◌, ◌++◌, length, length-append, get_or, take, refl, sym, ap, subst, ◌∙◌, arith, inl, inr}
use Rattle.std.specs.List.{flat_map}
use Rattle.std.specs.List.Sorted.{IsNonDecreasingBy}
use Rattle.std.proofs.lemmas.Bool.{cases_lt}
use Rattle.std.proofs.lemmas.List.{get_or_append_left, get_or-append_right, get_or-append-add, take_more, take_all}
use Rattle.aodv_asked.specs.declared.interval.Interval.{Interval}
use Rattle.aodv_asked.specs.Intervals.{AreApart}
use Rattle.aodv_asked.specs.Insertions.{interval, interval_at}
use Rattle.aodv_asked.specs.Spots.{position_at, IsPosition, width, total, last_in}
use Rattle.aodv_asked.proofs.ChunkLaws.{lengths, AreFilled, at_position, position_within, position_here, push_chunk}

-- the intervals end later and later
abbrev pub Rise : List Interval → Type 0
Rise vs = IsNonDecreasingBy (λ v. v.last) vs

rises_behind : (xs ys : List Interval) → Rise (xs ++ ys) → Rise ys
rises_behind xs ys r i j d le lt =
    let at_i = ap (λ (v : Interval). v.last) (get_or-append-add xs ys i d) in
    let at_j = ap (λ (v : Interval). v.last) (get_or-append-add xs ys j d) in
    let h = r (length xs + i) (length xs + j) d (omega arith) (omega (arith, length-append xs ys)) in
    omega (arith, at_i, at_j, h)

-- the chunks end later and later too
pub chunks_rise : {X : Type 0} (f : X → List Interval) (xs : List X) → Rise (flat_map f xs) → AreFilled f xs → IsNonDecreasingBy (λ x. last_in (f x)) xs
chunks_rise f [] r filled i j d le lt = absurd (omega arith)
chunks_rise f (x ∷ xs) r filled zero zero d le lt = omega arith
chunks_rise f (x ∷ xs) r filled zero (suc j) d le lt =
    let e = interval 0 0 in
    let some : 0 < length (f x) = filled 0 d (omega arith) in
    let here : j < length xs = omega arith in
    let y = get_or xs j d in
    let o = length (f y) - 1 in
    let some_y : 0 < length (f y) = filled (suc j) d lt in
    let in_y : o < length (f y) = omega arith in
    let p = position_at (lengths f xs) j o in
    let within = position_within f xs j o d here in_y in
    let first = ap (λ (v : Interval). v.last) (get_or_append_left (f x) (flat_map f xs) e (length (f x) - 1) (omega arith)) in
    let later = ap (λ (v : Interval). v.last) (get_or-append-add (f x) (flat_map f xs) p e ∙ at_position f xs j o d e here in_y) in
    let h = r (length (f x) - 1) (length (f x) + p) e (omega arith) (omega (arith, within, length-append (f x) (flat_map f xs))) in
    omega (arith, first, later, h)
chunks_rise f (x ∷ xs) r filled (suc i) zero d le lt = absurd (omega arith)
chunks_rise f (x ∷ xs) r filled (suc i) (suc j) d le lt = chunks_rise f xs (rises_behind (f x) (flat_map f xs) r) (λ n e l. filled (suc n) e (omega arith)) i j d (omega arith) (omega arith)

-- ---- a position in a chunk is one among all

shift : (xs ys : List Interval) (from p : ℕ) → ((i : ℕ) → i < length xs → (interval_at xs i).last < from) → IsPosition ys from p → IsPosition (xs ++ ys) from (length xs + p)
shift xs ys from p all at = record {
  within = omega (arith, at.within, length-append xs ys);
  before = λ i lt. elim (cases_lt i (length xs)) [
    | inl less ↦
        let same = ap (λ (v : Interval). v.last) (get_or_append_left xs ys (interval 0 0) i less) in
        omega (arith, same, all i less)
    | inr ge ↦
        let same = ap (λ (v : Interval). v.last) (get_or-append_right xs ys (length xs) i (interval 0 0) refl ge) in
        omega (arith, same, at.before (i - length xs) (omega arith))
  ];
  after = λ i le lt.
      let same = ap (λ (v : Interval). v.last) (get_or-append_right xs ys (length xs) i (interval 0 0) refl (omega arith)) in
      omega (arith, same, at.after (i - length xs) (omega arith) (omega (arith, length-append xs ys)));
}

front : (xs ys : List Interval) (from o : ℕ) → Rise (xs ++ ys) → IsPosition xs from o → o < length xs → IsPosition (xs ++ ys) from o
front xs ys from o r at lt = record {
  within = omega (arith, length-append xs ys);
  before = λ i less.
      let same = ap (λ (v : Interval). v.last) (get_or_append_left xs ys (interval 0 0) i (omega arith)) in
      omega (arith, same, at.before i less);
  after = λ i le more.
      let same = ap (λ (v : Interval). v.last) (get_or_append_left xs ys (interval 0 0) o lt) in
      omega (arith, same, at.after o (omega arith) lt, r o i (interval 0 0) le more);
}

ended : (xs ys : List Interval) (from : ℕ) → Rise (xs ++ ys) → last_in xs < from → (i : ℕ) → i < length xs → (interval_at xs i).last < from
ended xs ys from r last i lt =
    let e = interval 0 0 in
    let here = ap (λ (v : Interval). v.last) (get_or_append_left xs ys e i lt) in
    let end = ap (λ (v : Interval). v.last) (get_or_append_left xs ys e (length xs - 1) (omega arith)) in
    omega (arith, here, end, r i (length xs - 1) e (omega arith) (omega (arith, length-append xs ys)))

pub found_in : {X : Type 0} (f : X → List Interval) (xs : List X) (from k o : ℕ) (d : X) → Rise (flat_map f xs) → ((i : ℕ) (e : X) → i < k → last_in (f (get_or xs i e)) < from) → k < length xs → IsPosition (f (get_or xs k d)) from o → o < length (f (get_or xs k d)) → IsPosition (flat_map f xs) from (position_at (lengths f xs) k o)
found_in f [] from k o d r before lt at inside = absurd (omega arith)
found_in f (x ∷ xs) from zero o d r before lt at inside =
    subst (λ p. IsPosition (f x ++ flat_map f xs) from p) (sym (position_here (length (f x)) (lengths f xs) o inside)) (front (f x) (flat_map f xs) from o r at inside)
found_in f (x ∷ xs) from (suc k) o d r before lt at inside =
    shift (f x) (flat_map f xs) from (position_at (lengths f xs) k o)
    (ended (f x) (flat_map f xs) from r (before 0 d (omega arith)))
    (found_in f xs from k o d (rises_behind (f x) (flat_map f xs) r) (λ i e less. before (suc i) e (omega arith)) (omega arith) at inside)

pub found_past : {X : Type 0} (f : X → List Interval) (xs : List X) (from : ℕ) → Rise (flat_map f xs) → ((i : ℕ) (e : X) → i < length xs → last_in (f (get_or xs i e)) < from) → IsPosition (flat_map f xs) from (length (flat_map f xs))
found_past f [] from r before = record { within = omega arith; before = λ i lt. absurd (omega arith); after = λ i le lt. absurd (omega arith) }
found_past f (x ∷ xs) from r before =
    subst (λ p. IsPosition (f x ++ flat_map f xs) from p) (sym (length-append (f x) (flat_map f xs)))
    (shift (f x) (flat_map f xs) from (length (flat_map f xs))
    (ended (f x) (flat_map f xs) from r (before 0 x (omega arith)))
    (found_past f xs from (rises_behind (f x) (flat_map f xs) r) (λ i e less. before (suc i) e (omega arith))))

-- a position is in the chunk whose last interval doesn't end before `from`
pub inside_if : (vs : List Interval) (from o : ℕ) → IsPosition vs from o → 0 < length vs → from ≤ last_in vs → o < length vs
inside_if vs from o at some last = elim (cases_lt o (length vs)) [
  | inl less ↦ less
  | inr ge ↦ absurd (let b = at.before (length vs - 1) (omega arith) in omega (arith, b))
]

-- ---- how many ids there are

weaker : (vs : List Interval) (lo hi : ℕ) → lo ≤ hi → AreApart hi vs → AreApart lo vs
weaker [] lo hi le apart = tt
weaker (v ∷ vs) lo hi le apart = (omega (arith, apart.0), apart.1, apart.2)

apart_first : (xs ys : List Interval) (lo : ℕ) → AreApart lo (xs ++ ys) → AreApart lo xs
apart_first [] ys lo apart = tt
apart_first (v ∷ xs) ys lo apart = (apart.0, apart.1, apart_first xs ys (v.last + 2) apart.2)

apart_later : (xs ys : List Interval) (lo : ℕ) → AreApart lo (xs ++ ys) → AreApart (total xs + lo) ys
apart_later [] ys lo apart = weaker ys (total [] + lo) lo (omega arith) apart
apart_later (v ∷ xs) ys lo apart = weaker ys (width v + total xs + lo) (total xs + (v.last + 2)) (omega (arith, apart.0, apart.1)) (apart_later xs ys (v.last + 2) apart.2)

pub total-append : (xs ys : List Interval) → total (xs ++ ys) ≡ total xs + total ys
total-append [] ys = omega arith
total-append (v ∷ xs) ys = let rest = total-append xs ys in omega arith

apart_at : {X : Type 0} (f : X → List Interval) (xs : List X) (k : ℕ) (d : X) (lo : ℕ) → AreApart lo (flat_map f xs) → k < length xs → AreApart (total (flat_map f (take k xs)) + lo) (f (get_or xs k d))
apart_at f [] k d lo apart lt = absurd (omega arith)
apart_at f (x ∷ xs) zero d lo apart lt = weaker (f x) (total [] + lo) lo (omega arith) (apart_first (f x) (flat_map f xs) lo apart)
apart_at f (x ∷ xs) (suc k) d lo apart lt =
    weaker (f (get_or xs k d)) (total (f x ++ flat_map f (take k xs)) + lo) (total (flat_map f (take k xs)) + (total (f x) + lo)) (omega (arith, total-append (f x) (flat_map f (take k xs))))
    (apart_at f xs k d (total (f x) + lo) (apart_later (f x) (flat_map f xs) lo apart) (omega arith))

pub apart_from : {X : Type 0} (f : X → List Interval) (xs : List X) (k : ℕ) (d : X) (count : ℕ) → AreApart 0 (flat_map f xs) → k < length xs → count ≡ total (flat_map f (take k xs)) → AreApart count (f (get_or xs k d))
apart_from f xs k d count apart lt is = weaker (f (get_or xs k d)) count (total (flat_map f (take k xs)) + 0) (omega arith) (apart_at f xs k d 0 apart lt)

pub apart_in : {X : Type 0} (f : X → List Interval) (xs : List X) (k : ℕ) (d : X) → AreApart 0 (flat_map f xs) → k < length xs → AreApart 0 (f (get_or xs k d))
apart_in f xs k d apart lt = weaker (f (get_or xs k d)) 0 (total (flat_map f (take k xs)) + 0) (omega arith) (apart_at f xs k d 0 apart lt)

pub counted_more : {X : Type 0} (f : X → List Interval) (xs : List X) (k : ℕ) (d : X) (count : ℕ) → k < length xs → count ≡ total (flat_map f (take k xs)) → count + total (f (get_or xs k d)) ≡ total (flat_map f (take (k + 1) xs))
counted_more f xs k d count lt is =
    let x = get_or xs k d in
    let more = ap (λ ys. total (flat_map f ys)) (take_more xs k d lt) ∙ ap total (push_chunk f (take k xs) x) ∙ total-append (flat_map f (take k xs)) (f x) in
    omega arith

pub counted_whole : {X : Type 0} (f : X → List Interval) (xs : List X) (k : ℕ) (count : ℕ) → length xs ≤ k → count ≡ total (flat_map f (take k xs)) → count ≡ total (flat_map f xs)
counted_whole f xs k count le is = is ∙ ap (λ ys. total (flat_map f ys)) (take_all k xs le)
