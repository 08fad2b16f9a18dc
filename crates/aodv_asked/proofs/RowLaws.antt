-- What the ids of each originator show.
use Rattle.std.proofs.Common.{◌≡◌, ◌≢◌, ◌<◌, ◌≤◌, ℕ, zero, suc, ◌+◌, Bool, true, false, cond, eqb, ◌&&◌, ◌||◌, List, [], ◌∷◌, ◌++◌, length, get_or, max, Option, Some, None, refl, sym, ap, subst, ◌∙◌, arith, ◌⊎◌, inl, inr, eq-eqb}
use Rattle.std.proofs.Math.ListN.{set as put}
use Rattle.std.specs.declared.cmp.Ordering.{Ordering}
use Rattle.std.specs.declared.cmp.Ordering.TheVariants.{Less, Equal, Greater}
use Rattle.std.specs.List.{list_any, All, AllByRecursion}
use Rattle.std.proofs.lemmas.List.Elements.{All-append}
use Rattle.std.specs.Ordering.{nat_cmp, eq_by_cmp, ordering_then, is_eq}
use Rattle.std.specs.Cmp.{unsigned_tied}
use Rattle.std.proofs.lemmas.Bool.{ne_eqb, cases_eq, cases_lt, eqb-true}
use Rattle.std.proofs.lemmas.Cmp.{nat_cmp_total}
use Rattle.std.proofs.lemmas.List.{get_or-set_same, get_or-set_other, length-map, map-set, get_or_default, get_or_past}
use Rattle.std.specs.FinSet as sets
use Rattle.aodv_model.specs.Pairs.{pair_cmp}
use Rattle.mesh_base.specs.Members.{IsLeastFrom}
use Rattle.aodv_model.specs.Cores.{SeenRequests, greatest_beside, last_request_id, next_request_id}
use Rattle.aodv_model.proofs.PairLaws.{pair_cmp_total, same_pair}
use Rattle.aodv_asked.specs.Intervals.{IdSet, RoomyIds, IsGreatest}
use Rattle.aodv_asked.specs.Requests.{IsLeastIdFrom}
use Rattle.aodv_asked.specs.Rows.{no_ids, ids_at, with_ids, pairs_from, pairs_of, rooms_of}

-- ---- pairs

both_tied : (r s : Ordering) → is_eq (ordering_then r s) ≡ (is_eq r && is_eq s)
both_tied Less s = refl
both_tied Equal s = refl
both_tied Greater s = refl

tied : (p q o id : ℕ) → eq_by_cmp pair_cmp (p, q) (o, id) ≡ (eqb p o && eq_by_cmp nat_cmp q id)
tied p q o id = both_tied (nat_cmp p o) (nat_cmp q id) ∙ ap (λ (b : Bool). b && eq_by_cmp nat_cmp q id) (unsigned_tied p o)

or_or : (a b c d : Bool) → ((a && b) || ((a && c) || d)) ≡ ((a && (b || c)) || d)
or_or true true c d = refl
or_or true false c d = refl
or_or false b c d = refl

contains-with_ids : (seen : SeenRequests) (o : ℕ) (ids : List ℕ) (p q : ℕ) → sets.contains (with_ids seen o ids) (p, q) ≡ ((eqb p o && list_any (eq_by_cmp nat_cmp q) ids) || sets.contains seen (p, q))
unfolding with_ids
contains-with_ids seen o [] p q = elim (eqb p o) as (λ b. sets.contains seen (p, q) ≡ ((b && false) || sets.contains seen (p, q))) [ true ↦ refl | false ↦ refl ]
contains-with_ids seen o (id ∷ ids) p q =
    sets.contains-insert pair_cmp_total (with_ids seen o ids) (o, id) (p, q)
    ∙ ap (λ (b : Bool). b || sets.contains (with_ids seen o ids) (p, q)) (tied p q o id)
    ∙ ap (λ (b : Bool). (eqb p o && eq_by_cmp nat_cmp q id) || b) (contains-with_ids seen o ids p q)
    ∙ or_or (eqb p o) (eq_by_cmp nat_cmp q id) (list_any (eq_by_cmp nat_cmp q) ids) (sets.contains seen (p, q))

with_here : (seen : SeenRequests) (o : ℕ) (ids : IdSet) (q : ℕ) → sets.contains seen (o, q) ≡ false → sets.contains (with_ids seen o (sets.items ids)) (o, q) ≡ sets.contains ids q
with_here seen o ids q none =
    contains-with_ids seen o (sets.items ids) o q
    ∙ rw (eq-eqb o o refl, none) (or_false (list_any (eq_by_cmp nat_cmp q) (sets.items ids)))
    ∙ sym (sets.contains-items ids q)
  where
    or_false : (b : Bool) → (b || false) ≡ b
    or_false true = refl
    or_false false = refl

with_apart : (seen : SeenRequests) (o : ℕ) (ids : List ℕ) (p q : ℕ) → p ≢ o → sets.contains (with_ids seen o ids) (p, q) ≡ sets.contains seen (p, q)
with_apart seen o ids p q apart = contains-with_ids seen o ids p q ∙ ap (λ (b : Bool). (b && list_any (eq_by_cmp nat_cmp q) ids) || sets.contains seen (p, q)) (ne_eqb p o apart)

before : (rows : List RoomyIds) (i p q : ℕ) → p < i → sets.contains (pairs_from i rows) (p, q) ≡ false
unfolding pairs_from
before [] i p q lt = sets.contains-empty pair_cmp (p, q)
before (row ∷ rows) i p q lt = with_apart (pairs_from (i + 1) rows) i (sets.items row.ids) p q (λ e. omega arith) ∙ before rows (i + 1) p q (omega arith)

from_position : (rows : List RoomyIds) (i k q : ℕ) → sets.contains (pairs_from i rows) (i + k, q) ≡ sets.contains (ids_at rows k) q
unfolding pairs_from
from_position [] i k q = sets.contains-empty pair_cmp (i + k, q) ∙ sym (sets.contains-empty nat_cmp q)
from_position (row ∷ rows) i zero q =
    let none : i + 0 ≡ i = omega arith in
    ap (λ (p : ℕ). sets.contains (with_ids (pairs_from (i + 1) rows) i (sets.items row.ids)) (p, q)) none
    ∙ with_here (pairs_from (i + 1) rows) i row.ids q (before rows (i + 1) i q (omega arith))
from_position (row ∷ rows) i (suc k) q =
    let next : i + suc k ≡ (i + 1) + k = omega arith in
    with_apart (pairs_from (i + 1) rows) i (sets.items row.ids) (i + suc k) q (λ e. omega arith)
    ∙ ap (λ (p : ℕ). sets.contains (pairs_from (i + 1) rows) (p, q)) next
    ∙ from_position rows (i + 1) k q

-- an id stands beside o where it is in o's row
pub contains-pairs_of : (rows : List RoomyIds) (o q : ℕ) → sets.contains (pairs_of rows) (o, q) ≡ sets.contains (ids_at rows o) q
unfolding pairs_of
contains-pairs_of rows o q =
    let none : 0 + o ≡ o = omega arith in
    ap (λ (p : ℕ). sets.contains (pairs_from 0 rows) (p, q)) (sym none) ∙ from_position rows 0 o q

pub shown : (rows : List RoomyIds) (seen : SeenRequests) (o q : ℕ) → pairs_of rows ≡ seen → sets.contains seen (o, q) ≡ sets.contains (ids_at rows o) q
shown rows seen o q is = ap (λ (s : SeenRequests). sets.contains s (o, q)) (sym is) ∙ contains-pairs_of rows o q

-- none stands beside a node that has no row
pub of_a_row : (rows : List RoomyIds) (seen : SeenRequests) (n o id : ℕ) → pairs_of rows ≡ seen → n ≡ length rows → sets.contains seen (o, id) ≡ true → o < n
of_a_row rows seen n o id is count here = elim (cases_lt o n) [
  | inl lt ↦ lt
  | inr ge ↦
      let none : ids_at rows o ≡ sets.empty = ap (λ (r : RoomyIds). r.ids) (get_or_past rows o no_ids (omega (arith, count, ge))) in
      absurd (apart (sym (sets.contains-empty nat_cmp id) ∙ ap (λ (s : IdSet). sets.contains s id) (sym none) ∙ sym (shown rows seen o id is) ∙ here))
]
  where
    apart : false ≡ true → ⊥
    apart h = cc

same_pairs : (a b : SeenRequests) → ((p : ℕ × ℕ) → sets.contains a p ≡ sets.contains b p) → a ≡ b
same_pairs a b same = sets.same_set pair_cmp_total same_pair a b same

-- ---- one row is read or written

pub row_read : (rows : List RoomyIds) (o : ℕ) (row : RoomyIds) → o < length rows → row ≡ get_or rows o row → ids_at rows o ≡ row.ids
row_read rows o row lt at = ap (λ (r : RoomyIds). r.ids) (get_or_default rows o no_ids row lt ∙ sym at)

pub rows_len : (rows : List RoomyIds) (rooms : List ℕ) → rooms_of rows ≡ rooms → length rows ≡ length rooms
rows_len rows rooms is = sym (length-map rows (λ row. row.room)) ∙ ap length is

ids_put_here : (rows : List RoomyIds) (o : ℕ) (row : RoomyIds) → o < length rows → ids_at (put rows o row) o ≡ row.ids
ids_put_here rows o row lt = ap (λ (r : RoomyIds). r.ids) (get_or-set_same rows o row no_ids lt)

ids_put_apart : (rows : List RoomyIds) (o : ℕ) (row : RoomyIds) (p : ℕ) → p ≢ o → ids_at (put rows o row) p ≡ ids_at rows p
ids_put_apart rows o row p apart = ap (λ (r : RoomyIds). r.ids) (get_or-set_other rows o p row no_ids apart)

-- only the room of a row has changed
pub same_ids : (rows : List RoomyIds) (o : ℕ) (row : RoomyIds) → o < length rows → row.ids ≡ ids_at rows o → pairs_of (put rows o row) ≡ pairs_of rows
same_ids rows o row lt is = same_pairs (pairs_of (put rows o row)) (pairs_of rows) (λ p.
    contains-pairs_of (put rows o row) p.0 p.1
    ∙ ap (λ (ids : IdSet). sets.contains ids p.1) (elim (cases_eq p.0 o) [
      | inl same ↦ ap (ids_at (put rows o row)) same ∙ ids_put_here rows o row lt ∙ is ∙ ap (ids_at rows) (sym same)
      | inr apart ↦ ids_put_apart rows o row p.0 apart
    ])
    ∙ sym (contains-pairs_of rows p.0 p.1))

-- a row has one more id
pub one_more : (rows : List RoomyIds) (o id : ℕ) (row : RoomyIds) → o < length rows → row.ids ≡ sets.insert (ids_at rows o) id → pairs_of (put rows o row) ≡ sets.insert (pairs_of rows) (o, id)
one_more rows o id row lt is = same_pairs (pairs_of (put rows o row)) (sets.insert (pairs_of rows) (o, id)) (λ p.
    contains-pairs_of (put rows o row) p.0 p.1
    ∙ elim (cases_eq p.0 o) [
      | inl same ↦
          ap (λ (k : ℕ). sets.contains (ids_at (put rows o row) k) p.1) same
          ∙ ap (λ (ids : IdSet). sets.contains ids p.1) (ids_put_here rows o row lt ∙ is)
          ∙ sets.contains-insert nat_cmp_total (ids_at rows o) id p.1
          ∙ ap (λ (b : Bool). (b && eq_by_cmp nat_cmp p.1 id) || sets.contains (ids_at rows o) p.1) (sym (eq-eqb p.0 o same))
          ∙ ap (λ (k : ℕ). (eqb p.0 o && eq_by_cmp nat_cmp p.1 id) || sets.contains (ids_at rows k) p.1) (sym same)
      | inr apart ↦
          ap (λ (ids : IdSet). sets.contains ids p.1) (ids_put_apart rows o row p.0 apart)
          ∙ ap (λ (b : Bool). (b && eq_by_cmp nat_cmp p.1 id) || sets.contains (ids_at rows p.0) p.1) (sym (ne_eqb p.0 o apart))
    ]
    ∙ ap (λ (b : Bool). b || sets.contains (ids_at rows p.0) p.1) (sym (tied p.0 p.1 o id))
    ∙ ap (λ (b : Bool). eq_by_cmp pair_cmp p (o, id) || b) (sym (contains-pairs_of rows p.0 p.1))
    ∙ sym (sets.contains-insert pair_cmp_total (pairs_of rows) (o, id) p))

-- ---- rooms

pub room_put_here : (rows : List RoomyIds) (o : ℕ) (row : RoomyIds) → o < length rows → get_or (rooms_of (put rows o row)) o 0 ≡ row.room
room_put_here rows o row lt =
    ap (λ (rs : List ℕ). get_or rs o 0) (map-set (λ (r : RoomyIds). r.room) rows o row)
    ∙ get_or-set_same (rooms_of rows) o row.room 0 (omega (arith, length-map rows (λ (r : RoomyIds). r.room)))

pub room_put_apart : (rows : List RoomyIds) (rooms : List ℕ) (o : ℕ) (row : RoomyIds) (q : ℕ) → rooms_of rows ≡ rooms → q ≢ o → get_or (rooms_of (put rows o row)) q 0 ≡ get_or rooms q 0
room_put_apart rows rooms o row q is apart =
    ap (λ (rs : List ℕ). get_or rs q 0) (map-set (λ (r : RoomyIds). r.room) rows o row)
    ∙ get_or-set_other (rooms_of rows) o q row.room 0 apart
    ∙ ap (λ (rs : List ℕ). get_or rs q 0) is

-- ---- the greatest id beside o

pub up_to_greatest : (ks : List (ℕ × ℕ)) (o id : ℕ) → list_any (eq_by_cmp pair_cmp (o, id)) ks ≡ true → id ≤ greatest_beside ks o
up_to_greatest [] o id here = cc
up_to_greatest (k ∷ ks) o id here = step (up_to_greatest ks o id) (eqb k.0 o) refl (eqb o k.0 && eq_by_cmp nat_cmp id k.1) refl (ap (λ (b : Bool). b || list_any (eq_by_cmp pair_cmp (o, id)) ks) (sym (tied o id k.0 k.1)) ∙ here)
  where
    parts : (x y : Bool) → eqb o k.0 ≡ x → eq_by_cmp nat_cmp id k.1 ≡ y → (x && y) ≡ true → (o ≡ k.0) × (id ≡ k.1)
    parts true true ex ey e = (eqb-true o k.0 ex, eqb-true id k.1 (sym (unsigned_tied id k.1) ∙ ey))
    parts true false ex ey e = cc
    parts false y ex ey e = cc

    step : (list_any (eq_by_cmp pair_cmp (o, id)) ks ≡ true → id ≤ greatest_beside ks o) → (b : Bool) → eqb k.0 o ≡ b → (t : Bool) → (eqb o k.0 && eq_by_cmp nat_cmp id k.1) ≡ t → (t || list_any (eq_by_cmp pair_cmp (o, id)) ks) ≡ true → id ≤ cond b (max k.1 (greatest_beside ks o)) (greatest_beside ks o)
    step later b eb true et all =
        let same : (o ≡ k.0) × (id ≡ k.1) = parts (eqb o k.0) (eq_by_cmp nat_cmp id k.1) refl refl et in
        let yes : b ≡ true = sym eb ∙ eq-eqb k.0 o (sym same.0) in
        subst (λ x. id ≤ cond x (max k.1 (greatest_beside ks o)) (greatest_beside ks o)) (sym yes) (omega (arith, same.1))
    step later true eb false et all = let ih = later all in omega arith
    step later false eb false et all = later all

greatest_there : (ks : List (ℕ × ℕ)) (o : ℕ) → (greatest_beside ks o ≡ 0) ⊎ (list_any (eq_by_cmp pair_cmp (o, greatest_beside ks o)) ks ≡ true)
greatest_there [] o = inl refl
greatest_there (k ∷ ks) o = step (greatest_there ks o) (eqb k.0 o) refl
  where
    or_true : (b : Bool) → (b || true) ≡ true
    or_true true = refl
    or_true false = refl

    later : (g : ℕ) → list_any (eq_by_cmp pair_cmp (o, g)) ks ≡ true → list_any (eq_by_cmp pair_cmp (o, g)) (k ∷ ks) ≡ true
    later g is = ap (λ (b : Bool). eq_by_cmp pair_cmp (o, g) k || b) is ∙ or_true (eq_by_cmp pair_cmp (o, g) k)

    here : (g : ℕ) → o ≡ k.0 → g ≡ k.1 → list_any (eq_by_cmp pair_cmp (o, g)) (k ∷ ks) ≡ true
    here g eo eg =
        let one : (eqb o k.0 && eq_by_cmp nat_cmp g k.1) ≡ true = rw (eq-eqb o k.0 eo, unsigned_tied g k.1, eq-eqb g k.1 eg) refl in
        ap (λ (b : Bool). b || list_any (eq_by_cmp pair_cmp (o, g)) ks) (tied o g k.0 k.1 ∙ one)

    step : (greatest_beside ks o ≡ 0) ⊎ (list_any (eq_by_cmp pair_cmp (o, greatest_beside ks o)) ks ≡ true) → (b : Bool) → eqb k.0 o ≡ b → (cond b (max k.1 (greatest_beside ks o)) (greatest_beside ks o) ≡ 0) ⊎ (list_any (eq_by_cmp pair_cmp (o, cond b (max k.1 (greatest_beside ks o)) (greatest_beside ks o))) (k ∷ ks) ≡ true)
    step rest false eb = elim rest [ inl none ↦ inl none | inr some ↦ inr (later (greatest_beside ks o) some) ]
    step rest true eb =
        elim (cases_lt k.1 (greatest_beside ks o)) [
          | inl less ↦ elim rest [
            | inl none ↦ absurd (omega arith)
            | inr some ↦ inr (let top : max k.1 (greatest_beside ks o) ≡ greatest_beside ks o = omega arith in subst (λ g. list_any (eq_by_cmp pair_cmp (o, g)) (k ∷ ks) ≡ true) (sym top) (later (greatest_beside ks o) some))
          ]
          | inr more ↦ inr (here (max k.1 (greatest_beside ks o)) (sym (eqb-true k.0 o eb)) (omega arith))
        ]

pub greatest_is : (rows : List RoomyIds) (seen : SeenRequests) (o g : ℕ) → pairs_of rows ≡ seen → IsGreatest (ids_at rows o) (Some g) → last_request_id seen o ≡ g
unfolding last_request_id
greatest_is rows seen o g is at =
    let ks = sets.items seen in
    let up : g ≤ greatest_beside ks o = up_to_greatest ks o g (sym (sets.contains-items seen (o, g)) ∙ shown rows seen o g is ∙ at.0) in
    elim (greatest_there ks o) [
      | inl none ↦ omega arith
      | inr some ↦ elim (cases_lt g (greatest_beside ks o)) [
        | inl less ↦ absurd (not_both (sym (at.1 (greatest_beside ks o) less) ∙ sym (shown rows seen o (greatest_beside ks o) is) ∙ sets.contains-items seen (o, greatest_beside ks o) ∙ some))
        | inr more ↦ omega arith
      ]
    ]
  where
    not_both : false ≡ true → ⊥
    not_both e = cc

pub greatest_none : (rows : List RoomyIds) (seen : SeenRequests) (o : ℕ) → pairs_of rows ≡ seen → IsGreatest (ids_at rows o) None → last_request_id seen o ≡ 0
unfolding last_request_id
greatest_none rows seen o is none =
    let ks = sets.items seen in
    elim (greatest_there ks o) [
      | inl nothing ↦ nothing
      | inr some ↦ absurd (not_both (sym (none (greatest_beside ks o)) ∙ sym (shown rows seen o (greatest_beside ks o) is) ∙ sets.contains-items seen (o, greatest_beside ks o) ∙ some))
    ]
  where
    not_both : false ≡ true → ⊥
    not_both e = cc

-- ---- no ids

abbrev pub AreEmpty : List RoomyIds → Type 0
AreEmpty rows = AllByRecursion (λ row. row.ids ≡ sets.empty) rows

pub empty_push : (rows : List RoomyIds) (row : RoomyIds) → AreEmpty rows → row.ids ≡ sets.empty → AreEmpty (rows ++ row ∷ [])
empty_push [] row all none = (none, tt)
empty_push (r ∷ rows) row all none = (all.0, empty_push rows row all.1 none)

pub empty_at : (rows : List RoomyIds) (o : ℕ) → AreEmpty rows → ids_at rows o ≡ sets.empty
empty_at [] o all = refl
empty_at (r ∷ rows) zero all = all.0
empty_at (r ∷ rows) (suc o) all = empty_at rows o all.1

pub empty_pairs : (rows : List RoomyIds) → AreEmpty rows → pairs_of rows ≡ sets.empty
empty_pairs rows all = same_pairs (pairs_of rows) sets.empty (λ p.
    contains-pairs_of rows p.0 p.1 ∙ ap (λ (ids : IdSet). sets.contains ids p.1) (empty_at rows p.0 all) ∙ sets.contains-empty nat_cmp p.1 ∙ sym (sets.contains-empty pair_cmp p))

-- ---- what a row answers is what the requests answer

pub least_shown : (rows : List RoomyIds) (seen : SeenRequests) (o from : ℕ) (r : Option ℕ) (ids : IdSet) → pairs_of rows ≡ seen → ids_at rows o ≡ ids → IsLeastFrom ids from r → IsLeastIdFrom seen o from r
least_shown rows seen o from None ids is at least = λ id le. each id ∙ least id le
  where
    each : (q : ℕ) → sets.contains seen (o, q) ≡ sets.contains ids q
    each q = shown rows seen o q is ∙ ap (λ (s : IdSet). sets.contains s q) at
least_shown rows seen o from (Some m) ids is at least = (least.0, each m ∙ least.1, λ id le lt. each id ∙ least.2 id le lt)
  where
    each : (q : ℕ) → sets.contains seen (o, q) ≡ sets.contains ids q
    each q = shown rows seen o q is ∙ ap (λ (s : IdSet). sets.contains s q) at

pub next_is : (seen : SeenRequests) (o g : ℕ) → last_request_id seen o ≡ g → next_request_id seen o ≡ g + 1
unfolding next_request_id
next_is seen o g is = ap (λ (n : ℕ). n + 1) is

-- ---- rows that are just made

one_room : (ids : RoomyIds) (n : ℕ) → ids.room ≡ n → All (λ (r : RoomyIds). r.room ≡ n) (ids ∷ [])
one_room ids n is zero d lt = is
one_room ids n is (suc k) d lt = absurd (omega arith)

pub rooms_push : (rows : List RoomyIds) (ids : RoomyIds) (n : ℕ) → All (λ (r : RoomyIds). r.room ≡ n) rows → ids.room ≡ n
    → All (λ (r : RoomyIds). r.room ≡ n) (rows ++ ids ∷ [])
rooms_push rows ids n each is = All-append (λ (r : RoomyIds). r.room ≡ n) rows (ids ∷ []) each (one_room ids n is)
