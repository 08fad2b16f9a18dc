-- The first copy from an id on.
use Rattle.std.proofs.Common.{◌≡◌, ◌≢◌, ℕ, zero, suc, ◌+◌, ◌-◌, ◌<◌, ◌≤◌, inl, inr, true, false, cond, leb, List, [], ◌∷◌, length, Option, Some, None, unwrap_or, refl, sym, ap, subst, ◌∙◌, arith, eq-eqb}
use Rattle.std.specs.Prelude.{slice_get, IfSome, IfNone}
use Rattle.std.specs.List.{AllByRecursion}
use Rattle.std.specs.Map.{keys_of}
use Rattle.std.specs.FinSet.{contains}
use Rattle.std.proofs.lemmas.Bool.{ne_eqb, le-leb, lt-leb, cases_lt, cases_eq}
use Rattle.std.proofs.lemmas.Option.{same_Some, slice_get_within, slice_get-get_or, none-some}
use Rattle.mesh_base.specs.Members.{IsLeastFrom}
use Rattle.mesh_base.specs.declared.events.Flying.{Flying}
use Rattle.mesh_base.specs.Members.{member_list}
use Rattle.mesh_radio.specs.Copies.{find_copy, from_id, AreNumbered}
use Rattle.mesh_radio.proofs.Finds.{from_zero}
use Rattle.mesh_radio.specs.Casts.{Entry, size, slot_for, copies_of, AreRising, AreLeft, IsSplit, IsNext, IsBefore, IsFrom, NoneUpTo, copies_before, entry_of, copy_of}
use Rattle.mesh_radio.specs.declared.casts.Cast.{Cast}
use Rattle.mesh_base.proofs.Ranks.{members-sorted, members-order, rises-order, member-rank}
use Rattle.mesh_radio.proofs.Entries.{rising-low, rising-first, slot-there, slot-gone, find-all, copies-numbered, key-at, all-at}

-- ---- the cast of an id

first-none-before : (es : List Entry) (q : ℕ) → IsBefore es 0 q → entry_of es q ≡ None
first-none-before [] q b = refl
first-none-before (e ∷ es) q b = ap (λ t. cond t (Some (unwrap_or (entry_of es q) e)) None) (lt-leb e.0 q b)

pub entry-between : (low next index q : ℕ) (es : List Entry) (e : Entry) → AreRising low es next → slice_get es index ≡ Some e → e.0 ≤ q → IsBefore es (index + 1) q → entry_of es q ≡ Some e
entry-between low next zero q [] e r at le b = absurd cc
entry-between low next (suc index) q [] e r at le b = absurd cc
entry-between low next zero q (x ∷ es) e r at le b =
    let same : x ≡ e = same_Some x e at in
    let here : x.0 ≤ q = subst (λ (y : Entry). y.0 ≤ q) (sym same) le in
    ap (λ t. cond t (Some (unwrap_or (entry_of es q) x)) None) (le-leb x.0 q here) ∙ ap (λ o. Some (unwrap_or o x)) (first-none-before es q b) ∙ at
entry-between low next (suc index) q (x ∷ es) e r at le b =
    let up = rising-first (x.0 + size x.1) next index es e r.2 at in
    let same : suc index + 1 ≡ suc (index + 1) = omega arith in
    ap (λ t. cond t (Some (unwrap_or (entry_of es q) x)) None) (le-leb x.0 q (omega arith))
    ∙ ap (λ o. Some (unwrap_or o x)) (entry-between (x.0 + size x.1) next index q es e r.2 at le (subst (λ n. IsBefore (x ∷ es) n q) same b))

-- an id of the cast is below the next
pub before-next : (low next index q : ℕ) (es : List Entry) (e : Entry) → AreRising low es next → slice_get es index ≡ Some e → q < e.0 + size e.1 → IsBefore es (index + 1) q
before-next low next zero q [] e r at lt = absurd cc
before-next low next (suc index) q [] e r at lt = absurd cc
before-next low next zero q (x ∷ []) e r at lt = tt
before-next low next zero q (x ∷ (y ∷ es)) e r at lt =
    let same : x ≡ e = same_Some x e at in
    let here : q < x.0 + size x.1 = subst (λ (z : Entry). q < z.0 + size z.1) (sym same) lt in
    let up = (r.2).0 in
    omega arith
before-next low next (suc index) q (x ∷ es) e r at lt =
    let same : suc (index + 1) ≡ suc index + 1 = omega arith in
    subst (λ n. IsBefore (x ∷ es) n q) same (before-next (x.0 + size x.1) next index q es e r.2 at lt)

pub ids-below : (low next index : ℕ) (es : List Entry) (e : Entry) → AreRising low es next → slice_get es index ≡ Some e → e.0 + size e.1 ≤ next
ids-below low next zero [] e r at = absurd cc
ids-below low next (suc index) [] e r at = absurd cc
ids-below low next zero (x ∷ es) e r at = subst (λ (y : Entry). y.0 + size y.1 ≤ next) (same_Some x e at) (rising-low (x.0 + size x.1) next es r.2)
ids-below low next (suc index) (x ∷ es) e r at = ids-below (x.0 + size x.1) next index es e r.2 at

pub lefts-at : (index : ℕ) (es : List Entry) (e : Entry) → AllByRecursion (λ x. AreLeft x.1) es → slice_get es index ≡ Some e → AreLeft e.1
lefts-at index es e all at = all-at AreLeft index es e all at

-- ---- no copy

slot-none : (c : Cast) (q : ℕ) (o : Option ℕ) → ((x : ℕ) → o ≡ Some x → contains c.left x ≡ false) → slot_for c q o ≡ None
slot-none c q None none = refl
slot-none c q (Some x) none = slot-gone c q x (none x refl)

no-copy : (es : List Entry) (q : ℕ) (e : Entry) → entry_of es q ≡ Some e → ((x : ℕ) → slice_get (member_list (e.1).to) (q - e.0) ≡ Some x → contains (e.1).left x ≡ false) → copy_of (entry_of es q) q ≡ None
no-copy es q e is none = ap (λ o. copy_of o q) is ∙ slot-none e.1 q (slice_get (member_list (e.1).to) (q - e.0)) none

-- where no cast is at or before the id
pub none-at-start : (es : List Entry) (id k : ℕ) → k ≡ 0 → NoneUpTo es id k
none-at-start es id k zero_is q le b = ap (λ o. copy_of o q) (first-none-before es q (subst (λ n. IsBefore es n q) zero_is b))

module _ (es : List Entry) (next id : ℕ) (r : AreRising 1 es next) where
  -- the cast before the index has no copy from the id on
  pub none-rest : (k : ℕ) (e : Entry) → 0 < k → e.0 ≤ id → slice_get es (k - 1) ≡ Some e
      → ((i x : ℕ) → id - e.0 ≤ i → slice_get (member_list (e.1).to) i ≡ Some x → contains (e.1).left x ≡ false) → NoneUpTo es id k
  none-rest k e some low at none q le b =
      let same : k ≡ k - 1 + 1 = omega arith in
      no-copy es q e (entry-between 1 next (k - 1) q es e r at (omega arith) (subst (λ n. IsBefore es n q) same b)) (λ x is. none (q - e.0) x (omega arith) is)

  -- nor has the next
  pub none-more : (index : ℕ) (e : Entry) → NoneUpTo es id index → slice_get es index ≡ Some e → ((x : ℕ) → contains (e.1).left x ≡ false) → NoneUpTo es id (index + 1)
  none-more index e before at none q le b = elim (cases_lt q e.0) [
    | inl less ↦ before q le (subst (λ o. IfSome o (λ (y : Entry). q < y.0)) (sym at) less)
    | inr more ↦ no-copy es q e (entry-between 1 next index q es e r at more b) (λ x is. none x)
  ]

  -- the first of a cast, from its id on or from the front
  pub next-in : (index to : ℕ) (e : Entry) → slice_get es index ≡ Some e → AreLeft e.1 → to < 256 → contains (e.1).left to ≡ true → id ≤ e.0 + copies_before e.1 to
      → ((q : ℕ) → id ≤ q → q < e.0 → copy_of (entry_of es q) q ≡ None)
      → ((q x : ℕ) → id ≤ q → e.0 ≤ q → slice_get (member_list (e.1).to) (q - e.0) ≡ Some x → x < to → contains (e.1).left x ≡ false) → IsNext es id index to
  next-in index to e at are lt left late before none = record {
    entry = e;
    at = at;
    left = left;
    below = lt;
    late = late;
    none = λ q le less. elim (cases_lt q e.0) [
      | inl early ↦ before q le early
      | inr low ↦
          let here = member-rank to (e.1).to lt (are to left) in
          let inside = slice_get_within (member_list (e.1).to) (copies_before e.1 to) to here in
          no-copy es q e (entry-between 1 next index q es e r at low (before-next 1 next index q es e r at (omega arith)))
          (λ x is. none q x le low is (rises-order 0 256 (q - e.0) (copies_before e.1 to) x to (member_list (e.1).to) (members-sorted 256 (e.1).to) is here (omega arith)))
    ];
  }

-- ---- what a walk tells

absent-below : (low next id : ℕ) (fs : List Flying) → AreNumbered low fs next → id < low → find_copy fs id ≡ None
absent-below low next id [] n lt = refl
absent-below low next id (f ∷ fs) n lt =
    let up = n.0 in
    ap (λ b. cond b (Some f) (find_copy fs id)) (ne_eqb f.id id (λ e. omega arith)) ∙ absent-below (f.id + 1) next id fs n.1 (omega arith)

from-whole : (low next id : ℕ) (fs : List Flying) → AreNumbered low fs next → id ≤ low → from_id fs id ≡ fs
unfolding from_id
from-whole low next id [] n le = refl
from-whole low next id (f ∷ fs) n le =
    let up = n.0 in
    let hit : leb id f.id ≡ true = le-leb id f.id (omega arith) in
    rw hit (ap (λ (gs : List Flying). f ∷ gs) (from-whole (f.id + 1) next id fs n.1 (omega arith)))

pub find-first : (f : Flying) (fs : List Flying) → find_copy (f ∷ fs) f.id ≡ Some f
find-first f fs = ap (λ b. cond b (Some f) (find_copy fs f.id)) (eq-eqb f.id f.id refl)

find-other : (f : Flying) (fs : List Flying) (q : ℕ) → f.id ≢ q → find_copy (f ∷ fs) q ≡ find_copy fs q
find-other f fs q ne = ap (λ b. cond b (Some f) (find_copy fs q)) (ne_eqb f.id q ne)

pub from-next : (low next id j : ℕ) (fs : List Flying) (c : Flying) → AreNumbered low fs next → find_copy fs j ≡ Some c → id ≤ j → ((q : ℕ) → id ≤ q → q < j → find_copy fs q ≡ None)
    → from_id fs id ≡ c ∷ from_id fs (j + 1)
unfolding from_id
from-next low next id j [] c n is le none = absurd cc
from-next low next id j (f ∷ fs) c n is le none = elim (cases_lt f.id id) [
  | inl less ↦
      let miss : leb id f.id ≡ false = lt-leb id f.id less in
      let past : leb (j + 1) f.id ≡ false = lt-leb (j + 1) f.id (omega arith) in
      rw (miss, past) (from-next (f.id + 1) next id j fs c n.1 (sym (find-other f fs j (λ e. omega arith)) ∙ is) le (λ q up lt. sym (find-other f fs q (λ e. omega arith)) ∙ none q up lt))
  | inr more ↦ elim (cases_lt f.id j) [
    | inl early ↦ absurd (none-some f (sym (none f.id more early) ∙ find-first f fs))
    | inr late ↦ elim (cases_eq f.id j) [
      | inl same ↦
          let hit : leb id f.id ≡ true = le-leb id f.id more in
          let past : leb (j + 1) f.id ≡ false = lt-leb (j + 1) f.id (omega arith) in
          let it : f ≡ c = same_Some f c (sym (find-first f fs) ∙ ap (find_copy (f ∷ fs)) same ∙ is) in
          rw (hit, past) (
          ap (λ (gs : List Flying). f ∷ gs) (from-whole (f.id + 1) next id fs n.1 (omega arith) ∙ sym (from-whole (f.id + 1) next (j + 1) fs n.1 (omega arith)))
          ∙ ap (λ (g : Flying). g ∷ from_id fs (j + 1)) it
          )
      | inr ne ↦ absurd (none-some c (sym (find-other f fs j ne ∙ absent-below (f.id + 1) next j fs n.1 (omega arith)) ∙ is))
    ]
  ]
]

pub from-none : (id : ℕ) (low next : ℕ) (fs : List Flying) → AreNumbered low fs next → ((q : ℕ) → id ≤ q → find_copy fs q ≡ None) → from_id fs id ≡ []
unfolding from_id
from-none id low next [] n none = refl
from-none id low next (f ∷ fs) n none = elim (cases_lt f.id id) [
  | inl less ↦
      let miss : leb id f.id ≡ false = lt-leb id f.id less in
      rw miss (from-none id (f.id + 1) next fs n.1 (λ q up. sym (find-other f fs q (λ e. omega arith)) ∙ none q up))
  | inr more ↦ absurd (none-some f (sym (none f.id more) ∙ find-first f fs))
]

-- the copy that comes next
pub next-copy : (es : List Entry) (next id index to : ℕ) (e : Entry) → AreRising 1 es next → AllByRecursion (λ x. AreLeft x.1) es → IsNext es id index to → slice_get es index ≡ Some e
    → find_copy (copies_of es) (e.0 + copies_before e.1 to) ≡ Some (record { id = e.0 + copies_before e.1 to; from = (e.1).from; to = to; bytes = (e.1).bytes })
next-copy es next id index to e r all n at =
    let same : n.entry ≡ e = same_Some n.entry e (sym n.at ∙ at) in
    let left : contains (e.1).left to ≡ true = ap (λ (y : Entry). contains (y.1).left to) (sym same) ∙ n.left in
    let j = e.0 + copies_before e.1 to in
    let here = member-rank to (e.1).to n.below (lefts-at index es e all at to left) in
    let inside = slice_get_within (member_list (e.1).to) (copies_before e.1 to) to here in
    let back : j - e.0 ≡ copies_before e.1 to = omega arith in
    find-all 1 next j es r
    ∙ ap (λ o. copy_of o j) (entry-between 1 next index j es e r at (omega arith) (before-next 1 next index j es e r at (omega arith)))
    ∙ ap (λ i. slot_for e.1 j (slice_get (member_list (e.1).to) i)) back
    ∙ ap (slot_for e.1 j) here ∙ slot-there e.1 j to left

-- and what is told of it
pub next-told : (es : List Entry) (next id index to : ℕ) (e : Entry) → AreRising 1 es next → AllByRecursion (λ x. AreLeft x.1) es → IsNext es id index to → slice_get es index ≡ Some e
    → from_id (copies_of es) id ≡ record { id = e.0 + copies_before e.1 to; from = (e.1).from; to = to; bytes = (e.1).bytes } ∷ from_id (copies_of es) (e.0 + copies_before e.1 to + 1)
next-told es next id index to e r all n at =
    let same : n.entry ≡ e = same_Some n.entry e (sym n.at ∙ at) in
    let ids = ap (λ (y : Entry). y.0 + copies_before y.1 to) same in
    from-next 1 next id (e.0 + copies_before e.1 to) (copies_of es) _ (copies-numbered 1 next es r) (next-copy es next id index to e r all n at)
    (subst (λ k. id ≤ k) ids n.late)
    (λ q up lt. find-all 1 next q es r ∙ n.none q up (subst (λ k. q < k) (sym ids) lt))

pub next-within : (es : List Entry) (next id index to : ℕ) (e : Entry) → AreRising 1 es next → AllByRecursion (λ x. AreLeft x.1) es → IsNext es id index to → slice_get es index ≡ Some e
    → (id ≤ e.0 + copies_before e.1 to) × (e.0 + copies_before e.1 to < next)
next-within es next id index to e r all n at =
    let same : n.entry ≡ e = same_Some n.entry e (sym n.at ∙ at) in
    let left : contains (e.1).left to ≡ true = ap (λ (y : Entry). contains (y.1).left to) (sym same) ∙ n.left in
    let here = member-rank to (e.1).to n.below (lefts-at index es e all at to left) in
    let inside = slice_get_within (member_list (e.1).to) (copies_before e.1 to) to here in
    let most = ids-below 1 next index es e r at in
    (subst (λ k. id ≤ k) (ap (λ (y : Entry). y.0 + copies_before y.1 to) same) n.late, omega arith)

-- ---- the parts of the walk

module _ (es : List Entry) (next id k start : ℕ) (e : Entry) (r : AreRising 1 es next) (all : AllByRecursion (λ x. AreLeft x.1) es) (some : 0 < k) (low : e.0 ≤ id)
    (at : slice_get es (k - 1) ≡ Some e) (from : slice_get (member_list (e.1).to) (id - e.0) ≡ Some start) where
  pub rest-some : (o : Option ℕ) → IsLeastFrom (e.1).left start o → IfSome o (λ m. m < 256) → IfSome o (λ to. (0 < k) × IsNext es id (k - 1) to)
  rest-some None least below = tt
  rest-some (Some to) least below =
      let here = member-rank to (e.1).to below (lefts-at (k - 1) es e all at to least.1) in
      let up = least.0 in (
        some,
        next-in es next id r (k - 1) to e at (lefts-at (k - 1) es e all at) below least.1
            (elim (cases_lt (copies_before e.1 to) (id - e.0)) [
              | inl less ↦ absurd (let earlier = rises-order 0 256 (copies_before e.1 to) (id - e.0) to start (member_list (e.1).to) (members-sorted 256 (e.1).to) here from less in omega arith)
              | inr more ↦ omega arith
            ])
            (λ q le lt. absurd (omega arith))
            (λ q x le low is lt. least.2 x (members-order (id - e.0) (q - e.0) start x (e.1).to from is (omega arith)) lt),
      )

  pub rest-none : (o : Option ℕ) → IsLeastFrom (e.1).left start o → IfNone o (NoneUpTo es id k)
  rest-none None least = none-rest es next id r k e some low at (λ i x le is. least x (members-order (id - e.0) i start x (e.1).to from is le))
  rest-none (Some to) least = tt

pub rest-past : (es : List Entry) (next id k : ℕ) (e : Entry) → AreRising 1 es next → 0 < k → e.0 ≤ id → slice_get es (k - 1) ≡ Some e → slice_get (member_list (e.1).to) (id - e.0) ≡ None → NoneUpTo es id k
rest-past es next id k e r some low at past =
    none-rest es next id r k e some low at (λ i x le is. let inside = slice_get_within (member_list (e.1).to) i x is in
    absurd (none-some _ (sym past ∙ slice_get-get_or (member_list (e.1).to) (id - e.0) 0 (omega arith))))

before-by : (es : List Entry) (k q : ℕ) → ((e : Entry) → slice_get es k ≡ Some e → q < e.0) → IsBefore es k q
before-by es k q h = by (slice_get es k) refl
  where
    by : (o : Option Entry) → slice_get es k ≡ o → IfSome o (λ e. q < e.0)
    by None is = tt
    by (Some e) is = h e is

keys-long : (es : List Entry) → length (keys_of es) ≡ length es
keys-long [] = refl
keys-long (e ∷ es) = let rest = keys-long es in omega arith

pub split-before : (es : List Entry) (id k : ℕ) → IsSplit (keys_of es) id k → IsBefore es k id
split-before es id k s = before-by es k id (λ e at.
    let inside = slice_get_within es k e at in
    let long = keys-long es in
    let key = key-at es k e at in
    let up = s.above k (omega arith) (omega arith) in
    omega arith)

pub before-at : (es : List Entry) (k q : ℕ) (e : Entry) → slice_get es k ≡ Some e → IsBefore es k q → q < e.0
before-at es k q e at b = subst (λ o. IfSome o (λ (y : Entry). q < y.0)) at b

pub from-at : (es : List Entry) (k id : ℕ) (e : Entry) → slice_get es k ≡ Some e → IsFrom es k id → id ≤ e.0
from-at es k id e at b = subst (λ o. IfSome o (λ (y : Entry). id ≤ y.0)) at b

pub before-from : (es : List Entry) (k id : ℕ) → IsBefore es k id → IsFrom es k id
before-from es k id b = by (slice_get es k) b
  where
    by : (o : Option Entry) → IfSome o (λ e. id < e.0) → IfSome o (λ e. id ≤ e.0)
    by None h = tt
    by (Some e) h = omega arith

pub from-zero : (es : List Entry) (k : ℕ) → IsFrom es k 0
from-zero es k = by (slice_get es k)
  where
    by : (o : Option Entry) → IfSome o (λ e. 0 ≤ e.0)
    by None = tt
    by (Some e) = omega arith

-- a cast that isn't before the id
pub later-next : (es : List Entry) (next id index to : ℕ) (e : Entry) → AreRising 1 es next → AllByRecursion (λ x. AreLeft x.1) es → NoneUpTo es id index → IsFrom es index id → slice_get es index ≡ Some e
    → IsLeastFrom (e.1).left 0 (Some to) → to < 256 → IsNext es id index to
later-next es next id index to e r all before b at least below =
    let up = from-at es index id e at b in
    next-in es next id r index to e at (lefts-at index es e all at) below least.1 (omega arith)
    (λ q le lt. before q le (subst (λ o. IfSome o (λ (y : Entry). q < y.0)) (sym at) lt))
    (λ q x le low is lt. least.2 x (omega arith) lt)

size-some : (low next index : ℕ) (es : List Entry) (e : Entry) → AreRising low es next → slice_get es index ≡ Some e → 0 < size e.1
size-some low next zero [] e r at = absurd cc
size-some low next (suc index) [] e r at = absurd cc
size-some low next zero (x ∷ es) e r at = subst (λ (y : Entry). 0 < size y.1) (same_Some x e at) r.1
size-some low next (suc index) (x ∷ es) e r at = size-some (x.0 + size x.1) next index es e r.2 at

pub later-none : (es : List Entry) (next id index : ℕ) (e : Entry) → AreRising 1 es next → NoneUpTo es id index → IsFrom es index id → slice_get es index ≡ Some e
    → IsLeastFrom (e.1).left 0 None → NoneUpTo es id (index + 1) × IsFrom es (index + 1) id
later-none es next id index e r before b at least =
    let up = from-at es index id e at b in
    let one = size-some 1 next index es e r at in
    (none-more es next id r index e before at (λ x. least x (omega arith)), before-from es (index + 1) id (before-next 1 next index id es e r at (omega arith)))

pub none-after : (es : List Entry) (id index : ℕ) → NoneUpTo es id index → slice_get es index ≡ None → (q : ℕ) → id ≤ q → copy_of (entry_of es q) q ≡ None
none-after es id index before past q le = before q le (before-by es index q (λ e at. absurd (none-some e (sym past ∙ at))))

-- ---- the first of all

pub first-of : (fs : List Flying) (c : Flying) (gs : List Flying) → from_id fs 0 ≡ c ∷ gs → slice_get fs 0 ≡ Some c
first-of fs c gs is = ap (λ l. slice_get l 0) (sym (from_zero fs) ∙ is)
