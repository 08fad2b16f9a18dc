-- Neighbours, and the pairs that they make.
use Rattle.std.proofs.Common.{◌≡◌, ◌≢◌, ◌<◌, ◌≤◌, ℕ, zero, suc, Bool, true, false, cond, List, [], ◌∷◌, length, slice_set, get_or, replicate, min, max, refl, sym, ap, subst, ◌∙◌, arith, inl, inr}
use Rattle.std.proofs.lemmas.Bool.{cases_eq, cases_lt}
use Rattle.std.specs.Ordering.{nat_cmp}
use Rattle.std.specs.Cmp.{nat_cmp_total}
use Rattle.std.specs.FinSet.{empty, contains, insert, remove, contains-empty, same_set, nat_cmp-IsAntisymmetric}
use Rattle.mesh_base.specs.Members.{NodeIds}
use Rattle.mesh_base.proofs.Lemmas.Sets.{insert_here, insert_other, remove_here, remove_other}
use Rattle.aodv_model.specs.Pairs.{Pairs, pair_cmp}
use Rattle.mesh_model.specs.Worlds.{pair, are_linked, linked_below}
use Rattle.mesh_model.proofs.Links.{below_hit, below_miss, pair_up}
use Rattle.mesh_radio.specs.Kept.{graph_of, row, with_row, pairs_below, AreMutual}
use Rattle.aodv_model.proofs.PairLaws.{pair_cmp_total, same_pair}
use Rattle.mesh_radio.proofs.Orders.{cases_pair}

-- ---- rows

pub row-set_same : (rows : List NodeIds) (a : ℕ) (s : NodeIds) → a < length rows → row (slice_set rows a s) a ≡ s
row-set_same [] a s h = absurd (omega arith)
row-set_same (r ∷ rows) zero s h = refl
row-set_same (r ∷ rows) (suc a) s h = row-set_same rows a s (omega arith)

pub row-set_other : (rows : List NodeIds) (a x : ℕ) (s : NodeIds) → x ≢ a → row (slice_set rows a s) x ≡ row rows x
row-set_other [] zero x s ne = refl
row-set_other [] (suc a) x s ne = refl
row-set_other (r ∷ rows) zero zero s ne = absurd (ne refl)
row-set_other (r ∷ rows) zero (suc x) s ne = refl
row-set_other (r ∷ rows) (suc a) zero s ne = refl
row-set_other (r ∷ rows) (suc a) (suc x) s ne = row-set_other rows a x s (λ e. ne (ap (λ (n : ℕ). suc n) e))

pub row-past : (rows : List NodeIds) (a : ℕ) → length rows ≤ a → row rows a ≡ empty
row-past [] zero h = refl
row-past [] (suc a) h = refl
row-past (r ∷ rows) zero h = absurd (omega arith)
row-past (r ∷ rows) (suc a) h = row-past rows a (omega arith)

pub row-at : (rows : List NodeIds) (a : ℕ) (d : NodeIds) → a < length rows → get_or rows a d ≡ row rows a
row-at [] a d h = absurd (omega arith)
row-at (r ∷ rows) zero d h = refl
row-at (r ∷ rows) (suc a) d h = row-at rows a d (omega arith)

pub length-slice_set : (rows : List NodeIds) (a : ℕ) (s : NodeIds) → length (slice_set rows a s) ≡ length rows
length-slice_set [] zero s = refl
length-slice_set [] (suc a) s = refl
length-slice_set (r ∷ rows) zero s = refl
length-slice_set (r ∷ rows) (suc a) s = ap (λ (n : ℕ). suc n) (length-slice_set rows a s)

past : (rows : List NodeIds) (a q : ℕ) → length rows ≤ a → contains (row rows a) q ≡ false
past rows a q le = ap (λ (s : NodeIds). contains s q) (row-past rows a le) ∙ contains-empty nat_cmp q

-- ---- the pairs of rows

with_row-hit : (a : ℕ) (s : NodeIds) (n : ℕ) (ps : Pairs) (x : ℕ) → x < n → contains s x ≡ true → contains (with_row a s n ps) (x, a) ≡ true
unfolding with_row
with_row-hit a s zero ps x lt is = absurd (omega arith)
with_row-hit a s (suc n) ps x lt is = elim (cases_eq x n) [
  | inl same ↦
      let here : contains s n ≡ true = ap (contains s) (sym same) ∙ is in
      rw (here, same) (insert_here pair_cmp_total same_pair (with_row a s n ps) (n, a))
  | inr ne ↦
      let before = with_row-hit a s n ps x (omega arith) is in
      elim (contains s n) as (λ b. contains (cond b (insert (with_row a s n ps) (n, a)) (with_row a s n ps)) (x, a) ≡ true) [
        | true ↦ insert_other pair_cmp_total same_pair (with_row a s n ps) (n, a) (x, a) (λ e. ne (ap (λ (p : ℕ × ℕ). p.0) e)) ∙ before
        | false ↦ before
      ]
]

with_row-miss : (a : ℕ) (s : NodeIds) (n : ℕ) (ps : Pairs) (x y : ℕ) → (y ≡ a → x < n → contains s x ≡ false) → contains (with_row a s n ps) (x, y) ≡ contains ps (x, y)
unfolding with_row
with_row-miss a s zero ps x y none = refl
with_row-miss a s (suc n) ps x y none =
    let before = with_row-miss a s n ps x y (λ e lt. none e (omega arith)) in
    elim (contains s n) as (λ b. contains s n ≡ b → contains (cond b (insert (with_row a s n ps) (n, a)) (with_row a s n ps)) (x, y) ≡ contains ps (x, y)) [
      | true ↦ λ is. insert_other pair_cmp_total same_pair (with_row a s n ps) (n, a) (x, y) (λ e.
          let first : x ≡ n = ap (λ (p : ℕ × ℕ). p.0) e in
          let off = none (ap (λ (p : ℕ × ℕ). p.1) e) (omega arith) in
          let on : contains s x ≡ true = ap (contains s) first ∙ is in
          cc) ∙ before
      | false ↦ λ _. before
    ] refl

pairs_below-hit : (k : ℕ) (rows : List NodeIds) (x y : ℕ) → y < k → x < y → contains (row rows y) x ≡ true → contains (pairs_below k rows) (x, y) ≡ true
unfolding pairs_below
pairs_below-hit zero rows x y lt up is = absurd (omega arith)
pairs_below-hit (suc k) rows x y lt up is = elim (cases_eq y k) [
  | inl same ↦
      let here : contains (row rows k) x ≡ true = ap (λ (n : ℕ). contains (row rows n) x) (sym same) ∙ is in
      rw same (with_row-hit k (row rows k) k (pairs_below k rows) x (omega arith) here)
  | inr ne ↦ with_row-miss k (row rows k) k (pairs_below k rows) x y (λ e. absurd (ne e)) ∙ pairs_below-hit k rows x y (omega arith) up is
]

pairs_below-miss : (k : ℕ) (rows : List NodeIds) (x y : ℕ) → (y < k → x < y → contains (row rows y) x ≡ false) → contains (pairs_below k rows) (x, y) ≡ false
unfolding pairs_below
pairs_below-miss zero rows x y none = contains-empty pair_cmp (x, y)
pairs_below-miss (suc k) rows x y none =
    with_row-miss k (row rows k) k (pairs_below k rows) x y (λ same lt. ap (λ (n : ℕ). contains (row rows n) x) (sym same) ∙ none (omega arith) (omega arith))
    ∙ pairs_below-miss k rows x y (λ lt up. none (omega arith) up)

abbrev pairs_of : List NodeIds → Pairs
pairs_of rows = pairs_below (length rows) rows

pub pairs-has : (rows : List NodeIds) (x y : ℕ) → x < y → contains (pairs_of rows) (x, y) ≡ contains (row rows y) x
pairs-has rows x y up = elim (cases_lt y (length rows)) [
  | inl lt ↦ elim (contains (row rows y) x) as (λ b. contains (row rows y) x ≡ b → contains (pairs_of rows) (x, y) ≡ b) [
    | true ↦ λ is. pairs_below-hit (length rows) rows x y lt up is
    | false ↦ λ is. pairs_below-miss (length rows) rows x y (λ _ _. is)
  ] refl
  | inr le ↦ pairs_below-miss (length rows) rows x y (λ lt _. absurd (omega arith)) ∙ sym (past rows y x le)
]

pub pairs-not : (rows : List NodeIds) (x y : ℕ) → y ≤ x → contains (pairs_of rows) (x, y) ≡ false
pairs-not rows x y le = pairs_below-miss (length rows) rows x y (λ _ up. absurd (omega arith))

-- ---- links

pair-down : (a b : ℕ) → b < a → pair a b ≡ (b, a)
pair-down a b lt = let x : min a b ≡ b = omega arith in let y : max a b ≡ a = omega arith in λ i. (x i, y i)

pair-same : (a b : ℕ) → a ≡ b → pair a b ≡ (a, a)
pair-same a b e = let x : min a b ≡ a = omega arith in let y : max a b ≡ a = omega arith in λ i. (x i, y i)

-- who is linked to a
pub linked-is : (rows : List NodeIds) (a b : ℕ) → AreMutual rows → are_linked (pairs_of rows) a b ≡ contains (row rows a) b
linked-is rows a b are = elim (cases_eq a b) [
  | inl same ↦ ap (contains (pairs_of rows)) (pair-same a b same) ∙ pairs-not rows a a (omega arith) ∙ sym (ap (contains (row rows a)) (sym same) ∙ are.apart a)
  | inr ne ↦ elim (cases_lt a b) [
    | inl lt ↦ ap (contains (pairs_of rows)) (pair_up a b lt) ∙ pairs-has rows a b lt ∙ are.both_ways b a
    | inr le ↦ ap (contains (pairs_of rows)) (pair-down a b (omega arith)) ∙ pairs-has rows b a (omega arith)
  ]
]

pub member-below : (rows : List NodeIds) (a q : ℕ) → AreMutual rows → contains (row rows a) q ≡ true → q < length rows
member-below rows a q are is = elim (cases_lt q (length rows)) [ inl lt ↦ lt | inr le ↦ let off = are.both_ways a q ∙ past rows q a le in cc ]

-- the neighbours kept are the nodes that are linked
pub neighbours-are : (rows : List NodeIds) (a : ℕ) → AreMutual rows → row rows a ≡ linked_below (pairs_of rows) a (length rows)
neighbours-are rows a are = same_set nat_cmp_total nat_cmp-IsAntisymmetric (row rows a) (linked_below (pairs_of rows) a (length rows)) (λ q.
    elim (contains (row rows a) q) as (λ b. contains (row rows a) q ≡ b → b ≡ contains (linked_below (pairs_of rows) a (length rows)) q) [
      | true ↦ λ is. sym (below_hit (pairs_of rows) a (length rows) q (member-below rows a q are is) (linked-is rows a q are ∙ is))
      | false ↦ λ is. sym (below_miss (pairs_of rows) a (length rows) q (λ _. linked-is rows a q are ∙ is))
    ] refl)

-- ---- a change of one link

-- a and b are neighbours now, or not; all others are as before
pub record Changes (rows rows' : List NodeIds) (a b : ℕ) (now : Bool) : Type 0 where
  pub size : length rows' ≡ length rows
  pub here : contains (row rows' a) b ≡ now
  pub back : contains (row rows' b) a ≡ now
  pub others : (x y : ℕ) → ((x ≡ a) → (y ≡ b) → ⊥) → ((x ≡ b) → (y ≡ a) → ⊥) → contains (row rows' x) y ≡ contains (row rows x) y

-- the rows of a and b are replaced
abbrev replaced : List NodeIds → ℕ → ℕ → NodeIds → NodeIds → List NodeIds
replaced rows a b r s = slice_set (slice_set rows a r) b s

first_row : (rows : List NodeIds) (a b : ℕ) (r s : NodeIds) → a ≢ b → a < length rows → row (replaced rows a b r s) a ≡ r
first_row rows a b r s ne lt = row-set_other (slice_set rows a r) b a s ne ∙ row-set_same rows a r lt

second_row : (rows : List NodeIds) (a b : ℕ) (r s : NodeIds) → b < length rows → row (replaced rows a b r s) b ≡ s
second_row rows a b r s lt = row-set_same (slice_set rows a r) b s (omega (arith, length-slice_set rows a r))

other_row : (rows : List NodeIds) (a b x : ℕ) (r s : NodeIds) → x ≢ a → x ≢ b → row (replaced rows a b r s) x ≡ row rows x
other_row rows a b x r s na nb = row-set_other (slice_set rows a r) b x s nb ∙ row-set_other rows a x r na

same_size : (rows : List NodeIds) (a b : ℕ) (r s : NodeIds) → length (replaced rows a b r s) ≡ length rows
same_size rows a b r s = length-slice_set (slice_set rows a r) b s ∙ length-slice_set rows a r

-- each row of the two changes at the other node alone
replaced_changes : (rows : List NodeIds) (a b : ℕ) (r s : NodeIds) (now : Bool) → a ≢ b → a < length rows → b < length rows
    → contains r b ≡ now → ((q : ℕ) → q ≢ b → contains r q ≡ contains (row rows a) q)
    → contains s a ≡ now → ((q : ℕ) → q ≢ a → contains s q ≡ contains (row rows b) q) → Changes rows (replaced rows a b r s) a b now
replaced_changes rows a b r s now ne la lb r-is r-others s-is s-others = record {
  size = same_size rows a b r s;
  here = ap (λ (t : NodeIds). contains t b) (first_row rows a b r s ne la) ∙ r-is;
  back = ap (λ (t : NodeIds). contains t a) (second_row rows a b r s lb) ∙ s-is;
  others = λ x y off back. elim (cases_eq x a) [
    | inl at-a ↦ ap (λ (n : ℕ). contains (row (replaced rows a b r s) n) y) at-a ∙ ap (λ (t : NodeIds). contains t y) (first_row rows a b r s ne la) ∙ r-others y (λ e. off at-a e) ∙ ap (λ (n : ℕ). contains (row rows n) y) (sym at-a)
    | inr na ↦ elim (cases_eq x b) [
      | inl at-b ↦ ap (λ (n : ℕ). contains (row (replaced rows a b r s) n) y) at-b ∙ ap (λ (t : NodeIds). contains t y) (second_row rows a b r s lb) ∙ s-others y (λ e. back at-b e) ∙ ap (λ (n : ℕ). contains (row rows n) y) (sym at-b)
      | inr nb ↦ ap (λ (t : NodeIds). contains t y) (other_row rows a b x r s na nb)
    ]
  ];
}

both_joined : (rows : List NodeIds) (a b : ℕ) → a ≢ b → a < length rows → b < length rows
    → Changes rows (replaced rows a b (insert (row rows a) b) (insert (row (slice_set rows a (insert (row rows a) b)) b) a)) a b true
both_joined rows a b ne la lb =
    let same : row (slice_set rows a (insert (row rows a) b)) b ≡ row rows b = row-set_other rows a b (insert (row rows a) b) (λ e. ne (sym e)) in
    subst (λ (t : NodeIds). Changes rows (replaced rows a b (insert (row rows a) b) (insert t a)) a b true) (sym same)
    (replaced_changes rows a b (insert (row rows a) b) (insert (row rows b) a) true ne la lb
    (insert_here nat_cmp_total nat_cmp-IsAntisymmetric (row rows a) b) (λ q nq. insert_other nat_cmp_total nat_cmp-IsAntisymmetric (row rows a) b q nq)
    (insert_here nat_cmp_total nat_cmp-IsAntisymmetric (row rows b) a) (λ q nq. insert_other nat_cmp_total nat_cmp-IsAntisymmetric (row rows b) a q nq))

pub joined : (rows once twice : List NodeIds) (a b : ℕ) → a ≢ b → a < length rows → b < length rows → once ≡ slice_set rows a (insert (row rows a) b) → twice ≡ slice_set once b (insert (row once b) a) → Changes rows twice a b true
joined rows once twice a b ne la lb one two =
    subst (λ (t : List NodeIds). Changes rows t a b true) (sym (two ∙ ap (λ (t : List NodeIds). slice_set t b (insert (row t b) a)) one)) (both_joined rows a b ne la lb)

both_parted : (rows : List NodeIds) (a b : ℕ) → a ≢ b → a < length rows → b < length rows
    → Changes rows (replaced rows a b (remove (row rows a) b) (remove (row (slice_set rows a (remove (row rows a) b)) b) a)) a b false
both_parted rows a b ne la lb =
    let same : row (slice_set rows a (remove (row rows a) b)) b ≡ row rows b = row-set_other rows a b (remove (row rows a) b) (λ e. ne (sym e)) in
    subst (λ (t : NodeIds). Changes rows (replaced rows a b (remove (row rows a) b) (remove t a)) a b false) (sym same)
    (replaced_changes rows a b (remove (row rows a) b) (remove (row rows b) a) false ne la lb
    (remove_here nat_cmp_total nat_cmp-IsAntisymmetric (row rows a) b) (λ q nq. remove_other nat_cmp_total nat_cmp-IsAntisymmetric (row rows a) b q nq)
    (remove_here nat_cmp_total nat_cmp-IsAntisymmetric (row rows b) a) (λ q nq. remove_other nat_cmp_total nat_cmp-IsAntisymmetric (row rows b) a q nq))

pub parted : (rows once twice : List NodeIds) (a b : ℕ) → a ≢ b → a < length rows → b < length rows → once ≡ slice_set rows a (remove (row rows a) b) → twice ≡ slice_set once b (remove (row once b) a) → Changes rows twice a b false
parted rows once twice a b ne la lb one two =
    subst (λ (t : List NodeIds). Changes rows t a b false) (sym (two ∙ ap (λ (t : List NodeIds). slice_set t b (remove (row t b) a)) one)) (both_parted rows a b ne la lb)

pub changed_mutual : (rows rows' : List NodeIds) (a b : ℕ) (now : Bool) → a ≢ b → Changes rows rows' a b now → AreMutual rows → AreMutual rows'
changed_mutual rows rows' a b now ne ch are = record {
  few = subst (λ (n : ℕ). n ≤ 200) (sym ch.size) are.few;
  both_ways = λ x y. elim (cases_pair (x, y) (a, b)) [
    | inl e ↦
        let ex : x ≡ a = ap (λ (p : ℕ × ℕ). p.0) e in
        let ey : y ≡ b = ap (λ (p : ℕ × ℕ). p.1) e in
        rw (ex, ey) (ch.here ∙ sym ch.back)
    | inr off ↦ elim (cases_pair (x, y) (b, a)) [
      | inl e ↦
          let ex : x ≡ b = ap (λ (p : ℕ × ℕ). p.0) e in
          let ey : y ≡ a = ap (λ (p : ℕ × ℕ). p.1) e in
          rw (ex, ey) (ch.back ∙ sym ch.here)
      | inr nor ↦
          ch.others x y (λ e f. off (λ i. (e i, f i))) (λ e f. nor (λ i. (e i, f i))) ∙ are.both_ways x y
          ∙ sym (ch.others y x (λ e f. nor (λ i. (f i, e i))) (λ e f. off (λ i. (f i, e i))))
    ]
  ];
  apart = λ x. ch.others x x (λ e f. ne (sym e ∙ f)) (λ e f. ne (sym f ∙ e)) ∙ are.apart x;
}

changed_at : (rows rows' : List NodeIds) (a b : ℕ) (now : Bool) → a ≢ b → Changes rows rows' a b now → AreMutual rows → contains (pairs_of rows') (pair a b) ≡ now
changed_at rows rows' a b now ne ch are = linked-is rows' a b (changed_mutual rows rows' a b now ne ch are) ∙ ch.here

changed_else : (rows rows' : List NodeIds) (a b : ℕ) (now : Bool) → Changes rows rows' a b now → (p : ℕ × ℕ) → p ≢ pair a b → contains (pairs_of rows') p ≡ contains (pairs_of rows) p
changed_else rows rows' a b now ch p off = elim (cases_lt p.0 p.1) [
  | inl up ↦
      pairs-has rows' p.0 p.1 up
      ∙ ch.others p.1 p.0
      (λ e f. off (let lt : b < a = omega arith in (λ i. (f i, e i)) ∙ sym (pair-down a b lt)))
      (λ e f. off (let lt : a < b = omega arith in (λ i. (f i, e i)) ∙ sym (pair_up a b lt)))
      ∙ sym (pairs-has rows p.0 p.1 up)
  | inr le ↦ pairs-not rows' p.0 p.1 le ∙ sym (pairs-not rows p.0 p.1 le)
]

pub joined_pairs : (rows rows' : List NodeIds) (a b : ℕ) → a ≢ b → Changes rows rows' a b true → AreMutual rows → pairs_of rows' ≡ insert (pairs_of rows) (pair a b)
joined_pairs rows rows' a b ne ch are = same_set pair_cmp_total same_pair (pairs_of rows') (insert (pairs_of rows) (pair a b)) (λ q.
    elim (cases_pair q (pair a b)) [
      | inl e ↦ ap (contains (pairs_of rows')) e ∙ changed_at rows rows' a b true ne ch are ∙ sym (insert_here pair_cmp_total same_pair (pairs_of rows) (pair a b)) ∙ ap (contains (insert (pairs_of rows) (pair a b))) (sym e)
      | inr off ↦ changed_else rows rows' a b true ch q off ∙ sym (insert_other pair_cmp_total same_pair (pairs_of rows) (pair a b) q off)
    ])

pub joined_graph : (rows rows' : List NodeIds) (a b : ℕ) → a ≢ b → Changes rows rows' a b true → AreMutual rows → graph_of rows' ≡ record (graph_of rows) { pairs = insert (pairs_of rows) (pair a b) }
joined_graph rows rows' a b ne ch are = let size = ch.size in let pairs = joined_pairs rows rows' a b ne ch are in λ i. record { size = size i; pairs = pairs i }

pub parted_pairs : (rows rows' : List NodeIds) (a b : ℕ) → a ≢ b → Changes rows rows' a b false → AreMutual rows → pairs_of rows' ≡ remove (pairs_of rows) (pair a b)
parted_pairs rows rows' a b ne ch are = same_set pair_cmp_total same_pair (pairs_of rows') (remove (pairs_of rows) (pair a b)) (λ q.
    elim (cases_pair q (pair a b)) [
      | inl e ↦ ap (contains (pairs_of rows')) e ∙ changed_at rows rows' a b false ne ch are ∙ sym (remove_here pair_cmp_total same_pair (pairs_of rows) (pair a b)) ∙ ap (contains (remove (pairs_of rows) (pair a b))) (sym e)
      | inr off ↦ changed_else rows rows' a b false ch q off ∙ sym (remove_other pair_cmp_total same_pair (pairs_of rows) (pair a b) q off)
    ])

pub parted_graph : (rows rows' : List NodeIds) (a b : ℕ) → a ≢ b → Changes rows rows' a b false → AreMutual rows → graph_of rows' ≡ record (graph_of rows) { pairs = remove (pairs_of rows) (pair a b) }
parted_graph rows rows' a b ne ch are = let size = ch.size in let pairs = parted_pairs rows rows' a b ne ch are in λ i. record { size = size i; pairs = pairs i }

-- ---- no links

row-replicate : (n a : ℕ) → row (replicate n empty) a ≡ empty
row-replicate zero zero = refl
row-replicate zero (suc a) = refl
row-replicate (suc n) zero = refl
row-replicate (suc n) (suc a) = row-replicate n a

none : (n a q : ℕ) → contains (row (replicate n empty) a) q ≡ false
none n a q = ap (λ (s : NodeIds). contains s q) (row-replicate n a) ∙ contains-empty nat_cmp q

pub length-none : (n : ℕ) → length (replicate {A = NodeIds} n empty) ≡ n
length-none zero = refl
length-none (suc n) = ap (λ (k : ℕ). suc k) (length-none n)

pub none_mutual : (n : ℕ) → n ≤ 200 → AreMutual (replicate n empty)
none_mutual n le = record { few = omega (arith, length-none n); both_ways = λ a b. none n a b ∙ sym (none n b a); apart = λ a. none n a a }

none_pairs : (k n : ℕ) → pairs_below k (replicate n empty) ≡ empty
none_pairs k n = same_set pair_cmp_total same_pair (pairs_below k (replicate n empty)) empty (λ q. pairs_below-miss k (replicate n empty) q.0 q.1 (λ _ _. none n q.1 q.0) ∙ sym (contains-empty pair_cmp q))

pub none_graph : (n : ℕ) → graph_of (replicate n empty) ≡ record { size = n; pairs = empty }
none_graph n = let size = length-none n in let pairs = none_pairs (length (replicate {A = NodeIds} n empty)) n in λ i. record { size = size i; pairs = pairs i }
