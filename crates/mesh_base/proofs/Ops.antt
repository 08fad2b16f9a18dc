-- What the calls do to the members.
use Rattle.std.proofs.Common.{◌≡◌, ◌≢◌, ◌<◌, ◌≤◌, ℕ, zero, suc, ◌-◌, ◌*◌, ◌/◌, ◌%◌, ◌^◌, min, max, Bool, true, false, eqb, ◌&&◌, ◌||◌, not, bit_and, bit_or, List, [], ◌∷◌, length, set, slice_index, refl, sym, ap, ◌∙◌, eq-eqb, arith, inl, inr, w64}
use Rattle.std.proofs.lemmas.Bool.{ne_eqb, cases_lt, cases_eq}
use Rattle.std.proofs.lemmas.Cmp.{nat_cmp_total}
use Rattle.std.proofs.lemmas.List.{get_or-set_same, get_or-set_other, length-set, get_or_past}
use Rattle.std.proofs.lemmas.Nat.{or_lt, and_le_l}
use Rattle.std.proofs.lemmas.Nat.Bits.{bit_at-zero, bit_at-lt, bit_at_or, bit_at_and, bit_at_not, bit_at_set_same, bit_at_set_other, bit_at_clear_same, bit_at_clear_other, shr_and_one}
use Rattle.std.specs.Cmp.{unsigned_tied}
use Rattle.std.specs.Ordering.{nat_cmp}
use Rattle.std.specs.Int.{bit_at, bit_not}
use Rattle.std.specs.FinMap.{nat_cmp-IsAntisymmetric}
use Rattle.std.specs.FinSet.{empty, insert, remove, union, intersection, difference, contains, contains-empty, contains-insert, contains-remove, contains-union, contains-intersection, contains-difference, same_set}
use Rattle.mesh_base.specs.Members.{NodeIds, members, AreWords}
use Rattle.mesh_base.specs.Words.{has_bit, contains-members}

same : (s t : NodeIds) → ((q : ℕ) → contains s q ≡ contains t q) → s ≡ t
same s t each = same_set nat_cmp_total nat_cmp-IsAntisymmetric s t each

-- four words, made one by one
abbrev pub four : (ℕ → ℕ) → List ℕ
four f = f 0 ∷ f 1 ∷ f 2 ∷ f 3 ∷ []

four_at : (f : ℕ → ℕ) (j : ℕ) → j < 4 → slice_index (four f) j ≡ f j
four_at f zero h = refl
four_at f (suc zero) h = refl
four_at f (suc (suc zero)) h = refl
four_at f (suc (suc (suc zero))) h = refl
four_at f (suc (suc (suc (suc j)))) h = absurd (omega arith)

four_past : (f : ℕ → ℕ) (j : ℕ) → 4 ≤ j → slice_index (four f) j ≡ 0
four_past f j h = get_or_past (four f) j 0 h

pub four_are : (f : ℕ → ℕ) → ((j : ℕ) → f j < 2 ^ 64) → AreWords (four f)
four_are f fits = record {
  four = refl;
  fit = λ j. elim (cases_lt j 4) [ inl lt ↦ rw (four_at f j lt) (fits j) | inr le ↦ rw (four_past f j le) (omega arith) ];
}

pub new_is : members (0 ∷ 0 ∷ 0 ∷ 0 ∷ []) ≡ empty
new_is = same _ _ (λ q.
    let zero_at : slice_index (four (λ _. 0)) (q / 64) ≡ 0 = elim (cases_lt (q / 64) 4) [ inl lt ↦ four_at (λ _. 0) (q / 64) lt | inr le ↦ four_past (λ _. 0) (q / 64) le ] in
    contains-members (four (λ _. 0)) q (four_are (λ _. 0) (λ j. omega arith)) ∙ rw (zero_at, bit_at-zero (q % 64)) (sym (contains-empty nat_cmp q)))

-- the test of a bit, as the code makes it
pub has_is : (ws : List ℕ) (i : ℕ) → AreWords ws → eqb (bit_and (slice_index ws (i / 64) / 2 ^ (i % 64)) 1) 1 ≡ contains (members ws) i
has_is ws i are = rw (shr_and_one (slice_index ws (i / 64)) (i % 64)) (sym (contains-members ws i are))

pub has_not : (ws : List ℕ) (i : ℕ) → AreWords ws → 256 ≤ i → false ≡ contains (members ws) i
has_not ws i are le =
    let past : slice_index ws (i / 64) ≡ 0 = get_or_past ws (i / 64) 0 (omega (arith, are.four)) in
    sym (contains-members ws i are ∙ rw (past, bit_at-zero (i % 64)) refl)

abbrev with_bit : List ℕ → ℕ → List ℕ
with_bit ws i = set ws (i / 64) (bit_or (slice_index ws (i / 64)) (1 * 2 ^ (i % 64) % 2 ^ 64))

pub add_are : (ws : List ℕ) (i : ℕ) → AreWords ws → i < 256 → AreWords (with_bit ws i)
add_are ws i are lt = record {
  four = length-set ws (i / 64) _ ∙ are.four;
  fit = λ j. elim (cases_eq j (i / 64)) [
    | inl here ↦
        let within : i / 64 < length ws = omega (arith, are.four) in
        rw (here, get_or-set_same ws (i / 64) (bit_or (slice_index ws (i / 64)) (1 * 2 ^ (i % 64) % 2 ^ 64)) 0 within) (or_lt 64 _ _ (are.fit (i / 64)) (omega arith))
    | inr other ↦ rw (get_or-set_other ws (i / 64) j (bit_or (slice_index ws (i / 64)) (1 * 2 ^ (i % 64) % 2 ^ 64)) 0 other) (are.fit j)
  ];
}

pub add_is : (ws : List ℕ) (i : ℕ) → AreWords ws → i < 256 → members (with_bit ws i) ≡ insert (members ws) i
add_is ws i are lt = same _ _ (λ q.
    let within : i / 64 < length ws = omega (arith, are.four) in
    let v = bit_or (slice_index ws (i / 64)) (1 * 2 ^ (i % 64) % 2 ^ 64) in
    let after : contains (members (with_bit ws i)) q ≡ has_bit (with_bit ws i) q = contains-members (with_bit ws i) q (add_are ws i are lt) in
    let before : contains (insert (members ws) i) q ≡ (eqb q i || has_bit ws q) = contains-insert nat_cmp_total (members ws) i q ∙ rw (unsigned_tied q i, contains-members ws q are) refl in
    elim (cases_eq q i) [
      | inl is ↦
          let bit : has_bit (with_bit ws i) i ≡ true = rw (get_or-set_same ws (i / 64) v 0 within, bit_at_set_same w64 (slice_index ws (i / 64)) (i % 64) (omega arith)) refl in
          after ∙ ap (has_bit (with_bit ws i)) is ∙ bit ∙ sym (before ∙ ap (λ (t : Bool). t || has_bit ws q) (eq-eqb q i is))
      | inr not ↦
          let stays : has_bit (with_bit ws i) q ≡ has_bit ws q =
          elim (cases_eq (q / 64) (i / 64)) [
            | inl here ↦
                let bits : q % 64 ≢ i % 64 = λ e. not (omega arith) in
                rw (here, get_or-set_same ws (i / 64) v 0 within, bit_at_set_other w64 (slice_index ws (i / 64)) (i % 64) (omega arith) (q % 64) bits) refl
            | inr other ↦ rw (get_or-set_other ws (i / 64) (q / 64) v 0 other) refl
          ] in
          after ∙ stays ∙ sym (before ∙ ap (λ (t : Bool). t || has_bit ws q) (ne_eqb q i not))
    ])

abbrev cleared : List ℕ → ℕ → ℕ
cleared ws i = bit_and (slice_index ws (i / 64)) (bit_not w64 (1 * 2 ^ (i % 64) % 2 ^ 64))

abbrev without_bit : List ℕ → ℕ → List ℕ
without_bit ws i = set ws (i / 64) (cleared ws i)

pub remove_are : (ws : List ℕ) (i : ℕ) → AreWords ws → i < 256 → AreWords (without_bit ws i)
remove_are ws i are lt = record {
  four = length-set ws (i / 64) _ ∙ are.four;
  fit = λ j. elim (cases_eq j (i / 64)) [
    | inl here ↦
        let within : i / 64 < length ws = omega (arith, are.four) in
        let small = and_le_l (slice_index ws (i / 64)) (bit_not w64 (1 * 2 ^ (i % 64) % 2 ^ 64)) in
        let fit = are.fit (i / 64) in
        rw (here, get_or-set_same ws (i / 64) (cleared ws i) 0 within) (omega (arith, small, fit))
    | inr other ↦ rw (get_or-set_other ws (i / 64) j (cleared ws i) 0 other) (are.fit j)
  ];
}

pub remove_is : (ws : List ℕ) (i : ℕ) → AreWords ws → i < 256 → members (without_bit ws i) ≡ remove (members ws) i
remove_is ws i are lt = same _ _ (λ q.
    let within : i / 64 < length ws = omega (arith, are.four) in
    let v = cleared ws i in
    let after : contains (members (without_bit ws i)) q ≡ has_bit (without_bit ws i) q = contains-members (without_bit ws i) q (remove_are ws i are lt) in
    let before : contains (remove (members ws) i) q ≡ (not (eqb q i) && has_bit ws q) = contains-remove nat_cmp_total (members ws) i q ∙ rw (unsigned_tied q i, contains-members ws q are) refl in
    elim (cases_eq q i) [
      | inl is ↦
          let bit : has_bit (without_bit ws i) i ≡ false = rw (get_or-set_same ws (i / 64) v 0 within, bit_at_clear_same w64 (slice_index ws (i / 64)) (i % 64) (omega arith)) refl in
          after ∙ ap (has_bit (without_bit ws i)) is ∙ bit ∙ sym (before ∙ ap (λ (t : Bool). not t && has_bit ws q) (eq-eqb q i is))
      | inr not_it ↦
          let stays : has_bit (without_bit ws i) q ≡ has_bit ws q =
          elim (cases_eq (q / 64) (i / 64)) [
            | inl here ↦
                let bits : q % 64 ≢ i % 64 = λ e. not_it (omega arith) in
                rw (here, get_or-set_same ws (i / 64) v 0 within, bit_at_clear_other w64 (slice_index ws (i / 64)) (i % 64) (omega arith) (q % 64) (omega arith) bits) refl
            | inr other ↦ rw (get_or-set_other ws (i / 64) (q / 64) v 0 other) refl
          ] in
          after ∙ stays ∙ sym (before ∙ ap (λ (t : Bool). not t && has_bit ws q) (ne_eqb q i not_it))
    ])

or_bit : (x y : ℕ) → x < 2 → y < 2 → eqb (max x y) 1 ≡ (eqb x 1 || eqb y 1)
or_bit zero zero hx hy = refl
or_bit zero (suc zero) hx hy = refl
or_bit (suc zero) zero hx hy = refl
or_bit (suc zero) (suc zero) hx hy = refl
or_bit (suc (suc x)) y hx hy = absurd (omega arith)
or_bit zero (suc (suc y)) hx hy = absurd (omega arith)
or_bit (suc zero) (suc (suc y)) hx hy = absurd (omega arith)

and_bit : (x y : ℕ) → x < 2 → y < 2 → eqb (min x y) 1 ≡ (eqb x 1 && eqb y 1)
and_bit zero zero hx hy = refl
and_bit zero (suc zero) hx hy = refl
and_bit (suc zero) zero hx hy = refl
and_bit (suc zero) (suc zero) hx hy = refl
and_bit (suc (suc x)) y hx hy = absurd (omega arith)
and_bit zero (suc (suc y)) hx hy = absurd (omega arith)
and_bit (suc zero) (suc (suc y)) hx hy = absurd (omega arith)

abbrev pub or_at : List ℕ → List ℕ → ℕ → ℕ
or_at a b j = bit_or (slice_index a j) (slice_index b j)

abbrev pub and_at : List ℕ → List ℕ → ℕ → ℕ
and_at a b j = bit_and (slice_index a j) (slice_index b j)

four_bit : (f : ℕ → ℕ) (ws : List ℕ) (q : ℕ) → ((j : ℕ) → 4 ≤ j → f j ≡ 0) → has_bit (four f) q ≡ eqb (bit_at (f (q / 64)) (q % 64)) 1
four_bit f ws q past = elim (cases_lt (q / 64) 4) [
  | inl lt ↦ rw (four_at f (q / 64) lt) refl
  | inr le ↦ rw (four_past f (q / 64) le, past (q / 64) le) refl
]

pub join_are : (a b : List ℕ) → AreWords a → AreWords b → AreWords (four (or_at a b))
join_are a b aa ab = four_are (or_at a b) (λ j. or_lt 64 _ _ (aa.fit j) (ab.fit j))

pub join_is : (a b : List ℕ) → AreWords a → AreWords b → members (four (or_at a b)) ≡ union (members a) (members b)
join_is a b aa ab = same _ _ (λ q.
    let past : (j : ℕ) → 4 ≤ j → or_at a b j ≡ 0 = λ j le. rw (get_or_past a j 0 (omega (arith, aa.four)), get_or_past b j 0 (omega (arith, ab.four))) refl in
    contains-members (four (or_at a b)) q (join_are a b aa ab)
    ∙ four_bit (or_at a b) a q past
    ∙ ap (λ (n : ℕ). eqb n 1) (bit_at_or (slice_index a (q / 64)) (slice_index b (q / 64)) (q % 64))
    ∙ or_bit _ _ (bit_at-lt (slice_index a (q / 64)) (q % 64)) (bit_at-lt (slice_index b (q / 64)) (q % 64))
    ∙ sym (contains-union nat_cmp_total (members a) (members b) q ∙ rw (contains-members a q aa, contains-members b q ab) refl))

pub meet_are : (a b : List ℕ) → AreWords a → AreWords b → AreWords (four (and_at a b))
meet_are a b aa ab = four_are (and_at a b) (λ j. let small = and_le_l (slice_index a j) (slice_index b j) in let fit = aa.fit j in omega arith)

and_zero : (x y : ℕ) → x ≡ 0 → bit_and x y ≡ 0
and_zero x y e = let small = and_le_l x y in omega arith

pub meet_is : (a b : List ℕ) → AreWords a → AreWords b → members (four (and_at a b)) ≡ intersection (members a) (members b)
meet_is a b aa ab = same _ _ (λ q.
    let past : (j : ℕ) → 4 ≤ j → and_at a b j ≡ 0 = λ j le. and_zero (slice_index a j) (slice_index b j) (get_or_past a j 0 (omega (arith, aa.four))) in
    contains-members (four (and_at a b)) q (meet_are a b aa ab)
    ∙ four_bit (and_at a b) a q past
    ∙ ap (λ (n : ℕ). eqb n 1) (bit_at_and (slice_index a (q / 64)) (slice_index b (q / 64)) (q % 64))
    ∙ and_bit _ _ (bit_at-lt (slice_index a (q / 64)) (q % 64)) (bit_at-lt (slice_index b (q / 64)) (q % 64))
    ∙ sym (contains-intersection nat_cmp_total (members a) (members b) q ∙ rw (contains-members a q aa, contains-members b q ab) refl))

abbrev pub but_at : List ℕ → List ℕ → ℕ → ℕ
but_at a b j = bit_and (slice_index a j) (bit_not w64 (slice_index b j))

but_bit : (x y : ℕ) → x < 2 → y < 2 → eqb (min x (1 - y)) 1 ≡ (eqb x 1 && not (eqb y 1))
but_bit zero zero hx hy = refl
but_bit zero (suc zero) hx hy = refl
but_bit (suc zero) zero hx hy = refl
but_bit (suc zero) (suc zero) hx hy = refl
but_bit (suc (suc x)) y hx hy = absurd (omega arith)
but_bit zero (suc (suc y)) hx hy = absurd (omega arith)
but_bit (suc zero) (suc (suc y)) hx hy = absurd (omega arith)

pub leave_are : (a b : List ℕ) → AreWords a → AreWords b → AreWords (four (but_at a b))
leave_are a b aa ab = four_are (but_at a b) (λ j. let small = and_le_l (slice_index a j) (bit_not w64 (slice_index b j)) in let fit = aa.fit j in omega arith)

but_zero : (x y : ℕ) → x ≡ 0 → bit_and x (bit_not w64 y) ≡ 0
but_zero x y e = let small = and_le_l x (bit_not w64 y) in omega arith

pub leave_is : (a b : List ℕ) → AreWords a → AreWords b → members (four (but_at a b)) ≡ difference (members a) (members b)
leave_is a b aa ab = same _ _ (λ q.
    let past : (j : ℕ) → 4 ≤ j → but_at a b j ≡ 0 = λ j le. but_zero (slice_index a j) (slice_index b j) (get_or_past a j 0 (omega (arith, aa.four))) in
    contains-members (four (but_at a b)) q (leave_are a b aa ab)
    ∙ four_bit (but_at a b) a q past
    ∙ ap (λ (n : ℕ). eqb n 1) (bit_at_and (slice_index a (q / 64)) (bit_not w64 (slice_index b (q / 64))) (q % 64))
    ∙ ap (λ (n : ℕ). eqb (min (bit_at (slice_index a (q / 64)) (q % 64)) n) 1) (bit_at_not w64 (slice_index b (q / 64)) (q % 64) (ab.fit (q / 64)) (omega arith))
    ∙ but_bit _ _ (bit_at-lt (slice_index a (q / 64)) (q % 64)) (bit_at-lt (slice_index b (q / 64)) (q % 64))
    ∙ sym (contains-difference nat_cmp_total (members a) (members b) q ∙ rw (contains-members a q aa, contains-members b q ab) refl))
