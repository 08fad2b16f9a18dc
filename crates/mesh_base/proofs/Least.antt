-- The least member from an index on.
use Rattle.std.proofs.Common.{◌≡◌, ◌<◌, ◌≤◌, ℕ, ◌+◌, ◌-◌, ◌*◌, ◌/◌, ◌%◌, ◌^◌, true, false, eqb, List, slice_index, Some, None, refl, sym, ap, ◌∙◌, eq-eqb, arith, inl, inr, w64, pow-add}
use Rattle.std.proofs.Math.Nat.{div-div-eq-div-mul, div-le_self}
use Rattle.std.proofs.lemmas.Bool.{cases_lt, ne_eqb}
use Rattle.std.proofs.lemmas.List.{get_or_past}
use Rattle.std.proofs.lemmas.Nat.Bits.{bit_at-zero, bit_at-trailing_zeros, bit_at_above}
use Rattle.std.specs.Ordering.{nat_cmp}
use Rattle.std.specs.Int.{bit_at, trailing_zeros}
use Rattle.std.specs.FinSet.{contains, empty, contains-empty, same_set}
use Rattle.std.specs.FinMap.{nat_cmp-IsAntisymmetric}
use Rattle.std.proofs.lemmas.Cmp.{nat_cmp_total}
use Rattle.mesh_base.specs.Members.{NodeIds, members, AreWords, IsLeastBit, IsLeastFrom}
use Rattle.mesh_base.specs.Words.{has_bit, contains-members}

-- a bit of the shifted word
bit_at_shr : (w k i : ℕ) → bit_at (w / 2 ^ k) i ≡ bit_at w (k + i)
bit_at_shr w k i = ap (λ (n : ℕ). n % 2) (div-div-eq-div-mul w (2 ^ k) (2 ^ i) ∙ ap (λ (n : ℕ). w / n) (sym (pow-add 2 k i)))

pub no_bit : (w from : ℕ) → w / 2 ^ from ≡ 0 → IsLeastBit w from None
no_bit w from none q le =
    let index : from + (q - from) ≡ q = omega arith in
    sym (ap (bit_at w) index) ∙ sym (bit_at_shr w from (q - from)) ∙ ap (λ (n : ℕ). bit_at n (q - from)) none ∙ bit_at-zero (q - from)

pub lowest_bit : (w from : ℕ) → w < 2 ^ 64 → 0 < w / 2 ^ from → IsLeastBit w from (Some (from + trailing_zeros w64 (w / 2 ^ from)))
lowest_bit w from fits some =
    let rest = w / 2 ^ from in
    let t = trailing_zeros w64 rest in
    let less = div-le_self w (2 ^ from) in
    let lowest = bit_at-trailing_zeros w64 rest some (omega arith) in
    let one : bit_at w (from + t) ≡ 1 = sym (bit_at_shr w from t) ∙ lowest.1 in
    let within : from + t < 64 = elim (cases_lt (from + t) 64) [ inl lt ↦ lt | inr le ↦ let none = bit_at_above w 64 (from + t) fits le in absurd (omega arith) ] in (
      omega arith,
      within,
      one,
      λ q le lt.
          let index : from + (q - from) ≡ q = omega arith in
          sym (ap (bit_at w) index) ∙ sym (bit_at_shr w from (q - from)) ∙ lowest.2 (q - from) (omega arith),
    )

-- the words have no bit from i up to n
abbrev pub NoneUpTo : List ℕ → ℕ → ℕ → Type 0
NoneUpTo ws i n = (q : ℕ) → i ≤ q → q < n → has_bit ws q ≡ false

-- the index of a bit in its word
bit_in_word : (ws : List ℕ) (k p : ℕ) → p < 64 → has_bit ws (64 * k + p) ≡ eqb (bit_at (slice_index ws k) p) 1
bit_in_word ws k p lt =
    let word : (64 * k + p) / 64 ≡ k = omega arith in
    let index : (64 * k + p) % 64 ≡ p = omega arith in
    rw (word, index) refl

no_bit_there : (ws : List ℕ) (k p : ℕ) → p < 64 → bit_at (slice_index ws k) p ≡ 0 → has_bit ws (64 * k + p) ≡ false
no_bit_there ws k p lt e = bit_in_word ws k p lt ∙ ne_eqb (bit_at (slice_index ws k) p) 1 (λ one. omega arith)

pub found : (ws : List ℕ) (i k from index : ℕ) → AreWords ws → i ≤ 64 * k + from → NoneUpTo ws i (64 * k + from) → IsLeastBit (slice_index ws k) from (Some index) → IsLeastFrom (members ws) i (Some (64 * k + index))
found ws i k from index are before none least = (
  omega (arith, least.0),
  contains-members ws (64 * k + index) are ∙ bit_in_word ws k index least.1 ∙ eq-eqb _ _ least.2,
  λ q le lt. contains-members ws q are ∙ elim (cases_lt q (64 * k + from)) [
    | inl early ↦ none q le early
    | inr late ↦
        let at : 64 * k + (q - 64 * k) ≡ q = omega arith in
        sym (ap (has_bit ws) at) ∙ no_bit_there ws k (q - 64 * k) (omega (arith, least.1)) (least.3 (q - 64 * k) (omega arith) (omega arith))
  ],
)

pub missed : (ws : List ℕ) (i k from : ℕ) → NoneUpTo ws i (64 * k + from) → IsLeastBit (slice_index ws k) from None → NoneUpTo ws i (64 * (k + 1))
missed ws i k from none empty q le lt =
    elim (cases_lt q (64 * k + from)) [
      | inl early ↦ none q le early
      | inr late ↦
          let at : 64 * k + (q - 64 * k) ≡ q = omega arith in
          sym (ap (has_bit ws) at) ∙ no_bit_there ws k (q - 64 * k) (omega arith) (empty (q - 64 * k) (omega arith))
    ]

pub ended : (ws : List ℕ) (i : ℕ) → AreWords ws → NoneUpTo ws i 256 → IsLeastFrom (members ws) i None
ended ws i are none q le =
    contains-members ws q are ∙ elim (cases_lt q 256) [
      | inl lt ↦ none q le lt
      | inr past ↦ let zero_word : slice_index ws (q / 64) ≡ 0 = get_or_past ws (q / 64) 0 (omega (arith, are.four)) in rw (zero_word, bit_at-zero (q % 64)) refl
    ]

pub none_from_empty : (s : NodeIds) → IsLeastFrom s 0 None → s ≡ empty
none_from_empty s none = same_set nat_cmp_total nat_cmp-IsAntisymmetric s empty (λ q. none q (omega arith) ∙ sym (contains-empty nat_cmp q))

pub some_not_empty : (s : NodeIds) (m : ℕ) → IsLeastFrom s 0 (Some m) → s ≡ empty → ⊥
some_not_empty s m some e =
    let one : contains (empty {R = nat_cmp}) m ≡ true = sym (ap (λ (t : NodeIds). contains t m) e) ∙ some.1 in
    let none : contains (empty {R = nat_cmp}) m ≡ false = contains-empty nat_cmp m in
    cc
