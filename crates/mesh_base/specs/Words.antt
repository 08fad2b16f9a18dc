-- The bits of words, and the words of a set.
use Rattle.std.proofs.Common.{◌≡◌, ◌<◌, ℕ, zero, suc, ◌+◌, ◌-◌, ◌*◌, ◌/◌, ◌%◌, ◌^◌, Bool, true, false, cond, eqb, ltb, ◌&&◌, List, [], ◌∷◌, slice_index, refl, sym, ap, ◌∙◌, eq-eqb, arith, inl, inr}
use Rattle.std.proofs.lemmas.Bool.{ne_eqb, cases_lt, cases_eq, le-ltb, lt-ltb}
use Rattle.std.proofs.lemmas.Nat.Bits.{bit_at-zero, bit_at_cat_low, bit_at_cat_high, same_from_bits_below, bit_at-lt}
use Rattle.std.proofs.Math.Nat.{pow-succ'}
use Rattle.std.proofs.lemmas.Cmp.{nat_cmp_total}
use Rattle.std.proofs.lemmas.List.{get_or_past}
use Rattle.std.specs.Cmp.{unsigned_tied}
use Rattle.std.specs.Ordering.{nat_cmp}
use Rattle.std.specs.Int.{bit_at}
use Rattle.std.specs.FinSet.{insert, contains, contains-empty, contains-insert}
use Rattle.mesh_base.specs.Members.{NodeIds, number_of, bits_below, members, number_below, words_of, AreWords}

-- whether the words have a bit at q
abbrev pub has_bit : List ℕ → ℕ → Bool
has_bit ws q = eqb (bit_at (slice_index ws (q / 64)) (q % 64)) 1

abbrev Fit : List ℕ → Type 0
Fit ws = (i : ℕ) → slice_index ws i < 2 ^ 64

Fit-rest : (w : ℕ) (ws : List ℕ) → Fit (w ∷ ws) → Fit ws
Fit-rest w ws fit i = fit (suc i)

bit_at-number_of : (ws : List ℕ) (i : ℕ) → Fit ws
    → bit_at (number_of ws) i ≡ bit_at (slice_index ws (i / 64)) (i % 64)
bit_at-number_of [] i fit = bit_at-zero i ∙ sym (bit_at-zero (i % 64))
bit_at-number_of (w ∷ ws) i fit =
    elim (cases_lt i 64) [
      | inl lt ↦
          let first : i / 64 ≡ 0 = omega arith in
          let same : i % 64 ≡ i = omega arith in
          rw (first, same) (bit_at_cat_low (number_of ws) 64 w i lt)
      | inr le ↦
          let next : i / 64 ≡ suc ((i - 64) / 64) = omega arith in
          let same : i % 64 ≡ (i - 64) % 64 = omega arith in
          let w-fits : w < 2 ^ 64 = fit 0 in
          bit_at_cat_high (number_of ws) 64 w i w-fits le ∙ rw (next, same)
          (bit_at-number_of ws (i - 64) (Fit-rest w ws fit))
    ]

added : (b : Bool) (s : NodeIds) (k n q : ℕ) → eqb (bit_at n k) 1 ≡ b
    → contains s q ≡ (ltb q k && eqb (bit_at n q) 1)
    → contains (cond b (insert s k) s) q ≡ (ltb q (suc k) && eqb (bit_at n q) 1)
added true s k n q is below =
    elim (cases_eq q k) [
      | inl same ↦ contains-insert nat_cmp_total s k q ∙ rw (unsigned_tied q k, eq-eqb q k same, same, lt-ltb k (suc k) (omega arith), is) refl
      | inr other ↦
          let later : ltb q k ≡ ltb q (suc k) = elim
          (cases_lt q k) [ inl lt ↦ lt-ltb q k lt ∙ sym (lt-ltb q (suc k) (omega arith)) | inr le ↦ le-ltb q k le ∙ sym (le-ltb q (suc k) (omega arith)) ] in
          contains-insert nat_cmp_total s k q ∙ rw
          (unsigned_tied q k, ne_eqb q k other, below, later) refl
    ]
added false s k n q is below =
    elim (cases_eq q k) [
      | inl same ↦ below ∙ rw (same, is, le-ltb k k (omega arith), lt-ltb k (suc k) (omega arith)) refl
      | inr other ↦
          let later : ltb q k ≡ ltb q (suc k) = elim
          (cases_lt q k) [ inl lt ↦ lt-ltb q k lt ∙ sym (lt-ltb q (suc k) (omega arith)) | inr le ↦ le-ltb q k le ∙ sym (le-ltb q (suc k) (omega arith)) ] in
          below ∙ ap (λ (t : Bool). t && eqb (bit_at n q) 1) later
    ]

pub contains-bits_below : (k n q : ℕ)
    → contains (bits_below k n) q ≡ (ltb q k && eqb (bit_at n q) 1)
unfolding bits_below
contains-bits_below zero n q =
    contains-empty nat_cmp q ∙ ap (λ (t : Bool). t && eqb (bit_at n q) 1)
    (sym (le-ltb q 0 (omega arith)))
contains-bits_below (suc k) n q =
    added (eqb (bit_at n k) 1) (bits_below k n) k n q refl (contains-bits_below k n q)

-- the members of words are their bits
pub contains-members : (ws : List ℕ) (q : ℕ) → AreWords ws → contains (members ws) q ≡ has_bit ws q
unfolding members
contains-members ws q are =
    elim (cases_lt q 256) [
      | inl lt ↦ contains-bits_below 256 (number_of ws) q ∙ rw (lt-ltb q 256 lt, bit_at-number_of ws q are.fit) refl
      | inr le ↦
          let past : slice_index ws (q / 64) ≡ 0 = get_or_past ws (q / 64) 0
          (omega (arith, are.four)) in
          contains-bits_below 256 (number_of ws) q ∙ rw
          (le-ltb q 256 le, past, bit_at-zero (q % 64)) refl
    ]

-- ---- the words of a set

bit_is : (x : ℕ) → x < 2 → cond (eqb x 1) 1 0 ≡ x
bit_is zero lt = refl
bit_is (suc zero) lt = refl
bit_is (suc (suc x)) lt = absurd (omega arith)

number_below-lt : (k : ℕ) (s : NodeIds) → number_below k s < 2 ^ k
unfolding number_below
number_below-lt zero s = omega arith
number_below-lt (suc k) s =
    let ih = number_below-lt k s in
    let two : 2 ^ suc k ≡ 2 * 2 ^ k = pow-succ' 2 k in
    rw two
    (elim (contains s k) as (λ b. cond b 1 0 * 2 ^ k + number_below k s < 2 * 2 ^ k) [ true ↦ omega arith | false ↦ omega arith ])

bit_at-number_below : (k : ℕ) (s : NodeIds) (i : ℕ) → i < k
    → bit_at (number_below k s) i ≡ cond (contains s i) 1 0
unfolding number_below
bit_at-number_below zero s i h = absurd (omega arith)
bit_at-number_below (suc k) s i h =
    elim (cases_lt i k) [
      | inl lt ↦ bit_at_cat_low (cond (contains s k) 1 0) k (number_below k s) i lt ∙ bit_at-number_below k s i lt
      | inr le ↦
          let same : i ≡ k = omega arith in
          let none : k - k ≡ 0 = omega arith in
          rw same
          (bit_at_cat_high (cond (contains s k) 1 0) k (number_below k s) k (number_below-lt k s) (omega arith) ∙ rw none (elim (contains s k) as (λ b. bit_at (cond b 1 0) 0 ≡ cond b 1 0) [ true ↦ refl | false ↦ refl ]))
    ]

number_again : (n : ℕ) → n < 2 ^ 256 → number_below 256 (bits_below 256 n) ≡ n
number_again n h =
    same_from_bits_below 256 (number_below 256 (bits_below 256 n)) n
    (number_below-lt 256 (bits_below 256 n)) h (λ i lt.
    bit_at-number_below 256 (bits_below 256 n) i lt
    ∙ ap (λ (b : Bool). cond b 1 0)
    (contains-bits_below 256 n i ∙ ap (λ (t : Bool). t && eqb (bit_at n i) 1) (lt-ltb i 256 lt))
    ∙ bit_is (bit_at n i) (bit_at-lt n i))

four_again : (a b c d : ℕ) → a < 2 ^ 64 → b < 2 ^ 64 → c < 2 ^ 64 → d < 2 ^ 64
    → words_of (members (a ∷ b ∷ c ∷ d ∷ [])) ≡ a ∷ b ∷ c ∷ d ∷ []
unfolding members
four_again a b c d ha hb hc hd =
    let n = number_of (a ∷ b ∷ c ∷ d ∷ []) in
    let small : n < 2 ^ 256 = omega arith in
    let again : number_below 256 (bits_below 256 n) ≡ n = number_again n small in
    let ea : n % 2 ^ 64 ≡ a = omega arith in
    let eb : n / 2 ^ 64 % 2 ^ 64 ≡ b = omega arith in
    let ec : n / 2 ^ 128 % 2 ^ 64 ≡ c = omega arith in
    let ed : n / 2 ^ 192 % 2 ^ 64 ≡ d = omega arith in
    rw (again, ea, eb, ec, ed) refl

-- the set gives its words back
pub words_again : (ws : List ℕ) → AreWords ws → words_of (members ws) ≡ ws
words_again [] are = absurd (omega (arith, are.four))
words_again (a ∷ []) are = absurd (omega (arith, are.four))
words_again (a ∷ b ∷ []) are = absurd (omega (arith, are.four))
words_again (a ∷ b ∷ c ∷ []) are = absurd (omega (arith, are.four))
words_again (a ∷ b ∷ c ∷ d ∷ []) are =
    four_again a b c d (are.fit 0) (are.fit 1) (are.fit 2) (are.fit 3)
words_again (a ∷ b ∷ c ∷ d ∷ e ∷ ws) are = absurd (omega (arith, are.four))
