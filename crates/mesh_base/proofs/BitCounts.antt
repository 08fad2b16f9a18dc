-- Counts of bits, and the members that they count.
use Rattle.std.proofs.Common.{◌≡◌, ◌<◌, ◌≤◌, ℕ, zero, suc, ◌+◌, ◌-◌, ◌*◌, ◌/◌, ◌%◌, ◌^◌, true, eqb, List, length, slice_index, Some, ap, sym, ◌∙◌, eq-eqb, arith, inl, inr}
use Rattle.std.specs.Prelude.{slice_get}
use Rattle.std.specs.FinSet.{contains}
use Rattle.std.specs.Int.{bit_at}
use Rattle.std.specs.Int.RustNames.{count_ones, bit_and}
use Rattle.std.proofs.lemmas.Bool.{ne_eqb, cases_eq}
use Rattle.std.proofs.lemmas.List.{length_push}
use Rattle.std.proofs.lemmas.Nat.{ones_cat, ones-le, mod-pow-add, pow_pos, shr-shr, one_shl, and_mask}
use Rattle.std.proofs.lemmas.Nat.Bits.{bit_at-lt}
use Rattle.std.proofs.Math.Nat.{mod-lt, mod-eq_of_lt}
use Rattle.std.specs.Int.Count.{ones_step}
use Rattle.mesh_base.specs.Members.{NodeIds, members, members_below, member_list, rank, AreWords}
use Rattle.mesh_base.specs.Words.{contains-members}
use Rattle.mesh_base.proofs.Ops.{has_not}
use Rattle.mesh_base.proofs.Ranks.{member-at, members-zero, members-none}

ones-zero : count_ones 0 ≡ 0
ones-zero = let few = ones-le 0 0 (omega arith) in omega arith

ones-bit : (b : ℕ) → b < 2 → count_ones b ≡ b
ones-bit b lt =
    let half : b / 2 ≡ 0 = omega arith in
    ones_step b ∙ ap (λ n. b % 2 + count_ones n) half ∙ (let none = ones-zero in omega arith)

pub split-ones : (x a b : ℕ) → count_ones (x % 2 ^ (a + b)) ≡ count_ones (x % 2 ^ a) + count_ones (x / 2 ^ a % 2 ^ b)
split-ones x a b =
    let swap : a + b ≡ b + a = omega arith in
    let cat = ones_cat a (x / 2 ^ a % 2 ^ b) (x % 2 ^ a) (mod-lt x (pow_pos a)) in
    ap (λ n. count_ones (x % 2 ^ n)) swap ∙ ap count_ones (mod-pow-add x b a) ∙ (omega arith)

one-more : (w p : ℕ) → count_ones (w % 2 ^ (p + 1)) ≡ count_ones (w % 2 ^ p) + bit_at w p
one-more w p = split-ones w p 1 ∙ ap (λ n. count_ones (w % 2 ^ p) + n) (ones-bit (bit_at w p) (bit_at-lt w p))

count-step : (s : NodeIds) (n b : ℕ) → b < 2 → contains s n ≡ eqb b 1 → length (members_below (suc n) s) ≡ length (members_below n s) + b
unfolding members_below
count-step s n b lt is = elim (cases_eq b 1) [
  | inl one ↦ rw (is, eq-eqb b 1 one) (omega (arith, length_push (members_below n s) n))
  | inr not ↦ rw (is, ne_eqb b 1 not) (omega arith)
]

pub word-count : (ws : List ℕ) (k p : ℕ) → AreWords ws → p ≤ 64 → length (members_below (64 * k + p) (members ws)) ≡ length (members_below (64 * k) (members ws)) + count_ones (slice_index ws k % 2 ^ p)
word-count ws k zero are le =
    let same : 64 * k + 0 ≡ 64 * k = omega arith in
    let low : slice_index ws k % 1 ≡ 0 = omega arith in
    let none = ap count_ones low ∙ ones-zero in
    ap (λ n. length (members_below n (members ws))) same ∙ (omega arith)
word-count ws k (suc p) are le =
    let w = slice_index ws k in
    let n = 64 * k + p in
    let next : 64 * k + suc p ≡ suc n = omega arith in
    let later : p + 1 ≡ suc p = omega arith in
    let word : n / 64 ≡ k = omega arith in
    let index : n % 64 ≡ p = omega arith in
    let bit : contains (members ws) n ≡ eqb (bit_at w p) 1 = contains-members ws n are ∙ ap (λ j. eqb (bit_at (slice_index ws j) (n % 64)) 1) word ∙ ap (λ j. eqb (bit_at w j) 1) index in
    let step = count-step (members ws) n (bit_at w p) (bit_at-lt w p) bit in
    let before = word-count ws k p are (omega arith) in
    let more = one-more w p in
    ap (λ j. length (members_below j (members ws))) next
    ∙ step
    ∙ (omega arith)
    ∙ ap (λ j. length (members_below (64 * k) (members ws)) + count_ones (w % 2 ^ j)) later

pub whole-word : (ws : List ℕ) (k : ℕ) → AreWords ws → length (members_below (64 * (k + 1)) (members ws)) ≡ length (members_below (64 * k) (members ws)) + count_ones (slice_index ws k)
whole-word ws k are =
    let next : 64 * (k + 1) ≡ 64 * k + 64 = omega arith in
    ap (λ j. length (members_below j (members ws))) next ∙ word-count ws k 64 are (omega arith)
    ∙ ap (λ n. length (members_below (64 * k) (members ws)) + count_ones n) (mod-eq_of_lt (are.fit k))

-- the bit of a word at an index with so many below it is the member of that rank
pub member-of-bit : (ws : List ℕ) (at p rest k : ℕ) → AreWords ws → at < 4 → p < 64 → bit_at (slice_index ws at) p ≡ 1 → count_ones (slice_index ws at % 2 ^ p) ≡ rest
    → length (members_below (64 * at) (members ws)) + rest ≡ k → slice_get (members_below 256 (members ws)) k ≡ Some (64 * at + p)
member-of-bit ws at p rest k are lt inside one below sum =
    let n = 64 * at + p in
    let word : n / 64 ≡ at = omega arith in
    let index : n % 64 ≡ p = omega arith in
    let bit : contains (members ws) n ≡ true = contains-members ws n are ∙ ap (λ j. eqb (bit_at (slice_index ws j) (n % 64)) 1) word ∙ ap (λ j. eqb (bit_at (slice_index ws at) j) 1) index ∙ eq-eqb (bit_at (slice_index ws at) p) 1 one in
    let count = word-count ws at p are (omega arith) in
    member-at n n k (members ws) (omega arith) (omega arith) bit (λ q le less. absurd (omega arith)) (omega arith)

-- ---- a bit by halves

pub halves-high : (w base half rest width : ℕ) → half ≤ width → rest < count_ones (w / 2 ^ base % 2 ^ width) → count_ones (w / 2 ^ base % 2 ^ half) ≤ rest
    → rest - count_ones (w / 2 ^ base % 2 ^ half) < count_ones (w / 2 ^ (base + half) % 2 ^ (width - half))
halves-high w base half rest width le lt more =
    let sum : half + (width - half) ≡ width = omega arith in
    let split = split-ones (w / 2 ^ base) half (width - half) in
    let all = ap (λ n. count_ones (w / 2 ^ base % 2 ^ n)) sum in
    let shift = ap (λ n. count_ones (n % 2 ^ (width - half))) (shr-shr w base half) in
    omega arith

pub halves-last : (w base rest width : ℕ) → width ≡ 1 → rest < count_ones (w / 2 ^ base % 2 ^ width) → (bit_at w base ≡ 1) × (rest ≡ 0)
halves-last w base rest width one lt =
    let last = ap (λ n. count_ones (w / 2 ^ base % 2 ^ n)) one in
    let bit = ones-bit (bit_at w base) (bit_at-lt w base) in
    let few = bit_at-lt w base in
    (omega arith, omega arith)

pub mask-is : (x h : ℕ) → h < 64 → bit_and x (1 * 2 ^ h % 2 ^ 64 - 1) ≡ x % 2 ^ h
mask-is x h lt = ap (λ n. bit_and x (n - 1)) (one_shl h 64 lt) ∙ and_mask x h

-- ---- the counts of a set's words

abbrev pub ones_at : List ℕ → ℕ → ℕ
ones_at ws k = count_ones (slice_index ws k)

pub count-all : (ws : List ℕ) → AreWords ws → ones_at ws 0 + ones_at ws 1 + (ones_at ws 2 + ones_at ws 3) ≡ length (member_list (members ws))
count-all ws are =
    let none = ap length (members-zero (members ws)) in
    let one = whole-word ws 0 are in
    let two = whole-word ws 1 are in
    let three = whole-word ws 2 are in
    let four = whole-word ws 3 are in
    omega arith

-- the bits of the first words, and those of the next up to its index p
pub count-part : (ws : List ℕ) (word i : ℕ) → AreWords ws → i / 64 ≡ word → rank (members ws) i ≡ rank (members ws) (64 * word) + count_ones (slice_index ws word % 2 ^ (i % 64))
count-part ws word i are is =
    let at : 64 * word + i % 64 ≡ i = omega arith in
    ap (rank (members ws)) (sym at) ∙ word-count ws word (i % 64) are (omega arith)

-- from 256 on there is no member
pub count-past : (ws : List ℕ) (i : ℕ) → AreWords ws → 256 ≤ i → length (member_list (members ws)) ≡ rank (members ws) i
count-past ws i are le = sym (ap length (members-none i 256 (members ws) le (λ q up lt. sym (has_not ws q are up))))
