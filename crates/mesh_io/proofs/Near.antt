-- Where the first LF is, by the mask of a comparison.
use Rattle.std.proofs.Common.{◌≡◌, ℕ, ◌+◌, ◌^◌, ◌<◌, ◌≤◌, List, Bool, true, false, cond, eqb, length, get_or, map, Some, inl, inr, refl, sym, ap, subst, ◌∙◌, arith}
use Rattle.std.specs.Int.{bit_at}
use Rattle.std.specs.Simd.Lanes.{mask_l, chunk}
use Rattle.std.proofs.lemmas.Bool.{cases_lt}
use Rattle.std.proofs.lemmas.Simd.{bit_mask_l, mask_l-lt, length-chunk, get_or-chunk}
use Rattle.std.proofs.lemmas.List.{get_or_past, length-map}
use Rattle.std.proofs.Math.ListN.{get_or-map}
use Rattle.memchr.specs.Find.{IsFirstByte, is_byte}

-- the bits of the LFs in the first 16 bytes
abbrev pub marks_of : List ℕ → ℕ
marks_of bytes = mask_l (map (λ b. eqb b 10) (chunk 0 16 bytes))

pub marks_fit : (bytes : List ℕ) → 16 ≤ length bytes → marks_of bytes < 2 ^ 64
marks_fit bytes long =
    let lanes = chunk 0 16 bytes in
    let lt = mask_l-lt (map (λ b. eqb b 10) lanes) in
    let len : length (map (λ b. eqb b 10) lanes) ≡ 16 = length-map lanes (λ b. eqb b 10) ∙ length-chunk 0 16 bytes (omega arith) in
    let most : marks_of bytes < 2 ^ 16 = subst (λ n. marks_of bytes < 2 ^ n) len lt in
    omega arith

bit_is : (bytes : List ℕ) (k : ℕ) → bit_at (marks_of bytes) k ≡ cond (eqb (get_or (chunk 0 16 bytes) k 0) 10) 1 0
bit_is bytes k =
    let lanes = chunk 0 16 bytes in
    bit_mask_l (map (λ b. eqb b 10) lanes) k ∙ ap (λ t. cond t 1 0) (get_or-map (λ b. eqb b 10) lanes k 0)

set_is : (t : Bool) → cond {A = ℕ} t 1 0 ≡ 1 → t ≡ true
set_is true e = refl
set_is false e = absurd (omega arith)

clear_is : (t : Bool) → cond {A = ℕ} t 1 0 ≡ 0 → t ≡ false
clear_is true e = absurd (omega arith)
clear_is false e = refl

not_both : (t : Bool) → t ≡ true → t ≡ false → ⊥
not_both true a b = cc
not_both false a b = cc

-- a byte that is looked at
byte_is : (bytes : List ℕ) (k : ℕ) → k < 16 → get_or (chunk 0 16 bytes) k 0 ≡ get_or bytes k 0
byte_is bytes k near =
    let zero : 0 + k ≡ k = omega arith in
    get_or-chunk 0 16 bytes k 0 near ∙ ap (λ i. get_or bytes i 0) zero

is_near : (bytes : List ℕ) (n : ℕ) → 16 ≤ length bytes → eqb (get_or (chunk 0 16 bytes) n 0) 10 ≡ true → n < 16
is_near bytes n long lf = elim (cases_lt n 16) [
  | inl near ↦ near
  | inr far ↦
      let len : length (chunk 0 16 bytes) ≡ 16 = length-chunk 0 16 bytes (omega arith) in
      absurd (not_both _ lf (ap (λ b. eqb b 10) (get_or_past (chunk 0 16 bytes) n 0 (omega arith))))
]

pub first_mark : (bytes : List ℕ) (n : ℕ) → 16 ≤ length bytes → bit_at (marks_of bytes) n ≡ 1 → ((k : ℕ) → k < n → bit_at (marks_of bytes) k ≡ 0)
    → IsFirstByte (is_byte 10) bytes (Some n)
first_mark bytes n long set below =
    let lf = set_is _ (sym (bit_is bytes n) ∙ set) in
    let near : n < 16 = is_near bytes n long lf in (
      record {
        low = omega arith;
        high = omega arith;
        before = λ k low high is. not_both _ is (ap (λ b. eqb b 10) (sym (byte_is bytes k (omega arith))) ∙ clear_is _ (sym (bit_is bytes k) ∙ below k high));
      },
      ap (λ b. eqb b 10) (sym (byte_is bytes n near)) ∙ lf,
    )
