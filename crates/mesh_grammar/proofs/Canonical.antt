-- A number and an address that are read stand as they are written.
use Rattle.std.proofs.Common.{◌≡◌, ℕ, zero, suc, ◌+◌, ◌-◌, ◌*◌, ◌/◌, ◌%◌, ◌^◌, ◌<◌, ◌≤◌, Bool, true, false, eqb, leb, cond, ◌&&◌, List, [], ◌∷◌, ◌++◌, Option, Some, None, refl, sym, ap, subst, ◌∙◌, arith, append_assoc, append-nil}
use Rattle.std.specs.List.{join_with_byte}
use Rattle.std.specs.Str.{all_ascii_digits}
use Rattle.std.specs.Char.{is_ascii_digit}
use Rattle.std.specs.Fmt.{decimal}
use Rattle.std.proofs.lemmas.Bool.{and_parts, eqb-false, not-true}
use Rattle.std.proofs.lemmas.Fmt.{decimal_step, decimal_digit}
use Rattle.std.proofs.lemmas.Option.{option_and_then_some, cond_some}
use Rattle.std.proofs.lemmas.List.Splits.{join_with_byte-slice_split}
use Rattle.mesh_base.specs.Numbers.{read_on, is_canonical, digits_up_to, number_up_to, positive}
use Rattle.mesh_base.specs.Parts.{parts}
use Rattle.mesh_base.specs.Addresses.{address_of, address_from, dotted_decimal}
use Rattle.mesh_base.proofs.NumberLaws.{read_on-ge}
use Rattle.mesh_base.proofs.OctetLaws.{digit_range}
use Rattle.mesh_base.proofs.Readings.{number_up_to-le}

-- ---- numbers

-- digits after those of a number other than 0
decimal_on : (n : ℕ) (ds : List ℕ) → 1 ≤ n → all_ascii_digits ds ≡ true → read_on n ds < 2 ^ 64
    → decimal (read_on n ds) ≡ decimal n ++ ds
decimal_on n [] some digits fits = sym (append-nil (decimal n))
decimal_on n (d ∷ ds) some digits fits =
    let both = and_parts (is_ascii_digit d) (all_ascii_digits ds) digits in
    let range = digit_range d both.0 in
    let m : ℕ = 10 * n + (d - 48) in
    let low : 10 ≤ m = omega arith in
    let ge : m ≤ read_on m ds = read_on-ge ds m in
    let tens : m / 10 ≡ n = omega (arith, range.0, range.1) in
    let ones : 48 + m % 10 ≡ d = omega (arith, range.0, range.1) in
    decimal_on m ds (omega arith) both.1 fits
    ∙ ap (λ xs. xs ++ ds) (decimal_step m low (omega (arith, ge, fits)))
    ∙ ap (λ k. (decimal k ++ (48 + m % 10) ∷ []) ++ ds) tens
    ∙ ap (λ b. (decimal n ++ b ∷ []) ++ ds) ones
    ∙ append_assoc (decimal n) (d ∷ []) ds

-- the digit of a number below 10
one_digit : (d : ℕ) → is_ascii_digit d ≡ true → decimal (d - 48) ≡ d ∷ []
one_digit d digit =
    let range = digit_range d digit in
    let same : 48 + (d - 48) ≡ d = omega (arith, range.0) in
    decimal_digit (d - 48) (omega (arith, range.0, range.1)) ∙ ap (λ b. b ∷ []) same

canonical_digits : (ds : List ℕ) → is_canonical ds ≡ true → all_ascii_digits ds ≡ true → read_on 0 ds < 2 ^ 64 → decimal (read_on 0 ds) ≡ ds
canonical_digits [] canonical digits fits = absurd (let P : ⊥ = cc in P)
canonical_digits (d ∷ []) canonical digits fits =
    let value : read_on 0 (d ∷ []) ≡ d - 48 = omega arith in
    ap decimal value ∙ one_digit d (and_parts (is_ascii_digit d) true digits).0
canonical_digits (d ∷ e ∷ ds) canonical digits fits =
    let both = and_parts (is_ascii_digit d) (all_ascii_digits (e ∷ ds)) digits in
    let range = digit_range d both.0 in
    let other = eqb-false d 48 (not-true (eqb d 48) canonical) in
    let some : 1 ≤ d - 48 = omega (arith, range.0, other) in
    let first : 10 * 0 + (d - 48) ≡ d - 48 = omega arith in
    ap (λ k. decimal (read_on k (e ∷ ds))) first
    ∙ decimal_on (d - 48) (e ∷ ds) some both.1 (subst (λ k. read_on k (e ∷ ds) < 2 ^ 64) first fits)
    ∙ ap (λ xs. xs ++ e ∷ ds) (one_digit d both.0)

capped : (b : Bool) (o : Option ℕ) (n : ℕ) → cond b o None ≡ Some n → (b ≡ true) × (o ≡ Some n)
capped true o n h = (refl, h)
capped false o n h = cc

digits_are_written : (most : ℕ) (ds : List ℕ) (n : ℕ) → is_canonical ds ≡ true → digits_up_to most ds ≡ Some n → n < 2 ^ 64 → decimal n ≡ ds
unfolding digits_up_to
digits_are_written most ds n canonical h fits =
    let c = cond_some (all_ascii_digits ds && leb (read_on 0 ds) most) (read_on 0 ds) n h in
    let digits = and_parts (all_ascii_digits ds) (leb (read_on 0 ds) most) c.0 in
    let same = c.1 in
    ap decimal (sym same) ∙ canonical_digits ds canonical digits.0 (omega (arith, same, fits))

pub number_is_written : (most : ℕ) (word : List ℕ) (n : ℕ) → number_up_to most word ≡ Some n → n < 2 ^ 64 → decimal n ≡ word
unfolding number_up_to
number_is_written most word n h fits =
    let c = capped (is_canonical word) (digits_up_to most word) n h in
    digits_are_written most word n c.0 c.1 fits

pub positive_is : (o : Option ℕ) (n : ℕ) → positive o ≡ Some n → o ≡ Some n
positive_is None n h = h
positive_is (Some zero) n h = absurd (let P : ⊥ = cc in P)
positive_is (Some (suc k)) n h = h

pub positive_is_written : (most : ℕ) (word : List ℕ) (n : ℕ) → positive (number_up_to most word) ≡ Some n → n < 2 ^ 64 → decimal n ≡ word
positive_is_written most word n h fits = number_is_written most word n (positive_is (number_up_to most word) n h) fits

-- ---- addresses

four_are_written : (a b c d : List ℕ) (w x y z : ℕ) → w ≤ 255 → x ≤ 255 → y ≤ 255 → z ≤ 255
    → decimal w ≡ a → decimal x ≡ b → decimal y ≡ c → decimal z ≡ d
    → dotted_decimal (16777216 * w + 65536 * x + 256 * y + z) ≡ join_with_byte 46 (a ∷ b ∷ c ∷ d ∷ [])
four_are_written a b c d w x y z w_le x_le y_le z_le a_is b_is c_is d_is =
    let n : ℕ = 16777216 * w + 65536 * x + 256 * y + z in
    let first : n / 16777216 ≡ w = omega arith in
    let second : n / 65536 % 256 ≡ x = omega arith in
    let third : n / 256 % 256 ≡ y = omega arith in
    let fourth : n % 256 ≡ z = omega arith in
    rw (first, second, third, fourth, a_is, b_is, c_is, d_is) (nested a b c d)
  where
    nested : (a b c d : List ℕ) → a ++ 46 ∷ b ++ 46 ∷ c ++ 46 ∷ d ≡ a ++ 46 ∷ (b ++ 46 ∷ (c ++ 46 ∷ d))
    nested a b c d = simp append_assoc

-- the number of an octet
octet_is_written : (word : List ℕ) (n : ℕ) → number_up_to 255 word ≡ Some n → (n ≤ 255) × (decimal n ≡ word)
octet_is_written word n h =
    let le = number_up_to-le 255 word n h in
    (le, number_is_written 255 word n h (omega arith))

four_stand : (a b c d : List ℕ) (n : ℕ) → address_from (a ∷ b ∷ c ∷ d ∷ []) ≡ Some n → dotted_decimal n ≡ join_with_byte 46 (a ∷ b ∷ c ∷ d ∷ [])
unfolding address_from
four_stand a b c d n h =
    option_and_then_some _ (number_up_to 255 a) n h (λ w w_is h1.
    option_and_then_some _ (number_up_to 255 b) n h1 (λ x x_is h2.
    option_and_then_some _ (number_up_to 255 c) n h2 (λ y y_is h3.
    option_and_then_some _ (number_up_to 255 d) n h3 (λ z z_is h4.
    let same : n ≡ 16777216 * w + 65536 * x + 256 * y + z = cc in
    let first = octet_is_written a w w_is in
    let second = octet_is_written b x x_is in
    let third = octet_is_written c y y_is in
    let fourth = octet_is_written d z z_is in
    ap dotted_decimal same ∙ four_are_written a b c d w x y z first.0 second.0 third.0 fourth.0 first.1 second.1 third.1 fourth.1))))

from_is_written : (ps : List (List ℕ)) (n : ℕ) → address_from ps ≡ Some n → dotted_decimal n ≡ join_with_byte 46 ps
unfolding address_from
from_is_written [] n h = absurd (let P : ⊥ = cc in P)
from_is_written (a ∷ []) n h = absurd (let P : ⊥ = cc in P)
from_is_written (a ∷ b ∷ []) n h = absurd (let P : ⊥ = cc in P)
from_is_written (a ∷ b ∷ c ∷ []) n h = absurd (let P : ⊥ = cc in P)
from_is_written (a ∷ b ∷ c ∷ d ∷ []) n h = four_stand a b c d n h
from_is_written (a ∷ b ∷ c ∷ d ∷ e ∷ ps) n h = absurd (let P : ⊥ = cc in P)

pub address_is_written : (word : List ℕ) (n : ℕ) → address_of word ≡ Some n → dotted_decimal n ≡ word
unfolding address_of
address_is_written word n h = from_is_written (parts 46 word) n h ∙ join_with_byte-slice_split 46 word
