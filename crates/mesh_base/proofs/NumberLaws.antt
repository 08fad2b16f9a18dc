-- Decimal numbers.
use Rattle.std.proofs.Common.{◌≡◌, ℕ, ◌+◌, ◌-◌, ◌*◌, ◌/◌, ◌%◌, ◌^◌, length-append, append_assoc, ◌++◌, sym, ◌<◌, ◌≤◌, Bool, eqb, true, false, cond, leb, ◌&&◌, List, [], ◌∷◌, Some, None, length, take, drop, get_or, refl, ap, ◌∙◌, arith}
use Rattle.std.specs.Str.{all_ascii_digits}
use Rattle.std.specs.Char.{is_ascii_digit}
use Rattle.std.specs.Fmt.{decimal}
use Rattle.std.proofs.lemmas.List.{at_drop_more, take-take}
use Rattle.std.proofs.lemmas.Fmt.{length-decimal-le, decimal_step, decimal_digit}
use Rattle.std.proofs.lemmas.Bool.Decides.{nat_tests}
use Rattle.std.proofs.lemmas.List.Splits.{length-slice_split}
use Rattle.mesh_base.specs.Numbers.{read_on, digits_up_to}
use Rattle.mesh_base.specs.Parts.{parts}
use Rattle.mesh_base.specs.Addresses.{address_of, address_from}

-- digits only add
pub read_on-ge : (ds : List ℕ) (n : ℕ) → n ≤ read_on n ds
read_on-ge [] n = omega arith
read_on-ge (d ∷ ds) n = omega (arith, read_on-ge ds (10 * n + (d - 48)))

pub digits_up_to-not_digits : (most : ℕ) (ds : List ℕ) → all_ascii_digits ds ≡ false → digits_up_to most ds ≡ None
unfolding digits_up_to
digits_up_to-not_digits most ds h = rw h refl

capped : (b : Bool) (most v : ℕ) → most < v → cond (b && leb v most) (Some v) None ≡ None
capped false most v h = refl
capped true most v h = grind (arith, nat_tests)

pub digits_up_to-too_large : (most : ℕ) (ds : List ℕ) → most < read_on 0 ds → digits_up_to most ds ≡ None
unfolding digits_up_to
digits_up_to-too_large most ds h = capped (all_ascii_digits ds) most (read_on 0 ds) h

uncapped : (b : Bool) (most v : ℕ) → b ≡ true → v ≤ most → cond (b && leb v most) (Some v) None ≡ Some v
uncapped false most v e h = cc
uncapped true most v e h = grind (arith, nat_tests)

pub digits_up_to-fits : (most : ℕ) (ds : List ℕ) → all_ascii_digits ds ≡ true → read_on 0 ds ≤ most → digits_up_to most ds ≡ Some (read_on 0 ds)
unfolding digits_up_to
digits_up_to-fits most ds h le = uncapped (all_ascii_digits ds) most (read_on 0 ds) h le

-- one digit
pub read_on-more : (n i : ℕ) (ds : List ℕ) → i < length ds → read_on n (drop i ds) ≡ read_on (10 * n + (get_or ds i 0 - 48)) (drop (i + 1) ds)
read_on-more n i ds h = at_drop_more (read_on n) ds i 0 h

pub digits-more : (i : ℕ) (ds : List ℕ) → i < length ds → all_ascii_digits (drop i ds) ≡ (is_ascii_digit (get_or ds i 0) && all_ascii_digits (drop (i + 1) ds))
digits-more i ds h = at_drop_more all_ascii_digits ds i 0 h

-- a number below 256 has at most three digits
pub short : (n : ℕ) → n < 256 → length (decimal n) ≤ 3
short n h = length-decimal-le 3 n (omega arith) (omega arith) (omega arith)

-- ---- the digits of a number

pub two_digits : (n : ℕ) → 10 ≤ n → n < 100 → decimal n ≡ (48 + n / 10) ∷ (48 + n % 10) ∷ []
two_digits n low high =
    let first : decimal (n / 10) ≡ (48 + n / 10) ∷ [] = decimal_digit (n / 10) (omega arith) in
    decimal_step n low (omega arith) ∙ ap (λ ds. ds ++ (48 + n % 10) ∷ []) first

pub two_long : (n : ℕ) → 10 ≤ n → n < 100 → length (decimal n) ≡ 2
two_long n low high = ap length (two_digits n low high)

-- the last two digits, after the others
pub by_hundreds : (n : ℕ) → 100 ≤ n → n < 2 ^ 64 → decimal n ≡ decimal (n / 100) ++ (48 + n % 100 / 10) ∷ (48 + n % 100 % 10) ∷ []
by_hundreds n low fits =
    let tens : n / 10 % 10 ≡ n % 100 / 10 = omega arith in
    let ones : n % 10 ≡ n % 100 % 10 = omega arith in
    let rest : n / 10 / 10 ≡ n / 100 = omega arith in
    decimal_step n (omega arith) fits
    ∙ ap (λ ds. ds ++ (48 + n % 10) ∷ []) (decimal_step (n / 10) (omega arith) (omega arith))
    ∙ rw (tens, ones, rest) (append_assoc (decimal (n / 100)) ((48 + n % 100 / 10) ∷ []) ((48 + n % 100 % 10) ∷ []))

-- digits that are appended one after another
pub appended_hundreds : (xs ys zs : List ℕ) (n : ℕ) → 100 ≤ n → n < 2 ^ 64 → ys ≡ xs ++ decimal (n / 100)
    → zs ≡ ys ++ (48 + n % 100 / 10) ∷ (48 + n % 100 % 10) ∷ [] → zs ≡ xs ++ decimal n
appended_hundreds xs ys zs n low fits y z =
    z ∙ ap (λ ds. ds ++ (48 + n % 100 / 10) ∷ (48 + n % 100 % 10) ∷ []) y
    ∙ append_assoc xs (decimal (n / 100)) _
    ∙ ap (λ ds. xs ++ ds) (sym (by_hundreds n low fits))

-- the same, twice
pub appended_four : (xs ys zs : List ℕ) (n : ℕ) → 10000 ≤ n → n < 2 ^ 64 → ys ≡ xs ++ decimal (n / 10000)
    → zs ≡ (ys ++ (48 + n % 10000 / 100 / 10) ∷ (48 + n % 10000 / 100 % 10) ∷ []) ++ (48 + n % 10000 % 100 / 10) ∷ (48 + n % 10000 % 100 % 10) ∷ []
    → zs ≡ xs ++ decimal n
appended_four xs ys zs n low fits y z =
    let first : n / 100 / 100 ≡ n / 10000 = omega arith in
    let upper : n % 10000 / 100 ≡ n / 100 % 100 = omega arith in
    let lower : n % 10000 % 100 ≡ n % 100 = omega arith in
    let y' : ys ≡ xs ++ decimal (n / 100 / 100) = y ∙ ap (λ m. xs ++ decimal m) (sym first) in
    let z' : zs ≡ (ys ++ (48 + n / 100 % 100 / 10) ∷ (48 + n / 100 % 100 % 10) ∷ []) ++ (48 + n % 100 / 10) ∷ (48 + n % 100 % 10) ∷ [] =
    z ∙ ap (λ m. (ys ++ (48 + m / 10) ∷ (48 + m % 10) ∷ []) ++ (48 + n % 10000 % 100 / 10) ∷ (48 + n % 10000 % 100 % 10) ∷ []) upper
    ∙ ap (λ m. (ys ++ (48 + n / 100 % 100 / 10) ∷ (48 + n / 100 % 100 % 10) ∷ []) ++ (48 + m / 10) ∷ (48 + m % 10) ∷ []) lower in
    appended_hundreds xs (ys ++ (48 + n / 100 % 100 / 10) ∷ (48 + n / 100 % 100 % 10) ∷ []) zs n (omega arith) fits
    (appended_hundreds xs ys _ (n / 100) (omega arith) (omega arith) y' refl) z'

-- two digits more
pub two_longer : (n : ℕ) → 100 ≤ n → n < 2 ^ 64 → length (decimal n) ≡ length (decimal (n / 100)) + 2
two_longer n low fits = ap length (by_hundreds n low fits) ∙ length-append (decimal (n / 100)) _

-- four digits more
pub four_longer : (n : ℕ) → 10000 ≤ n → n < 2 ^ 64 → length (decimal n) ≡ length (decimal (n / 10000)) + 4
four_longer n low fits =
    let first : n / 100 / 100 ≡ n / 10000 = omega arith in
    omega (arith, two_longer n (omega arith) fits, two_longer (n / 100) (omega arith) (omega arith), ap (λ m. length (decimal m)) first)

-- one digit more
pub longer : (n : ℕ) → 10 ≤ n → n < 2 ^ 64 → length (decimal n) ≡ length (decimal (n / 10)) + 1
longer n h fits = ap length (decimal_step n h fits) ∙ length-append (decimal (n / 10)) ((48 + n % 10) ∷ [])

too_many : (a b c d : List ℕ) (ps : List (List ℕ)) → 0 < length ps → address_from (a ∷ b ∷ c ∷ d ∷ ps) ≡ None
unfolding address_from
too_many a b c d [] h = absurd (omega arith)
too_many a b c d (p ∷ ps) h = refl

-- five parts denote no address
pub address_of_five : (text a b c d rest : List ℕ) → parts 46 text ≡ a ∷ b ∷ c ∷ d ∷ parts 46 rest → address_of text ≡ None
unfolding address_of
address_of_five text a b c d rest e = rw e (too_many a b c d _ (omega (arith, length-slice_split (λ b. eqb b 46) rest)))

pub at_most_twenty : (n : ℕ) → n < 2 ^ 64 → length (decimal n) ≤ 20
at_most_twenty n h = length-decimal-le 20 n (omega arith) (omega arith) h

-- ---- a number of at most four digits, from the digits of its hundreds and of what is left

same_digits : (a b c d : ℕ) → a ≡ c → b ≡ d → (48 + a) ∷ (48 + b) ∷ [] ≡ (48 + c) ∷ (48 + d) ∷ []
same_digits a b c d e f = rw (e, f) refl

pub one_digit_is : (n : ℕ) (low : List ℕ) → n < 10 → low ≡ (48 + n % 100 / 10) ∷ (48 + n % 100 % 10) ∷ [] → get_or low 1 0 ∷ [] ≡ decimal n
one_digit_is n low lt e =
    let is : 48 + n % 100 % 10 ≡ 48 + n = omega arith in
    ap (λ ds. get_or ds 1 0 ∷ []) e ∙ ap (λ d. d ∷ []) is ∙ sym (decimal_digit n lt)

pub two_digits_are : (n : ℕ) (low : List ℕ) → 10 ≤ n → n < 100 → low ≡ (48 + n % 100 / 10) ∷ (48 + n % 100 % 10) ∷ []
    → get_or low 0 0 ∷ get_or low 1 0 ∷ [] ≡ decimal n
two_digits_are n low ge lt e =
    ap (λ ds. get_or ds 0 0 ∷ get_or ds 1 0 ∷ []) e ∙ same_digits (n % 100 / 10) (n % 100 % 10) (n / 10) (n % 10) (omega arith) (omega arith)
    ∙ sym (two_digits n ge lt)

pub three_digits_are : (n : ℕ) (high low : List ℕ) → 100 ≤ n → n < 1000 → high ≡ (48 + n / 100 / 10) ∷ (48 + n / 100 % 10) ∷ []
    → low ≡ (48 + n % 100 / 10) ∷ (48 + n % 100 % 10) ∷ [] → get_or high 1 0 ∷ get_or low 0 0 ∷ get_or low 1 0 ∷ [] ≡ decimal n
three_digits_are n high low ge lt e f =
    let is : 48 + n / 100 % 10 ≡ 48 + n / 100 = omega arith in
    ap (λ ds. get_or ds 1 0 ∷ get_or low 0 0 ∷ get_or low 1 0 ∷ []) e ∙ ap (λ ds. (48 + n / 100 % 10) ∷ get_or ds 0 0 ∷ get_or ds 1 0 ∷ []) f
    ∙ ap (λ d. d ∷ (48 + n % 100 / 10) ∷ (48 + n % 100 % 10) ∷ []) is
    ∙ ap (λ ds. ds ++ (48 + n % 100 / 10) ∷ (48 + n % 100 % 10) ∷ []) (sym (decimal_digit (n / 100) (omega arith)))
    ∙ sym (by_hundreds n ge (omega arith))

pub four_digits_are : (n : ℕ) (high low : List ℕ) → 1000 ≤ n → n < 10000 → high ≡ (48 + n / 100 / 10) ∷ (48 + n / 100 % 10) ∷ []
    → low ≡ (48 + n % 100 / 10) ∷ (48 + n % 100 % 10) ∷ [] → get_or high 0 0 ∷ get_or high 1 0 ∷ get_or low 0 0 ∷ get_or low 1 0 ∷ [] ≡ decimal n
four_digits_are n high low ge lt e f =
    ap (λ ds. get_or ds 0 0 ∷ get_or ds 1 0 ∷ get_or low 0 0 ∷ get_or low 1 0 ∷ []) e
    ∙ ap (λ ds. (48 + n / 100 / 10) ∷ (48 + n / 100 % 10) ∷ get_or ds 0 0 ∷ get_or ds 1 0 ∷ []) f
    ∙ ap (λ ds. ds ++ (48 + n % 100 / 10) ∷ (48 + n % 100 % 10) ∷ []) (sym (two_digits (n / 100) (omega arith) (omega arith)))
    ∙ sym (by_hundreds n (omega arith) (omega arith))

-- the last four digits, behind the others
pub joined_digits : (n w : ℕ) (cells whole digits : List ℕ) → 10000 ≤ n → n < 2 ^ 64 → w ≤ 4 → take 4 cells ≡ whole → take w whole ≡ decimal (n / 10000)
    → digits ≡ (48 + n % 10000 / 100 / 10) ∷ (48 + n % 10000 / 100 % 10) ∷ (48 + n % 10000 % 100 / 10) ∷ (48 + n % 10000 % 100 % 10) ∷ []
    → take w cells ++ digits ≡ decimal n
joined_digits n w cells whole digits ge lt le e f g =
    let high : take w cells ≡ decimal (n / 10000) = sym (take-take w 4 cells le) ∙ ap (take w) e ∙ f in
    let pieces : take w cells ++ digits ≡ (decimal (n / 10000) ++ (48 + n % 10000 / 100 / 10) ∷ (48 + n % 10000 / 100 % 10) ∷ []) ++ (48 + n % 10000 % 100 / 10) ∷ (48 + n % 10000 % 100 % 10) ∷ [] =
    rw (high, g) (sym (append_assoc (decimal (n / 10000)) ((48 + n % 10000 / 100 / 10) ∷ (48 + n % 10000 / 100 % 10) ∷ []) _)) in
    appended_four [] (decimal (n / 10000)) _ n ge lt refl pieces
