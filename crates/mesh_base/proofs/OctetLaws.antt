-- The numbers of an address by their digits.
use Rattle.std.proofs.Common.{◌≡◌, ℕ, ◌+◌, ◌-◌, ◌*◌, ◌<◌, ◌≤◌, Bool, true, false, eqb, not, cond, List, [], ◌∷◌, Option, Some, None, length, drop, refl, ap, subst, ◌∙◌, sym, arith, inl, inr}
use Rattle.std.specs.Prelude.{slice_index}
use Rattle.std.specs.Option.{option_map}
use Rattle.std.specs.Str.{all_ascii_digits}
use Rattle.std.specs.Char.{is_ascii_digit}
use Rattle.std.specs.List.{onto_first}
use Rattle.std.proofs.lemmas.Bool.{ne_eqb, cases_eq}
use Rattle.std.proofs.lemmas.Bool.Decides.{nat_tests}
use Rattle.std.proofs.lemmas.List.Splits.{length-slice_split, slice_split-cons_no, slice_split-cons_yes}
use Rattle.std.proofs.Math.Bool.{and-false}
use Rattle.mesh_base.specs.Numbers.{read_on, is_canonical, digits_up_to, number_up_to}
use Rattle.mesh_base.specs.Parts.{parts}
use Rattle.mesh_base.specs.Octets.{number_and, first_octet, IsDotAt}
use Rattle.mesh_base.proofs.NumberLaws.{read_on-ge, digits_up_to-fits, digits_up_to-not_digits, digits_up_to-too_large}

-- ---- numbers

pub by_test : (P : Type 0) (b : Bool) → (b ≡ true → P) → (b ≡ false → P) → P
by_test P true f g = f refl
by_test P false f g = g refl

either_none : (b : Bool) (o : Option ℕ) → o ≡ None → cond b o None ≡ None
either_none true o h = h
either_none false o h = refl

pub no_digits : (most : ℕ) (ds : List ℕ) → all_ascii_digits ds ≡ false → number_up_to most ds ≡ None
unfolding number_up_to
no_digits most ds h = either_none (is_canonical ds) (digits_up_to most ds) (digits_up_to-not_digits most ds h)

pub too_large : (most : ℕ) (ds : List ℕ) → most < read_on 0 ds → number_up_to most ds ≡ None
unfolding number_up_to
too_large most ds h = either_none (is_canonical ds) (digits_up_to most ds) (digits_up_to-too_large most ds h)

spelled : (ds : List ℕ) (n : ℕ) → is_canonical ds ≡ true → all_ascii_digits ds ≡ true → read_on 0 ds ≡ n → n ≤ 255 → number_up_to 255 ds ≡ Some n
unfolding number_up_to
spelled ds n first digits value within = rw first (digits_up_to-fits 255 ds digits (omega (arith, value)) ∙ ap Some value)

pub zero_before : (b : ℕ) (ds : List ℕ) → number_up_to 255 (48 ∷ b ∷ ds) ≡ None
unfolding number_up_to
zero_before b ds = refl

pub empty_none : number_up_to 255 [] ≡ None
unfolding number_up_to
empty_none = refl

digits_cons : (a : ℕ) (ds : List ℕ) → is_ascii_digit a ≡ true → all_ascii_digits ds ≡ true → all_ascii_digits (a ∷ ds) ≡ true
digits_cons a ds h i = rw h i

first_other : (a : ℕ) (ds : List ℕ) → is_ascii_digit a ≡ false → all_ascii_digits (a ∷ ds) ≡ false
first_other a ds h = rw h refl

later_other : (a : ℕ) (ds : List ℕ) → all_ascii_digits ds ≡ false → all_ascii_digits (a ∷ ds) ≡ false
later_other a ds h = rw h (and-false (is_ascii_digit a))

-- the numbers of one, two and three digits

pub one_is : (a l : ℕ) → is_ascii_digit a ≡ true → a ≡ 48 + l → l ≤ 9 → number_up_to 255 (a ∷ []) ≡ Some l
one_is a l h e le = spelled (a ∷ []) l refl (digits_cons a [] h refl) (omega (arith, e)) (omega arith)

pub two_are : (a b l m : ℕ) → ¬ (a ≡ 48) → is_ascii_digit a ≡ true → a ≡ 48 + l → is_ascii_digit b ≡ true → b ≡ 48 + m → l ≤ 9 → m ≤ 9
    → number_up_to 255 (a ∷ b ∷ []) ≡ Some (10 * l + m)
two_are a b l m nonzero h e i f l_le m_le =
    spelled (a ∷ b ∷ []) (10 * l + m) (ap not (ne_eqb a 48 nonzero)) (digits_cons a (b ∷ []) h (digits_cons b [] i refl)) (omega (arith, e, f)) (omega arith)

three_read : (a b c l m n : ℕ) → a ≡ 48 + l → b ≡ 48 + m → c ≡ 48 + n → read_on 0 (a ∷ b ∷ c ∷ []) ≡ 100 * l + 10 * m + n
three_read a b c l m n e f g = omega (arith, e, f, g)

pub three_are : (a b c l m n : ℕ) → ¬ (a ≡ 48) → is_ascii_digit a ≡ true → a ≡ 48 + l → is_ascii_digit b ≡ true → b ≡ 48 + m → is_ascii_digit c ≡ true → c ≡ 48 + n
    → 100 * l + 10 * m + n ≤ 255 → number_up_to 255 (a ∷ b ∷ c ∷ []) ≡ Some (100 * l + 10 * m + n)
three_are a b c l m n nonzero h e i f j g le =
    spelled (a ∷ b ∷ c ∷ []) (100 * l + 10 * m + n) (ap not (ne_eqb a 48 nonzero))
    (digits_cons a (b ∷ c ∷ []) h (digits_cons b (c ∷ []) i (digits_cons c [] j refl))) (three_read a b c l m n e f g) le

pub three_too_large : (a b c l m n : ℕ) → a ≡ 48 + l → b ≡ 48 + m → c ≡ 48 + n → 255 < 100 * l + 10 * m + n → number_up_to 255 (a ∷ b ∷ c ∷ []) ≡ None
three_too_large a b c l m n e f g lt = too_large 255 (a ∷ b ∷ c ∷ []) (omega (arith, three_read a b c l m n e f g))

-- a byte that is no digit

pub first_no_digit : (a : ℕ) (ds : List ℕ) → is_ascii_digit a ≡ false → number_up_to 255 (a ∷ ds) ≡ None
first_no_digit a ds h = no_digits 255 (a ∷ ds) (first_other a ds h)

pub second_no_digit : (a b : ℕ) (ds : List ℕ) → is_ascii_digit b ≡ false → number_up_to 255 (a ∷ b ∷ ds) ≡ None
second_no_digit a b ds h = no_digits 255 (a ∷ b ∷ ds) (later_other a (b ∷ ds) (first_other b ds h))

pub third_no_digit : (a b c : ℕ) (ds : List ℕ) → is_ascii_digit c ≡ false → number_up_to 255 (a ∷ b ∷ c ∷ ds) ≡ None
third_no_digit a b c ds h = no_digits 255 (a ∷ b ∷ c ∷ ds) (later_other a (b ∷ c ∷ ds) (later_other b (c ∷ ds) (first_other c ds h)))

-- four digits are too many
pub digit_range : (a : ℕ) → is_ascii_digit a ≡ true → (48 ≤ a) × (a ≤ 57)
digit_range a h = (grind (h, arith, nat_tests), grind (h, arith, nat_tests))

four_digits : (a b c d : ℕ) (ds : List ℕ) → ¬ (a ≡ 48) → is_ascii_digit a ≡ true → number_up_to 255 (a ∷ b ∷ c ∷ d ∷ ds) ≡ None
four_digits a b c d ds nonzero h =
    let range = digit_range a h in
    let n : ℕ = 10 * (10 * (10 * (10 * 0 + (a - 48)) + (b - 48)) + (c - 48)) + (d - 48) in
    let ge : n ≤ read_on n ds = read_on-ge ds n in
    let low : 49 ≤ a = omega (arith, range.0) in
    too_large 255 (a ∷ b ∷ c ∷ d ∷ ds) (omega (arith, ge, low))

pub four_none : (a b c d : ℕ) (ds : List ℕ) → number_up_to 255 (a ∷ b ∷ c ∷ d ∷ ds) ≡ None
four_none a b c d ds =
    elim (cases_eq a 48) [
      | inl is ↦ subst (λ x. number_up_to 255 (x ∷ b ∷ c ∷ d ∷ ds) ≡ None) (sym is) (zero_before b (c ∷ d ∷ ds))
      | inr nonzero ↦ by_test _ (is_ascii_digit a) (λ h. four_digits a b c d ds nonzero h) (λ h. first_no_digit a (b ∷ c ∷ d ∷ ds) h)
    ]

-- no number, or one of at most three digits
pub long_none : (ds : List ℕ) → ¬ (length ds ≡ 1) → ¬ (length ds ≡ 2) → ¬ (length ds ≡ 3) → number_up_to 255 ds ≡ None
long_none [] h i j = empty_none
long_none (a ∷ []) h i j = absurd (h refl)
long_none (a ∷ b ∷ []) h i j = absurd (i refl)
long_none (a ∷ b ∷ c ∷ []) h i j = absurd (j refl)
long_none (a ∷ b ∷ c ∷ d ∷ ds) h i j = four_none a b c d ds

-- ---- the parts between dots

-- a dot, or the next byte of the first part
at_dot : (xs : List ℕ) → parts 46 (46 ∷ xs) ≡ [] ∷ parts 46 xs
at_dot xs = slice_split-cons_yes (λ b. eqb b 46) 46 xs refl

ahead : (a : ℕ) (xs f : List ℕ) (ps : List (List ℕ)) → ¬ (a ≡ 46) → parts 46 xs ≡ f ∷ ps → parts 46 (a ∷ xs) ≡ (a ∷ f) ∷ ps
ahead a xs f ps other is = slice_split-cons_no (λ b. eqb b 46) a xs (ne_eqb a 46 other) ∙ ap (λ qs. onto_first a qs) is

some_part : (xs : List ℕ) → 0 < length (parts 46 xs)
some_part xs = omega (arith, length-slice_split (λ b. eqb b 46) xs)

by_first : (P : Type 0) (ps : List (List ℕ)) → 0 < length ps → ((f : List ℕ) (qs : List (List ℕ)) → ps ≡ f ∷ qs → P) → P
by_first P [] lt k = absurd (omega arith)
by_first P (f ∷ qs) lt k = k f qs refl

-- a part, and parts after it
between : (f : List ℕ) (ps : List (List ℕ)) → 0 < length ps → first_octet (f ∷ ps) ≡ option_map (number_and ps) (number_up_to 255 f)
unfolding first_octet
between f [] lt = absurd (omega arith)
between f (p ∷ ps) lt = refl

none_first : (f : List ℕ) (ps : List (List ℕ)) → number_up_to 255 f ≡ None → first_octet (f ∷ ps) ≡ None
unfolding first_octet
none_first f [] h = refl
none_first f (p ∷ ps) h = ap (option_map (number_and (p ∷ ps))) h

dot_first : (xs : List ℕ) → first_octet (parts 46 (46 ∷ xs)) ≡ None
dot_first xs = ap first_octet (at_dot xs) ∙ none_first [] (parts 46 xs) empty_none

last_part : (f : List ℕ) → first_octet (f ∷ []) ≡ None
unfolding first_octet
last_part f = refl

-- a part that ends at a dot
abbrev EndsFirst : List ℕ → List ℕ → Type 0
EndsFirst front rest = (text : List ℕ) → parts 46 text ≡ front ∷ parts 46 rest
    → first_octet (parts 46 text) ≡ option_map (number_and (parts 46 rest)) (number_up_to 255 front)

ends_first : (front rest : List ℕ) → EndsFirst front rest
ends_first front rest text is = ap first_octet is ∙ between front (parts 46 rest) (some_part rest)

no_number : (front : List ℕ) (ps : List (List ℕ)) → number_up_to 255 front ≡ None → option_map (number_and ps) (number_up_to 255 front) ≡ None
no_number front ps h = ap (option_map (number_and ps)) h

-- a dot is no digit
dot_in_front : (ds xs : List ℕ) (ps : List (List ℕ)) → first_octet (parts 46 (46 ∷ xs)) ≡ option_map (number_and ps) (number_up_to 255 (46 ∷ ds))
dot_in_front ds xs ps = dot_first xs ∙ sym (no_number (46 ∷ ds) ps (first_no_digit 46 ds refl))

one_before : (a : ℕ) (rest : List ℕ) → first_octet (parts 46 (a ∷ 46 ∷ rest)) ≡ option_map (number_and (parts 46 rest)) (number_up_to 255 (a ∷ []))
one_before a rest =
    elim (cases_eq a 46) [
      | inl is ↦ subst (λ x. first_octet (parts 46 (x ∷ 46 ∷ rest)) ≡ option_map (number_and (parts 46 rest)) (number_up_to 255 (x ∷ []))) (sym is)
          (dot_in_front [] (46 ∷ rest) (parts 46 rest))
      | inr other ↦ ends_first (a ∷ []) rest (a ∷ 46 ∷ rest) (ahead a (46 ∷ rest) [] (parts 46 rest) other (at_dot rest))
    ]

two_before : (a b : ℕ) (rest : List ℕ) → ¬ (b ≡ 46)
    → first_octet (parts 46 (a ∷ b ∷ 46 ∷ rest)) ≡ option_map (number_and (parts 46 rest)) (number_up_to 255 (a ∷ b ∷ []))
two_before a b rest b_other =
    elim (cases_eq a 46) [
      | inl is ↦ subst (λ x. first_octet (parts 46 (x ∷ b ∷ 46 ∷ rest)) ≡ option_map (number_and (parts 46 rest)) (number_up_to 255 (x ∷ b ∷ []))) (sym is)
          (dot_in_front (b ∷ []) (b ∷ 46 ∷ rest) (parts 46 rest))
      | inr other ↦ ends_first (a ∷ b ∷ []) rest (a ∷ b ∷ 46 ∷ rest)
          (ahead a (b ∷ 46 ∷ rest) (b ∷ []) (parts 46 rest) other (ahead b (46 ∷ rest) [] (parts 46 rest) b_other (at_dot rest)))
    ]

three_before : (a b c : ℕ) (rest : List ℕ) → ¬ (b ≡ 46) → ¬ (c ≡ 46)
    → first_octet (parts 46 (a ∷ b ∷ c ∷ 46 ∷ rest)) ≡ option_map (number_and (parts 46 rest)) (number_up_to 255 (a ∷ b ∷ c ∷ []))
three_before a b c rest b_other c_other =
    elim (cases_eq a 46) [
      | inl is ↦ subst (λ x. first_octet (parts 46 (x ∷ b ∷ c ∷ 46 ∷ rest)) ≡ option_map (number_and (parts 46 rest)) (number_up_to 255 (x ∷ b ∷ c ∷ []))) (sym is)
          (dot_in_front (b ∷ c ∷ []) (b ∷ c ∷ 46 ∷ rest) (parts 46 rest))
      | inr other ↦ ends_first (a ∷ b ∷ c ∷ []) rest (a ∷ b ∷ c ∷ 46 ∷ rest)
          (ahead a (b ∷ c ∷ 46 ∷ rest) (b ∷ c ∷ []) (parts 46 rest) other
          (ahead b (c ∷ 46 ∷ rest) (c ∷ []) (parts 46 rest) b_other (ahead c (46 ∷ rest) [] (parts 46 rest) c_other (at_dot rest))))
    ]

-- no dot after one, two or three bytes
no_dot_after : (a : ℕ) (xs : List ℕ) → (¬ (a ≡ 46) → first_octet (parts 46 (a ∷ xs)) ≡ None) → first_octet (parts 46 (a ∷ xs)) ≡ None
no_dot_after a xs f =
    elim (cases_eq a 46) [
      | inl is ↦ subst (λ x. first_octet (parts 46 (x ∷ xs)) ≡ None) (sym is) (dot_first xs)
      | inr other ↦ f other
    ]

four_in_front : (a b c d : ℕ) (ds : List ℕ) → ¬ (a ≡ 46) → ¬ (b ≡ 46) → ¬ (c ≡ 46) → ¬ (d ≡ 46) → first_octet (parts 46 (a ∷ b ∷ c ∷ d ∷ ds)) ≡ None
four_in_front a b c d ds a_other b_other c_other d_other =
    by_first _ (parts 46 ds) (some_part ds) (λ f ps is.
    ap first_octet (ahead a (b ∷ c ∷ d ∷ ds) (b ∷ c ∷ d ∷ f) ps a_other (ahead b (c ∷ d ∷ ds) (c ∷ d ∷ f) ps b_other
    (ahead c (d ∷ ds) (d ∷ f) ps c_other (ahead d ds f ps d_other is))))
    ∙ none_first (a ∷ b ∷ c ∷ d ∷ f) ps (four_none a b c d f))

empty_parts : parts 46 [] ≡ [] ∷ []
empty_parts = refl

pub nowhere : (text : List ℕ) → ¬ IsDotAt text 1 → ¬ IsDotAt text 2 → ¬ IsDotAt text 3 → first_octet (parts 46 text) ≡ None
nowhere [] h i j = last_part []
nowhere (a ∷ []) h i j = no_dot_after a [] (λ other. ap first_octet (ahead a [] [] [] other empty_parts) ∙ last_part (a ∷ []))
nowhere (a ∷ b ∷ []) h i j =
    let b_other : ¬ (b ≡ 46) = λ is. h (omega arith, is) in
    no_dot_after a (b ∷ []) (λ other. ap first_octet (ahead a (b ∷ []) (b ∷ []) [] other (ahead b [] [] [] b_other empty_parts)) ∙ last_part (a ∷ b ∷ []))
nowhere (a ∷ b ∷ c ∷ []) h i j =
    let b_other : ¬ (b ≡ 46) = λ is. h (omega arith, is) in
    let c_other : ¬ (c ≡ 46) = λ is. i (omega arith, is) in
    no_dot_after a (b ∷ c ∷ []) (λ other.
    ap first_octet (ahead a (b ∷ c ∷ []) (b ∷ c ∷ []) [] other (ahead b (c ∷ []) (c ∷ []) [] b_other (ahead c [] [] [] c_other empty_parts)))
    ∙ last_part (a ∷ b ∷ c ∷ []))
nowhere (a ∷ b ∷ c ∷ d ∷ ds) h i j =
    let b_other : ¬ (b ≡ 46) = λ is. h (omega arith, is) in
    let c_other : ¬ (c ≡ 46) = λ is. i (omega arith, is) in
    let d_other : ¬ (d ≡ 46) = λ is. j (omega arith, is) in
    no_dot_after a (b ∷ c ∷ d ∷ ds) (λ other. four_in_front a b c d ds other b_other c_other d_other)

-- the same of a text by its indices
pub after_one : (text : List ℕ) → IsDotAt text 1
    → first_octet (parts 46 text) ≡ option_map (number_and (parts 46 (drop 2 text))) (number_up_to 255 (slice_index text 0 ∷ []))
after_one [] h = absurd (omega (arith, h.0))
after_one (a ∷ []) h = absurd (omega (arith, h.0))
after_one (a ∷ b ∷ rest) h =
    subst (λ x. first_octet (parts 46 (a ∷ x ∷ rest)) ≡ option_map (number_and (parts 46 rest)) (number_up_to 255 (a ∷ []))) (sym h.1) (one_before a rest)

pub after_two : (text : List ℕ) → ¬ IsDotAt text 1 → IsDotAt text 2
    → first_octet (parts 46 text) ≡ option_map (number_and (parts 46 (drop 3 text))) (number_up_to 255 (slice_index text 0 ∷ slice_index text 1 ∷ []))
after_two [] h i = absurd (omega (arith, i.0))
after_two (a ∷ []) h i = absurd (omega (arith, i.0))
after_two (a ∷ b ∷ []) h i = absurd (omega (arith, i.0))
after_two (a ∷ b ∷ c ∷ rest) h i =
    let b_other : ¬ (b ≡ 46) = λ is. h (omega arith, is) in
    subst (λ x. first_octet (parts 46 (a ∷ b ∷ x ∷ rest)) ≡ option_map (number_and (parts 46 rest)) (number_up_to 255 (a ∷ b ∷ []))) (sym i.1)
    (two_before a b rest b_other)

pub after_three : (text : List ℕ) → ¬ IsDotAt text 1 → ¬ IsDotAt text 2 → IsDotAt text 3
    → first_octet (parts 46 text)
    ≡ option_map (number_and (parts 46 (drop 4 text))) (number_up_to 255 (slice_index text 0 ∷ slice_index text 1 ∷ slice_index text 2 ∷ []))
after_three [] h i j = absurd (omega (arith, j.0))
after_three (a ∷ []) h i j = absurd (omega (arith, j.0))
after_three (a ∷ b ∷ []) h i j = absurd (omega (arith, j.0))
after_three (a ∷ b ∷ c ∷ []) h i j = absurd (omega (arith, j.0))
after_three (a ∷ b ∷ c ∷ d ∷ rest) h i j =
    let b_other : ¬ (b ≡ 46) = λ is. h (omega arith, is) in
    let c_other : ¬ (c ≡ 46) = λ is. i (omega arith, is) in
    subst (λ x. first_octet (parts 46 (a ∷ b ∷ c ∷ x ∷ rest)) ≡ option_map (number_and (parts 46 rest)) (number_up_to 255 (a ∷ b ∷ c ∷ []))) (sym j.1)
    (three_before a b c rest b_other c_other)
