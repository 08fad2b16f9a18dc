-- An address by its numbers, one after another.
use Rattle.std.proofs.Common.{◌≡◌, ℕ, ◌+◌, ◌-◌, ◌*◌, ◌<◌, true, false, eqb, List, [], ◌∷◌, ◌++◌, Option, Some, None, length, take, drop, position, refl, ap, subst, ◌∙◌, sym, arith}
use Rattle.std.specs.Option.{option_map, option_and_then}
use Rattle.std.specs.Str.{all_ascii_digits}
use Rattle.std.specs.Char.{is_ascii_digit}
use Rattle.std.specs.List.{onto_first, join_with_byte}
use Rattle.std.proofs.lemmas.Bool.{ne_eqb, and_parts}
use Rattle.std.proofs.lemmas.List.Elements.{All-append}
use Rattle.std.proofs.lemmas.Option.{option_and_then_some}
use Rattle.std.proofs.lemmas.List.Splits.{length-slice_split, slice_split-cons_no, join_with_byte-slice_split}
use Rattle.mesh_base.specs.Numbers.{number_up_to}
use Rattle.mesh_base.specs.Parts.{parts}
use Rattle.mesh_base.specs.Addresses.{address_of, address_from}
use Rattle.mesh_base.specs.Octets.{number_and, first_octet}
use Rattle.mesh_base.proofs.PartLaws.{split_at_position, split_nowhere}
use Rattle.mesh_base.proofs.WrittenForms.{Lacks, one_lacks, parts_none}
use Rattle.mesh_base.proofs.OctetLaws.{by_test, no_digits, digit_range}

-- ---- the first number is found

-- the first part denotes the number n, and qs are the parts after it
record Found (ps : List (List ℕ)) (n : ℕ) (qs : List (List ℕ)) : Type 0 where
  part : List ℕ
  is : ps ≡ part ∷ qs
  value : number_up_to 255 part ≡ Some n

some_map : (o : Option ℕ) (ps qs : List (List ℕ)) (n : ℕ) → option_map (number_and ps) o ≡ Some (n, qs) → (o ≡ Some n) × (ps ≡ qs)
some_map None ps qs n h = absurd (let P : ⊥ = cc in P)
some_map (Some k) ps qs n h =
    let same : number_and ps k ≡ (n, qs) = cc in
    (ap (λ p. Some p.0) same, ap (λ p. p.1) same)

found : (ps : List (List ℕ)) (n : ℕ) (qs : List (List ℕ)) → first_octet ps ≡ Some (n, qs) → Found ps n qs
unfolding first_octet
found [] n qs h = absurd (let P : ⊥ = cc in P)
found (p ∷ []) n qs h = absurd (let P : ⊥ = cc in P)
found (p ∷ q ∷ ps) n qs h =
    let parts = some_map (number_up_to 255 p) (q ∷ ps) qs n h in
    record { part = p; is = ap (λ rs. p ∷ rs) parts.1; value = parts.0 }

-- ---- the last number

pub digits_whole : (sep : ℕ) (ds : List ℕ) → sep < 48 → all_ascii_digits ds ≡ true → parts sep ds ≡ ds ∷ []
digits_whole sep [] low h = refl
digits_whole sep (d ∷ ds) low h =
    let both = and_parts (is_ascii_digit d) (all_ascii_digits ds) h in
    let range = digit_range d both.0 in
    slice_split-cons_no (λ b. eqb b sep) d ds (ne_eqb d sep (λ e. omega (arith, range.0)))
    ∙ ap (λ ps. onto_first d ps) (digits_whole sep ds low both.1)

-- the number that the only one of these parts denotes
abbrev last_octet : List (List ℕ) → Option ℕ
last_octet (last ∷ []) = number_up_to 255 last
last_octet others = None

more_none : (f : List ℕ) (ps : List (List ℕ)) → 0 < length ps → last_octet (f ∷ ps) ≡ None
more_none f [] lt = absurd (omega arith)
more_none f (p ∷ ps) lt = refl

by_option : {X : Type 0} (P : Type 0) (o : Option X) → (o ≡ None → P) → ((x : X) → o ≡ Some x → P) → P
by_option P None f g = f refl
by_option P (Some x) f g = g x refl

last_is : (text : List ℕ) → last_octet (parts 46 text) ≡ number_up_to 255 text
last_is text =
    by_test _ (all_ascii_digits text) (λ h. ap last_octet (digits_whole 46 text (omega arith) h)) (λ h.
    by_option _ (position (λ b. eqb b 46) text)
    (λ is. ap last_octet (split_nowhere (λ b. eqb b 46) text is))
    (λ i is.
    let rest : List ℕ = take (length text - (i + 1)) (drop (i + 1) text) in
    ap last_octet (split_at_position (λ b. eqb b 46) text i is)
    ∙ more_none (take i text) (parts 46 rest) (omega (arith, length-slice_split (λ b. eqb b 46) rest))
    ∙ sym (no_digits 255 text h)))

found_last : (ps : List (List ℕ)) (n : ℕ) → last_octet ps ≡ Some n → (P : Type 0) → ((d : List ℕ) → ps ≡ d ∷ [] → number_up_to 255 d ≡ Some n → P) → P
found_last [] n h P k = absurd (let Q : ⊥ = cc in Q)
found_last (d ∷ []) n h P k = k d refl h
found_last (d ∷ e ∷ ps) n h P k = absurd (let Q : ⊥ = cc in Q)

-- ---- the whole address

none_map : (o : Option ℕ) (ps : List (List ℕ)) → option_map (number_and ps) o ≡ None → o ≡ None
none_map None ps h = refl
none_map (Some k) ps h = absurd (let Q : ⊥ = cc in Q)

none_then : (o : Option ℕ) (f : ℕ → Option ℕ) → ((n : ℕ) → f n ≡ None) → option_and_then f o ≡ None
none_then None f h = refl
none_then (Some n) f h = h n

-- without its first, second, third or last number it is none

no_first : (ps : List (List ℕ)) → first_octet ps ≡ None → address_from ps ≡ None
unfolding address_from first_octet
no_first [] h = refl
no_first (a ∷ []) h = refl
no_first (a ∷ b ∷ []) h = refl
no_first (a ∷ b ∷ c ∷ []) h = refl
no_first (a ∷ b ∷ c ∷ d ∷ []) h = rw (none_map (number_up_to 255 a) (b ∷ c ∷ d ∷ []) h) refl
no_first (a ∷ b ∷ c ∷ d ∷ e ∷ ps) h = refl

no_second : (a : List ℕ) (ps : List (List ℕ)) → first_octet ps ≡ None → address_from (a ∷ ps) ≡ None
unfolding address_from first_octet
no_second a [] h = refl
no_second a (b ∷ []) h = refl
no_second a (b ∷ c ∷ []) h = refl
no_second a (b ∷ c ∷ d ∷ []) h = rw (none_map (number_up_to 255 b) (c ∷ d ∷ []) h) (none_then (number_up_to 255 a) _ (λ w. refl))
no_second a (b ∷ c ∷ d ∷ e ∷ ps) h = refl

no_third : (a b : List ℕ) (ps : List (List ℕ)) → first_octet ps ≡ None → address_from (a ∷ b ∷ ps) ≡ None
unfolding address_from first_octet
no_third a b [] h = refl
no_third a b (c ∷ []) h = refl
no_third a b (c ∷ d ∷ []) h =
    rw (none_map (number_up_to 255 c) (d ∷ []) h) (none_then (number_up_to 255 a) _ (λ w. none_then (number_up_to 255 b) _ (λ x. refl)))
no_third a b (c ∷ d ∷ e ∷ ps) h = refl

no_last : (a b c : List ℕ) (ps : List (List ℕ)) → last_octet ps ≡ None → address_from (a ∷ b ∷ c ∷ ps) ≡ None
unfolding address_from
no_last a b c [] h = refl
no_last a b c (d ∷ []) h =
    rw h (none_then (number_up_to 255 a) _ (λ w. none_then (number_up_to 255 b) _ (λ x. none_then (number_up_to 255 c) _ (λ y. refl))))
no_last a b c (d ∷ e ∷ ps) h = refl

pub four_are : (a b c d : List ℕ) (w x y z : ℕ)
    → number_up_to 255 a ≡ Some w → number_up_to 255 b ≡ Some x → number_up_to 255 c ≡ Some y → number_up_to 255 d ≡ Some z
    → address_from (a ∷ b ∷ c ∷ d ∷ []) ≡ Some (16777216 * w + 65536 * x + 256 * y + z)
unfolding address_from
four_are a b c d w x y z e f g h = rw (e, f, g, h) refl

-- ---- of a text, whose parts are found one after another

module _ (text : List ℕ) where
  pub without_first : first_octet (parts 46 text) ≡ None → address_of text ≡ None
  unfolding address_of
  without_first h = no_first (parts 46 text) h

  module _ (w : ℕ) (after_w : List ℕ) (w_is : first_octet (parts 46 text) ≡ Some (w, parts 46 after_w)) where
    first : Found (parts 46 text) w (parts 46 after_w)
    first = found (parts 46 text) w (parts 46 after_w) w_is

    pub without_second : first_octet (parts 46 after_w) ≡ None → address_of text ≡ None
    unfolding address_of
    without_second h = ap address_from first.is ∙ no_second first.part (parts 46 after_w) h

    module _ (x : ℕ) (after_x : List ℕ) (x_is : first_octet (parts 46 after_w) ≡ Some (x, parts 46 after_x)) where
      second : Found (parts 46 after_w) x (parts 46 after_x)
      second = found (parts 46 after_w) x (parts 46 after_x) x_is

      two : parts 46 text ≡ first.part ∷ second.part ∷ parts 46 after_x
      two = first.is ∙ ap (λ ps. first.part ∷ ps) second.is

      pub without_third : first_octet (parts 46 after_x) ≡ None → address_of text ≡ None
      unfolding address_of
      without_third h = ap address_from two ∙ no_third first.part second.part (parts 46 after_x) h

      module _ (y : ℕ) (after_y : List ℕ) (y_is : first_octet (parts 46 after_x) ≡ Some (y, parts 46 after_y)) where
        third : Found (parts 46 after_x) y (parts 46 after_y)
        third = found (parts 46 after_x) y (parts 46 after_y) y_is

        three : parts 46 text ≡ first.part ∷ second.part ∷ third.part ∷ parts 46 after_y
        three = two ∙ ap (λ ps. first.part ∷ second.part ∷ ps) third.is

        pub without_last : number_up_to 255 after_y ≡ None → address_of text ≡ None
        unfolding address_of
        without_last h = ap address_from three ∙ no_last first.part second.part third.part (parts 46 after_y) (last_is after_y ∙ h)

        pub with_last : (z : ℕ) → number_up_to 255 after_y ≡ Some z → address_of text ≡ Some (16777216 * w + 65536 * x + 256 * y + z)
        unfolding address_of
        with_last z h =
            found_last (parts 46 after_y) z (last_is after_y ∙ h) _ (λ d d_is value.
            ap address_from (three ∙ ap (λ ps. first.part ∷ second.part ∷ third.part ∷ ps) d_is)
            ∙ four_are first.part second.part third.part d w x y z first.value second.value third.value value)

-- ---- the words of a line: a number or an address has no space

not_none : {P : Type 0} (o : Option ℕ) (n : ℕ) → o ≡ Some n → o ≡ None → P
not_none None n h none = absurd (let Q : ⊥ = cc in Q)
not_none (Some k) n h none = absurd (let Q : ⊥ = cc in Q)

pub number_digits : (most : ℕ) (ds : List ℕ) (n : ℕ) → number_up_to most ds ≡ Some n → all_ascii_digits ds ≡ true
number_digits most ds n h = by_test _ (all_ascii_digits ds) (λ digits. digits) (λ other. not_none (number_up_to most ds) n h (no_digits most ds other))

pub number_word : (most : ℕ) (ds : List ℕ) (n : ℕ) → number_up_to most ds ≡ Some n → parts 32 ds ≡ ds ∷ []
number_word most ds n h = digits_whole 32 ds (omega arith) (number_digits most ds n h)

digits_lack : (ds : List ℕ) → all_ascii_digits ds ≡ true → Lacks 32 ds
digits_lack [] h = λ k d lt. absurd (omega arith)
digits_lack (b ∷ ds) h =
    let both = and_parts (is_ascii_digit b) (all_ascii_digits ds) h in
    let range = digit_range b both.0 in
    one_lacks 32 b ds (ne_eqb b 32 (λ e. omega (arith, range.0))) (digits_lack ds both.1)

four_lack : (a b c d : List ℕ) (n : ℕ) → address_from (a ∷ b ∷ c ∷ d ∷ []) ≡ Some n → Lacks 32 (join_with_byte 46 (a ∷ b ∷ c ∷ d ∷ []))
unfolding address_from
four_lack a b c d n h =
    let P : ℕ → Type 0 = λ x. eqb x 32 ≡ false in
    option_and_then_some _ (number_up_to 255 a) n h (λ w w_is h1.
    option_and_then_some _ (number_up_to 255 b) n h1 (λ x x_is h2.
    option_and_then_some _ (number_up_to 255 c) n h2 (λ y y_is h3.
    option_and_then_some _ (number_up_to 255 d) n h3 (λ z z_is h4.
    All-append P a (46 ∷ (b ++ 46 ∷ (c ++ 46 ∷ d))) (digits_lack a (number_digits 255 a w w_is)) (one_lacks 32 46 _ refl
    (All-append P b (46 ∷ (c ++ 46 ∷ d)) (digits_lack b (number_digits 255 b x x_is)) (one_lacks 32 46 _ refl
    (All-append P c (46 ∷ d) (digits_lack c (number_digits 255 c y y_is)) (one_lacks 32 46 _ refl
    (digits_lack d (number_digits 255 d z z_is)))))))))))

from_lacks : (ps : List (List ℕ)) (n : ℕ) → address_from ps ≡ Some n → Lacks 32 (join_with_byte 46 ps)
unfolding address_from
from_lacks [] n h = absurd (let Q : ⊥ = cc in Q)
from_lacks (a ∷ []) n h = absurd (let Q : ⊥ = cc in Q)
from_lacks (a ∷ b ∷ []) n h = absurd (let Q : ⊥ = cc in Q)
from_lacks (a ∷ b ∷ c ∷ []) n h = absurd (let Q : ⊥ = cc in Q)
from_lacks (a ∷ b ∷ c ∷ d ∷ []) n h = four_lack a b c d n h
from_lacks (a ∷ b ∷ c ∷ d ∷ e ∷ ps) n h = absurd (let Q : ⊥ = cc in Q)

pub address_word : (text : List ℕ) (n : ℕ) → address_of text ≡ Some n → parts 32 text ≡ text ∷ []
unfolding address_of
address_word text n h =
    parts_none 32 text (subst (Lacks 32) (join_with_byte-slice_split 46 text) (from_lacks (parts 46 text) n h))
