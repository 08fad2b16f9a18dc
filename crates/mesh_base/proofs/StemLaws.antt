-- An address that begins with the numbers that are kept written.
use Rattle.std.proofs.Common.{◌≡◌, ℕ, ◌+◌, ◌-◌, ◌*◌, ◌/◌, ◌%◌, ◌^◌, ◌<◌, ◌≤◌, List, [], ◌∷◌, ◌++◌, Some, length, take, drop, sym, ap, ◌∙◌, append_assoc, length-append, length-take, arith}
use Rattle.std.specs.Fmt.{decimal}
use Rattle.std.proofs.lemmas.List.{take-append-drop, take-take}
use Rattle.mesh_base.specs.Numbers.{number_up_to}
use Rattle.mesh_base.specs.Parts.{parts}
use Rattle.std.proofs.Math.Seq.{take-append_seam}
use Rattle.mesh_base.specs.Addresses.{address_of, address_from, dotted_decimal}
use Rattle.mesh_base.specs.Stems.{stem_of}
use Rattle.mesh_base.proofs.WrittenForms.{decimal_lacks, parts_at, number_up_to-decimal}
use Rattle.mesh_base.proofs.AddressLaws.{digits_whole, number_digits, four_are}

-- ---- at most eight bytes by the first four and the last four

ends_are : (xs ys : List ℕ) → length xs ≤ 8 → length xs ≡ length ys → take 4 xs ≡ take 4 ys → drop (length xs - 4) xs ≡ drop (length ys - 4) ys → xs ≡ ys
ends_are xs ys few same starts ends =
    let k : ℕ = length xs - 4 in
    let le : k ≤ 4 = omega (arith, few) in
    let early : take k xs ≡ take k ys = sym (take-take k 4 xs le) ∙ ap (take k) starts ∙ take-take k 4 ys le in
    let late : drop k xs ≡ drop k ys = ends ∙ ap (λ n. drop (n - 4) ys) (sym same) in
    sym (take-append-drop k xs) ∙ ap (λ l. l ++ drop k xs) early ∙ ap (λ l. take k ys ++ l) late ∙ take-append-drop k ys

pub begins : (n : ℕ) (text front rest numbers stem : List ℕ) → front ≡ take n text → rest ≡ drop n text → numbers ≡ stem → length front ≤ 8 → length front ≡ length numbers
    → take 4 front ≡ take 4 numbers → drop (length front - 4) front ≡ drop (length numbers - 4) numbers → text ≡ stem ++ rest
begins n text front rest numbers stem front_is rest_is is few same starts ends =
    sym (take-append-drop n text) ∙ ap (λ l. l ++ drop n text) (sym front_is) ∙ ap (λ l. front ++ l) (sym rest_is)
    ∙ ap (λ l. l ++ rest) (ends_are front numbers few same starts ends ∙ is)

-- ---- these numbers and the last one

nested : (s : ℕ) (w x y z : List ℕ) → (w ++ s ∷ x ++ s ∷ y ++ s ∷ []) ++ z ≡ w ++ s ∷ (x ++ s ∷ (y ++ s ∷ z))
nested s w x y z = simp append_assoc

stem_parts : (w x y : ℕ) (last : List ℕ) → w < 256 → x < 256 → y < 256 → parts 46 last ≡ last ∷ []
    → parts 46 ((decimal w ++ 46 ∷ decimal x ++ 46 ∷ decimal y ++ 46 ∷ []) ++ last) ≡ decimal w ∷ decimal x ∷ decimal y ∷ last ∷ []
stem_parts w x y last w_fits x_fits y_fits whole =
    ap (parts 46) (nested 46 (decimal w) (decimal x) (decimal y) last)
    ∙ parts_at 46 (decimal w) (decimal x ++ 46 ∷ (decimal y ++ 46 ∷ last)) (decimal_lacks 46 w (omega arith) (omega arith))
    ∙ ap (λ ps. decimal w ∷ ps)
    (parts_at 46 (decimal x) (decimal y ++ 46 ∷ last) (decimal_lacks 46 x (omega arith) (omega arith))
    ∙ ap (λ ps. decimal x ∷ ps)
    (parts_at 46 (decimal y) last (decimal_lacks 46 y (omega arith) (omega arith))
    ∙ ap (λ ps. decimal y ∷ ps) whole))

pub stem_and_last : (text last : List ℕ) (high z : ℕ) → high < 2 ^ 24 → text ≡ stem_of high ++ last → number_up_to 255 last ≡ Some z → address_of text ≡ Some (256 * high + z)
unfolding address_of
stem_and_last text last high z fits is last_is =
    let w : high / 65536 < 256 = omega arith in
    let x : high / 256 % 256 < 256 = omega arith in
    let y : high % 256 < 256 = omega arith in
    let value : 16777216 * (high / 65536) + 65536 * (high / 256 % 256) + 256 * (high % 256) + z ≡ 256 * high + z = omega arith in
    ap (λ t. address_from (parts 46 t)) is
    ∙ ap address_from (stem_parts (high / 65536) (high / 256 % 256) (high % 256) last w x y (digits_whole 46 last (omega arith) (number_digits 255 last z last_is)))
    ∙ four_are (decimal (high / 65536)) (decimal (high / 256 % 256)) (decimal (high % 256)) last (high / 65536) (high / 256 % 256) (high % 256) z
    (number_up_to-decimal 255 (high / 65536) (omega arith) (omega arith))
    (number_up_to-decimal 255 (high / 256 % 256) (omega arith) (omega arith))
    (number_up_to-decimal 255 (high % 256) (omega arith) (omega arith)) last_is
    ∙ ap Some value

-- what stands before the last byte
pub before_the_last : (xs ys : List ℕ) (b n : ℕ) → n ≤ length xs → take n xs ≡ ys ++ b ∷ [] → take (n - 1) xs ≡ ys
before_the_last xs ys b n le e =
    let long : n ≡ length ys + 1 = omega (arith, length-take n xs, ap length e, length-append ys (b ∷ [])) in
    let less : n - 1 ≡ length ys = omega arith in
    ap (λ k. take k xs) less ∙ sym (take-take (length ys) n xs (omega arith)) ∙ ap (take (length ys)) e ∙ take-append_seam ys (b ∷ [])

-- three numbers and a last one, each with its dot
pub dotted_before_the_last : (a n : ℕ) (xs y z w : List ℕ) → n ≤ length xs
    → y ≡ decimal (a / 16777216) ++ 46 ∷ [] → z ≡ y ++ (decimal (a / 65536 % 256) ++ 46 ∷ []) → w ≡ z ++ (decimal (a / 256 % 256) ++ 46 ∷ [])
    → take n xs ≡ w ++ (decimal (a % 256) ++ 46 ∷ []) → take (n - 1) xs ≡ dotted_decimal a
dotted_before_the_last a n xs y z w le e f g h =
    let whole : w ++ (decimal (a % 256) ++ 46 ∷ []) ≡ dotted_decimal a ++ 46 ∷ [] = rw (g, f, e) (simp append_assoc) in
    before_the_last xs (dotted_decimal a) 46 n le (h ∙ whole)

-- the first three numbers and the last one
pub dotted_after_the_stem : (a n high : ℕ) (xs stem : List ℕ) → n ≤ length xs → a / 256 ≡ high → stem ≡ stem_of high
    → take n xs ≡ stem ++ (decimal (a % 256) ++ 46 ∷ []) → take (n - 1) xs ≡ dotted_decimal a
dotted_after_the_stem a n high xs stem le is e h =
    let x : high / 65536 ≡ a / 16777216 = omega arith in
    let y : high / 256 % 256 ≡ a / 65536 % 256 = omega arith in
    let z : high % 256 ≡ a / 256 % 256 = omega arith in
    let whole : stem ++ (decimal (a % 256) ++ 46 ∷ []) ≡ dotted_decimal a ++ 46 ∷ [] = rw (e, x, y, z) (simp append_assoc) in
    before_the_last xs (dotted_decimal a) 46 n le (h ∙ whole)
