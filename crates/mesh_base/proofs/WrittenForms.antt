-- What is written is read back: numbers and addresses; and where the address of a node stands in its mesh.
use Rattle.std.proofs.Common.{◌≡◌, ℕ, zero, suc, ◌+◌, ◌-◌, ◌*◌, ◌/◌, ◌%◌, ◌^◌, ◌<◌, ◌≤◌, true, false, eqb, not, List, [], ◌∷◌, ◌++◌, Some, length, get_or, refl, ap, ◌∙◌, arith, inl, inr, eq-eqb, append_assoc}
use Rattle.std.specs.List.{All}
use Rattle.std.specs.Str.{all_ascii_digits}
use Rattle.std.specs.Str.Parse.{digits_value}
use Rattle.std.specs.Fmt.{decimal}
use Rattle.std.proofs.lemmas.Bool.{ne_eqb, cases_eq}
use Rattle.std.proofs.lemmas.Fmt.{decimal_digit, decimal_nonempty, first_decimal, digits_decimal, digits_value-decimal}
use Rattle.std.proofs.lemmas.List.{get_or_default}
use Rattle.std.proofs.lemmas.List.Elements.{All-append}
use Rattle.std.proofs.lemmas.List.Splits.{slice_split_at, slice_split_none}
use Rattle.std.proofs.lemmas.Str.Parse.{IsNumeralModel, FoldsDigits, numerals_by_fold, numerals_by_value, tells_all_ascii_digits, tells_by_index}
use Rattle.mesh_base.specs.Numbers.{read_on, is_canonical, number_up_to, positive}
use Rattle.mesh_base.specs.Parts.{parts}
use Rattle.mesh_base.specs.Addresses.{address_of, address_from, dotted_decimal}
use Rattle.mesh_base.specs.Meshes.{Nodes, IsMesh, addr_at, index_of}
use Rattle.mesh_base.proofs.NumberLaws.{digits_up_to-fits}
use Rattle.mesh_base.proofs.MeshLaws.{rising_le, index_of-found}

-- ---- numbers

read_on_folds : FoldsDigits read_on
read_on_folds = record { empty = λ n. refl; more = λ n c cs is. let e : 10 * n + (c - 48) ≡ n * 10 + (c - 48) = omega arith in ap (λ m. read_on m cs) e }

reads : IsNumeralModel (λ ds. all_ascii_digits ds ≡ true) (read_on 0)
reads = numerals_by_fold _ tells_all_ascii_digits read_on read_on_folds

canonical : (ds : List ℕ) → 0 < length ds → 48 < get_or ds 0 0 → is_canonical ds ≡ true
canonical [] some high = absurd (omega arith)
canonical (d ∷ []) some high = refl
canonical (d ∷ e ∷ ds) some high = ap not (ne_eqb d 48 (λ z. omega arith))

decimal_canonical : (n : ℕ) → n < 2 ^ 64 → is_canonical (decimal n) ≡ true
decimal_canonical n fits =
    elim (cases_eq n 0) [
      | inl is ↦ ap is_canonical (decimal_digit n (omega arith))
      | inr not ↦ canonical (decimal n) (decimal_nonempty n fits) (first_decimal n (omega arith) fits)
    ]

-- a number is read back
pub number_up_to-decimal : (most n : ℕ) → n ≤ most → n < 2 ^ 64 → number_up_to most (decimal n) ≡ Some n
unfolding number_up_to
number_up_to-decimal most n le fits =
    let digits : all_ascii_digits (decimal n) ≡ true = digits_decimal reads n fits in
    let value : read_on 0 (decimal n) ≡ n = digits_value-decimal reads n fits in
    let within : read_on 0 (decimal n) ≤ most = omega arith in
    rw (decimal_canonical n fits) (digits_up_to-fits most (decimal n) digits within ∙ ap Some value)

positive_some : (n : ℕ) → 1 ≤ n → positive (Some n) ≡ Some n
positive_some zero le = absurd (omega arith)
positive_some (suc n) le = refl

pub positive-decimal : (most n : ℕ) → 1 ≤ n → n ≤ most → n < 2 ^ 64 → positive (number_up_to most (decimal n)) ≡ Some n
positive-decimal most n one le fits = ap positive (number_up_to-decimal most n le fits) ∙ positive_some n one

-- ---- bytes that a text lacks

-- no byte of the text is this one
abbrev pub Lacks : ℕ → List ℕ → Type 0
Lacks sep text = All (λ b. eqb b sep ≡ false) text

-- digits are bytes from 48 on
pub decimal_lacks : (sep n : ℕ) → sep < 48 → n < 2 ^ 64 → Lacks sep (decimal n)
decimal_lacks sep n low fits k d lt =
    let range : (48 ≤ get_or (decimal n) k 0) × (get_or (decimal n) k 0 ≤ 57) = digits_decimal {v = digits_value 10} (numerals_by_value _ tells_by_index) n fits k lt in
    let same : get_or (decimal n) k d ≡ get_or (decimal n) k 0 = get_or_default (decimal n) k d 0 lt in
    ne_eqb (get_or (decimal n) k d) sep (λ e. omega arith)

-- a text, one separator and another text
pub parts_at : (sep : ℕ) (text rest : List ℕ) → Lacks sep text → parts sep (text ++ sep ∷ rest) ≡ text ∷ parts sep rest
parts_at sep text rest lacks = slice_split_at (λ b. eqb b sep) text sep rest lacks (eq-eqb sep sep refl)

pub parts_none : (sep : ℕ) (text : List ℕ) → Lacks sep text → parts sep text ≡ text ∷ []
parts_none sep text lacks = slice_split_none (λ b. eqb b sep) text lacks

-- ---- addresses

nested : (s : ℕ) (w x y z : List ℕ) → w ++ s ∷ x ++ s ∷ y ++ s ∷ z ≡ w ++ s ∷ (x ++ s ∷ (y ++ s ∷ z))
nested s w x y z = simp append_assoc

octets : (w x y z : ℕ) → w < 256 → x < 256 → y < 256 → z < 256
    → parts 46 (decimal w ++ 46 ∷ decimal x ++ 46 ∷ decimal y ++ 46 ∷ decimal z) ≡ decimal w ∷ decimal x ∷ decimal y ∷ decimal z ∷ []
octets w x y z w_fits x_fits y_fits z_fits =
    ap (parts 46) (nested 46 (decimal w) (decimal x) (decimal y) (decimal z))
    ∙ parts_at 46 (decimal w) (decimal x ++ 46 ∷ (decimal y ++ 46 ∷ decimal z)) (decimal_lacks 46 w (omega arith) (omega arith))
    ∙ ap (λ ps. decimal w ∷ ps)
    (parts_at 46 (decimal x) (decimal y ++ 46 ∷ decimal z) (decimal_lacks 46 x (omega arith) (omega arith))
    ∙ ap (λ ps. decimal x ∷ ps)
    (parts_at 46 (decimal y) (decimal z) (decimal_lacks 46 y (omega arith) (omega arith))
    ∙ ap (λ ps. decimal y ∷ ps) (parts_none 46 (decimal z) (decimal_lacks 46 z (omega arith) (omega arith)))))

from_octets : (w x y z : ℕ) → w < 256 → x < 256 → y < 256 → z < 256
    → address_from (decimal w ∷ decimal x ∷ decimal y ∷ decimal z ∷ []) ≡ Some (16777216 * w + 65536 * x + 256 * y + z)
unfolding address_from
from_octets w x y z w_fits x_fits y_fits z_fits =
    rw (
      number_up_to-decimal 255 w (omega arith) (omega arith),
      number_up_to-decimal 255 x (omega arith) (omega arith),
      number_up_to-decimal 255 y (omega arith) (omega arith),
      number_up_to-decimal 255 z (omega arith) (omega arith),
    ) refl

-- an address is read back
pub address_of-dotted : (a : ℕ) → a < 2 ^ 32 → address_of (dotted_decimal a) ≡ Some a
unfolding address_of
address_of-dotted a fits =
    let w : a / 16777216 < 256 = omega arith in
    let x : a / 65536 % 256 < 256 = omega arith in
    let y : a / 256 % 256 < 256 = omega arith in
    let z : a % 256 < 256 = omega arith in
    let value : 16777216 * (a / 16777216) + 65536 * (a / 65536 % 256) + 256 * (a / 256 % 256) + a % 256 ≡ a = omega arith in
    ap address_from (octets (a / 16777216) (a / 65536 % 256) (a / 256 % 256) (a % 256) w x y z)
    ∙ from_octets (a / 16777216) (a / 65536 % 256) (a / 256 % 256) (a % 256) w x y z
    ∙ ap Some value

pub one_lacks : (sep b : ℕ) (text : List ℕ) → eqb b sep ≡ false → Lacks sep text → Lacks sep (b ∷ text)
one_lacks sep b text other lacks = All-append (λ c. eqb c sep ≡ false) (b ∷ []) text (single sep b other) lacks
  where
    single : (sep b : ℕ) → eqb b sep ≡ false → Lacks sep (b ∷ [])
    single sep b other zero d lt = other
    single sep b other (suc k) d lt = absurd (omega arith)

-- an address has no byte below the dot
pub dotted_lacks : (sep a : ℕ) → sep < 46 → a < 2 ^ 32 → Lacks sep (dotted_decimal a)
dotted_lacks sep a low fits =
    let P : ℕ → Type 0 = λ b. eqb b sep ≡ false in
    let dot : eqb 46 sep ≡ false = ne_eqb 46 sep (λ e. omega arith) in
    let w : Lacks sep (decimal (a / 16777216)) = decimal_lacks sep (a / 16777216) (omega arith) (omega arith) in
    let x : Lacks sep (decimal (a / 65536 % 256)) = decimal_lacks sep (a / 65536 % 256) (omega arith) (omega arith) in
    let y : Lacks sep (decimal (a / 256 % 256)) = decimal_lacks sep (a / 256 % 256) (omega arith) (omega arith) in
    let z : Lacks sep (decimal (a % 256)) = decimal_lacks sep (a % 256) (omega arith) (omega arith) in
    All-append P (decimal (a / 16777216) ++ 46 ∷ decimal (a / 65536 % 256) ++ 46 ∷ decimal (a / 256 % 256)) (46 ∷ decimal (a % 256))
    (All-append P (decimal (a / 16777216) ++ 46 ∷ decimal (a / 65536 % 256)) (46 ∷ decimal (a / 256 % 256))
    (All-append P (decimal (a / 16777216)) (46 ∷ decimal (a / 65536 % 256)) w (one_lacks sep 46 _ dot x))
    (one_lacks sep 46 _ dot y))
    (one_lacks sep 46 _ dot z)

-- ---- nodes

-- a node is the one of its address
pub index_of-at : (mesh : Nodes) (i : ℕ) → IsMesh mesh → i < length mesh → index_of mesh (addr_at mesh i) ≡ Some i
index_of-at mesh i is lt =
    index_of-found mesh (addr_at mesh i) i
    (record { within = omega arith; below = λ k early. is.rising k i early lt; above = λ k late within. rising_le mesh i k is late within })
    lt refl
