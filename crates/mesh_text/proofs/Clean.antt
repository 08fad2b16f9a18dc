-- The texts of which lines are made have no LF.
use Rattle.std.proofs.Common.{◌≡◌, ℕ, zero, suc, ◌+◌, ◌/◌, ◌%◌, ◌≤◌, Bool, true, false, eqb, leb, not, ◌&&◌, List, [], ◌∷◌, ◌++◌, codes, length, refl, ap, arith}
use Rattle.std.specs.Prelude.{nat_lt}
use Rattle.std.specs.Fmt.{decimal, digits, digits_onto, digit_glyph}
use Rattle.std.specs.List.{flat_map, list_all}
use Rattle.std.proofs.lemmas.Bool.{ne_eqb, and_from, and_parts, leb-true}
use Rattle.std.proofs.lemmas.List.Elements.{All-from_recursion}
use Rattle.std.specs.List.{AllByRecursion}
use Rattle.aodv_model.proofs.Entries.{if_case}
use Rattle.mesh_base.specs.Addresses.{dotted_decimal}
use Rattle.mesh_base.specs.Members.{NodeIds}
use Rattle.mesh_base.specs.Meshes.{Nodes, addr_at}
use Rattle.mesh_base.proofs.WrittenForms.{Lacks}
use Rattle.mesh_model.specs.Worlds.{members_below}
use Rattle.mesh_text.specs.Lines.{name_of, hex, hex_byte, hex_digit}
use Rattle.mesh_text.specs.Effects.{shown_byte, names, more_names, set_text}

-- no byte is LF
abbrev pub is_clean : List ℕ → Bool
is_clean text = list_all (λ b. not (eqb b 10)) text

pub lacks_lf : (text : List ℕ) → is_clean text ≡ true → Lacks 10 text
lacks_lf text clean = All-from_recursion (λ b. eqb b 10 ≡ false) text (through text clean)
  where
    other : (b : Bool) → not b ≡ true → b ≡ false
    other true h = absurd (let P : ⊥ = cc in P)
    other false h = refl

    through : (text : List ℕ) → is_clean text ≡ true → AllByRecursion (λ b. eqb b 10 ≡ false) text
    through [] clean = tt
    through (b ∷ bs) clean = let both = and_parts (not (eqb b 10)) (is_clean bs) clean in (other (eqb b 10) both.0, through bs both.1)

pub clean_append : (xs ys : List ℕ) → is_clean xs ≡ true → is_clean ys ≡ true → is_clean (xs ++ ys) ≡ true
clean_append [] ys x y = y
clean_append (b ∷ bs) ys x y = let both = and_parts (not (eqb b 10)) (is_clean bs) x in and_from (not (eqb b 10)) (is_clean (bs ++ ys)) both.0 (clean_append bs ys both.1 y)

other_byte : (b : ℕ) → 11 ≤ b → not (eqb b 10) ≡ true
other_byte b high = ap not (ne_eqb b 10 (λ e. omega arith))

one_clean : (b : ℕ) (bs : List ℕ) → 11 ≤ b → is_clean bs ≡ true → is_clean (b ∷ bs) ≡ true
one_clean b bs high rest = and_from (not (eqb b 10)) (is_clean bs) (other_byte b high) rest

-- ---- numbers and addresses

glyph_high : (d : ℕ) → 11 ≤ digit_glyph false d
glyph_high d = if_case (λ b. 11 ≤ b) (nat_lt d 10) (48 + d) (87 + d) (λ _. omega arith) (λ _. omega arith)

onto_clean : (k n : ℕ) (acc : List ℕ) → is_clean acc ≡ true → is_clean (digits_onto k 10 false n acc) ≡ true
onto_clean zero n acc clean = clean
onto_clean (suc k) n acc clean =
    let more : is_clean (digit_glyph false (n % 10) ∷ acc) ≡ true = one_clean (digit_glyph false (n % 10)) acc (glyph_high (n % 10)) clean in
    if_case (λ t. is_clean t ≡ true) (eqb (n / 10) 0) (digit_glyph false (n % 10) ∷ acc) (digits_onto k 10 false (n / 10) (digit_glyph false (n % 10) ∷ acc))
    (λ _. more) (λ _. onto_clean k (n / 10) (digit_glyph false (n % 10) ∷ acc) more)

pub decimal_clean : (n : ℕ) → is_clean (decimal n) ≡ true
unfolding digits
decimal_clean n = onto_clean 64 n [] refl

pub dotted_clean : (a : ℕ) → is_clean (dotted_decimal a) ≡ true
dotted_clean a =
    let w : List ℕ = decimal (a / 16777216) in
    let x : List ℕ = 46 ∷ decimal (a / 65536 % 256) in
    let y : List ℕ = 46 ∷ decimal (a / 256 % 256) in
    clean_append (w ++ x ++ y) (46 ∷ decimal (a % 256))
    (clean_append (w ++ x) y (clean_append w x (decimal_clean (a / 16777216)) (decimal_clean (a / 65536 % 256))) (decimal_clean (a / 256 % 256)))
    (decimal_clean (a % 256))

pub name_clean : (mesh : Nodes) (x : ℕ) → is_clean (name_of mesh x) ≡ true
name_clean mesh x = dotted_clean (addr_at mesh x)

-- a number or a name before a clean text
pub number_then : (n : ℕ) (rest : List ℕ) → is_clean rest ≡ true → is_clean (decimal n ++ rest) ≡ true
number_then n rest clean = clean_append (decimal n) rest (decimal_clean n) clean

pub name_then : (mesh : Nodes) (x : ℕ) (rest : List ℕ) → is_clean rest ≡ true → is_clean (name_of mesh x ++ rest) ≡ true
name_then mesh x rest clean = clean_append (name_of mesh x) rest (name_clean mesh x) clean

-- ---- bytes

digit_high : (d : ℕ) → 11 ≤ hex_digit d
digit_high d = if_case (λ b. 11 ≤ b) (nat_lt d 10) (48 + d) (87 + d) (λ _. omega arith) (λ _. omega arith)

hex_byte_then : (b : ℕ) (rest : List ℕ) → is_clean rest ≡ true → is_clean (hex_byte b ++ rest) ≡ true
hex_byte_then b rest clean = one_clean (hex_digit (b / 16)) (hex_digit (b % 16) ∷ rest) (digit_high (b / 16)) (one_clean (hex_digit (b % 16)) rest (digit_high (b % 16)) clean)

pub hex_clean : (bytes : List ℕ) → is_clean (hex bytes) ≡ true
hex_clean [] = refl
hex_clean (b ∷ bs) = hex_byte_then b (hex bs) (hex_clean bs)

shown_then : (b : ℕ) (rest : List ℕ) → is_clean rest ≡ true → is_clean (shown_byte b ++ rest) ≡ true
shown_then b rest clean =
    if_case (λ t. is_clean (t ++ rest) ≡ true) (leb 32 b && leb b 126 && not (eqb b 92)) (b ∷ []) (codes "\\x" ++ hex_byte b)
    (λ plain. let both = and_parts (leb 32 b && leb b 126) (not (eqb b 92)) plain in let low = and_parts (leb 32 b) (leb b 126) both.0 in one_clean b rest (above b low.0) clean)
    (λ _. hex_byte_then b rest clean)
  where
    above : (b : ℕ) → leb 32 b ≡ true → 11 ≤ b
    above b h = omega (arith, leb-true 32 b h)

pub shown_clean : (body : List ℕ) → is_clean (flat_map shown_byte body) ≡ true
shown_clean [] = refl
shown_clean (b ∷ bs) = shown_then b (flat_map shown_byte bs) (shown_clean bs)

-- ---- nodes

more_clean : (mesh : Nodes) (xs : List ℕ) → is_clean (more_names mesh xs) ≡ true
more_clean mesh [] = refl
more_clean mesh (x ∷ xs) = name_then mesh x (more_names mesh xs) (more_clean mesh xs)

names_clean : (mesh : Nodes) (xs : List ℕ) → is_clean (names mesh xs) ≡ true
names_clean mesh [] = refl
names_clean mesh (x ∷ xs) = name_then mesh x (more_names mesh xs) (more_clean mesh xs)

pub set_clean : (mesh : Nodes) (s : NodeIds) → is_clean (set_text mesh s) ≡ true
set_clean mesh s = names_clean mesh (members_below (length mesh) s)

pub set_then : (mesh : Nodes) (s : NodeIds) (rest : List ℕ) → is_clean rest ≡ true → is_clean (set_text mesh s ++ rest) ≡ true
set_then mesh s rest clean = clean_append (set_text mesh s) rest (set_clean mesh s) clean

-- ---- a text as it is given

pub clean_body : (body : List ℕ) → AllByRecursion (λ b. (32 ≤ b) × (b ≤ 126)) body → is_clean body ≡ true
clean_body [] all = refl
clean_body (b ∷ bs) all = one_clean b bs (let low = all.0.0 in omega arith) (clean_body bs all.1)
