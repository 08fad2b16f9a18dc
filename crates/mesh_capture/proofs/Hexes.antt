-- Packets in hexadecimal, and data as they are shown, are read as what they are written of.
use Rattle.std.proofs.Common.{◌≡◌, ◌≢◌, ℕ, ◌+◌, ◌-◌, ◌*◌, ◌/◌, ◌%◌, ◌<◌, ◌≤◌, inl, inr, true, false, eqb, leb, cond, not, ◌&&◌, List, [], ◌∷◌, ◌++◌, codes, Some, None, Ok, Err, length, refl, sym, ap, subst, ◌∙◌, arith}
use Rattle.std.specs.List.{AllByRecursion, flat_map, list_all, onto_first}
use Rattle.std.proofs.lemmas.Bool.{cases_lt, lt-ltb, le-ltb, le-leb, leb-true, ne_eqb, and_from, and_parts}
use Rattle.std.proofs.lemmas.Bool.Decides.{nat_tests}
use Rattle.std.proofs.lemmas.List.Splits.{slice_split-cons_yes, slice_split-cons_no}
use Rattle.hex.specs.Hex.{◌>>=◌, hex_digit_value, pair_value, decode_pairs, decode_of}
use Rattle.hex.specs.declared.error.FromHexError.TheVariants.{OddLength}
use Rattle.aodv_model.proofs.Entries.{if_case}
use Rattle.mesh_base.specs.declared.limits.TheConstants.{LONGEST_PACKET}
use Rattle.mesh_base.specs.Parts.{parts}
use Rattle.mesh_base.proofs.WrittenForms.{Lacks, parts_none}
use Rattle.mesh_grammar.specs.Words.{are_printable}
use Rattle.mesh_text.specs.Lines.{hex, hex_byte, hex_digit}
use Rattle.mesh_text.specs.Effects.{shown_byte}
use Rattle.mesh_lines.specs.Forms.{is_lower_digit, is_hex, is_escape, are_shown, is_body}
use Rattle.mesh_capture.specs.Copies.{is_packet, packet_by, packet_of}
use Rattle.mesh_capture.proofs.Words.{word_lacks}

abbrev pub AreBytes : List ℕ → Type 0
AreBytes bytes = AllByRecursion (λ b. b < 256) bytes

-- ---- digits

-- x is a digit of this value
record IsDigit (d x : ℕ) : Type 0 where
  value : hex_digit_value x ≡ Some d
  lower : is_lower_digit x ≡ true
  high : 48 ≤ x
  other : x ≢ 92

low_digit : (d : ℕ) → d < 10 → IsDigit d (48 + d)
low_digit d lt =
    let a : leb 65 (48 + d) ≡ false = grind (arith, nat_tests) in
    let b : leb 97 (48 + d) ≡ false = grind (arith, nat_tests) in
    let c : leb 48 (48 + d) ≡ true = grind (arith, nat_tests) in
    let e : leb (48 + d) 57 ≡ true = grind (arith, nat_tests) in
    let v : 48 + d - 48 ≡ d = omega arith in
    record { value = rw (a, b, c, e) (ap Some v); lower = rw (c, e) refl; high = omega arith; other = λ is. omega arith }

high_digit : (d : ℕ) → 10 ≤ d → d < 16 → IsDigit d (87 + d)
high_digit d le lt =
    let a : leb 65 (87 + d) ≡ true = grind (arith, nat_tests) in
    let b : leb (87 + d) 70 ≡ false = grind (arith, nat_tests) in
    let c : leb 97 (87 + d) ≡ true = grind (arith, nat_tests) in
    let e : leb (87 + d) 102 ≡ true = grind (arith, nat_tests) in
    let f : leb 48 (87 + d) ≡ true = grind (arith, nat_tests) in
    let g : leb (87 + d) 57 ≡ false = grind (arith, nat_tests) in
    let v : 87 + d - 87 ≡ d = omega arith in
    record { value = rw (a, b, c, e) (ap Some v); lower = rw (f, g, c, e) refl; high = omega arith; other = λ is. omega arith }

digit_is : (d : ℕ) → d < 16 → IsDigit d (hex_digit d)
digit_is d lt = elim (cases_lt d 10) [
  | inl low ↦ subst (IsDigit d) (sym (ap (λ b. cond b (48 + d) (87 + d)) (lt-ltb d 10 low))) (low_digit d low)
  | inr le ↦ subst (IsDigit d) (sym (ap (λ b. cond b (48 + d) (87 + d)) (le-ltb d 10 le))) (high_digit d le lt)
]

first_digit : (b : ℕ) → b < 256 → IsDigit (b / 16) (hex_digit (b / 16))
first_digit b lt = digit_is (b / 16) (omega arith)

last_digit : (b : ℕ) → IsDigit (b % 16) (hex_digit (b % 16))
last_digit b = digit_is (b % 16) (omega arith)

-- ---- packets

pair_read : (b i : ℕ) → b < 256 → pair_value (hex_digit (b / 16)) (hex_digit (b % 16)) i ≡ Ok b
pair_read b i lt =
    let first = (first_digit b lt).value in
    let last = (last_digit b).value in
    let whole : b / 16 * 16 + b % 16 ≡ b = omega arith in
    rw (first, last) (ap Ok whole)

pairs_read : (i : ℕ) (bytes : List ℕ) → AreBytes bytes → decode_pairs i (hex bytes) ≡ Ok bytes
unfolding decode_pairs
pairs_read i [] are = refl
pairs_read i (b ∷ bs) are =
    ap (λ r. r >>= (λ (byte : ℕ). decode_pairs (i + 2) (hex bs) >>= (λ (bytes : List ℕ). Ok (byte ∷ bytes)))) (pair_read b i are.0)
    ∙ ap (λ r. r >>= (λ (bytes : List ℕ). Ok (b ∷ bytes))) (pairs_read (i + 2) bs are.1)

twice_long : (bytes : List ℕ) → length (hex bytes) ≡ 2 * length bytes
twice_long [] = refl
twice_long (b ∷ bs) = omega (arith, twice_long bs)

all_lower : (bytes : List ℕ) → AreBytes bytes → list_all is_lower_digit (hex bytes) ≡ true
all_lower [] are = refl
all_lower (b ∷ bs) are =
    and_from (is_lower_digit (hex_digit (b / 16))) _ (first_digit b are.0).lower
    (and_from (is_lower_digit (hex_digit (b % 16))) _ (last_digit b).lower (all_lower bs are.1))

no_space : (bytes : List ℕ) → AreBytes bytes → list_all (λ b. not (eqb b 32)) (hex bytes) ≡ true
no_space [] are = refl
no_space (b ∷ bs) are =
    let first = (first_digit b are.0).high in
    let last = (last_digit b).high in
    and_from (not (eqb (hex_digit (b / 16)) 32)) _ (ap not (ne_eqb (hex_digit (b / 16)) 32 (λ e. omega arith)))
    (and_from (not (eqb (hex_digit (b % 16)) 32)) _ (ap not (ne_eqb (hex_digit (b % 16)) 32 (λ e. omega arith))) (no_space bs are.1))

pub hex_lacks : (bytes : List ℕ) → AreBytes bytes → Lacks 32 (hex bytes)
hex_lacks bytes are = word_lacks 32 (hex bytes) (no_space bytes are)

-- bytes that may be a packet
pub record IsPacketText (bytes : List ℕ) : Type 0 where
  pub bytes_are : AreBytes bytes
  pub some : 1 ≤ length bytes
  pub short : length bytes ≤ LONGEST_PACKET

pub hex_is : (bytes : List ℕ) → IsPacketText bytes → is_hex (hex bytes) ≡ true
hex_is bytes is =
    let long : length (hex bytes) ≡ 2 * length bytes = twice_long bytes in
    let some = is.some in
    let short = is.short in
    let a : leb 2 (length (hex bytes)) ≡ true = le-leb 2 (length (hex bytes)) (omega arith) in
    let b : leb (length (hex bytes)) (2 * LONGEST_PACKET) ≡ true = le-leb (length (hex bytes)) (2 * LONGEST_PACKET) (omega arith) in
    let even : length (hex bytes) % 2 ≡ 0 = omega arith in
    let c : eqb (length (hex bytes) % 2) 0 ≡ true = ap (λ n. eqb n 0) even in
    and_from (leb 2 (length (hex bytes)) && leb (length (hex bytes)) (2 * LONGEST_PACKET) && eqb (length (hex bytes) % 2) 0) _
    (and_from (leb 2 (length (hex bytes)) && leb (length (hex bytes)) (2 * LONGEST_PACKET)) _ (and_from (leb 2 (length (hex bytes))) _ a b) c)
    (all_lower bytes is.bytes_are)

pub packet_read : (bytes : List ℕ) → IsPacketText bytes → packet_of (hex bytes) ≡ Some bytes
packet_read bytes is =
    let long : length (hex bytes) ≡ 2 * length bytes = twice_long bytes in
    let even : length (hex bytes) % 2 ≡ 0 = omega arith in
    let allowed : is_packet bytes ≡ true = and_from (leb 1 (length bytes)) _ (le-leb 1 (length bytes) is.some) (le-leb (length bytes) LONGEST_PACKET is.short) in
    ap (λ b. cond b (packet_by (decode_of (hex bytes))) None) (hex_is bytes is)
    ∙ ap (λ n. packet_by (cond (eqb n 1) (Err OddLength) (decode_pairs 0 (hex bytes)))) even
    ∙ ap packet_by (pairs_read 0 bytes is.bytes_are)
    ∙ ap (λ b. cond b (Some bytes) None) allowed

-- ---- data

-- bytes as they are shown: plain ones, and what stands behind each backslash
record IsShown (text : List ℕ) : Type 0 where
  plain : List ℕ
  escapes : List (List ℕ)
  cut : parts 92 text ≡ plain ∷ escapes
  printable : are_printable plain ≡ true
  escaped : list_all is_escape escapes ≡ true

one_more : (b : ℕ) (text plain : List ℕ) (escapes : List (List ℕ)) → b ≢ 92 → parts 92 text ≡ plain ∷ escapes → parts 92 (b ∷ text) ≡ (b ∷ plain) ∷ escapes
one_more b text plain escapes other cut =
    slice_split-cons_no (λ (c : ℕ). eqb c 92) b text (ne_eqb b 92 other) ∙ ap (onto_first b) cut

plain_shown : (b : ℕ) (text : List ℕ) → leb 32 b && leb b 126 ≡ true → b ≢ 92 → IsShown text → IsShown (b ∷ text)
plain_shown b text range other rest = record {
  plain = b ∷ rest.plain;
  escapes = rest.escapes;
  cut = one_more b text rest.plain rest.escapes other rest.cut;
  printable = and_from (leb 32 b && leb b 126) _ range rest.printable;
  escaped = rest.escaped;
}

escape_shown : (b : ℕ) (text : List ℕ) → b < 256 → IsShown text → IsShown (codes "\\x" ++ hex_byte b ++ text)
escape_shown b text lt rest =
    let first = first_digit b lt in
    let last = last_digit b in
    let h : ℕ = hex_digit (b / 16) in
    let l : ℕ = hex_digit (b % 16) in
    let inner : parts 92 (120 ∷ h ∷ l ∷ text) ≡ (120 ∷ h ∷ l ∷ rest.plain) ∷ rest.escapes =
    one_more 120 (h ∷ l ∷ text) (h ∷ l ∷ rest.plain) rest.escapes (λ e. omega arith)
    (one_more h (l ∷ text) (l ∷ rest.plain) rest.escapes first.other (one_more l text rest.plain rest.escapes last.other rest.cut)) in
    record {
      plain = [];
      escapes = (120 ∷ h ∷ l ∷ rest.plain) ∷ rest.escapes;
      cut = slice_split-cons_yes (λ (c : ℕ). eqb c 92) 92 (120 ∷ h ∷ l ∷ text) refl ∙ ap (λ ps. [] ∷ ps) inner;
      printable = refl;
      escaped = and_from (is_escape (120 ∷ h ∷ l ∷ rest.plain)) _
          (and_from (is_lower_digit h && is_lower_digit l) _ (and_from (is_lower_digit h) _ first.lower last.lower) rest.printable) rest.escaped;
    }

not_same : (b : ℕ) → not (eqb b 92) ≡ true → b ≢ 92
not_same b h e = let wrong : not (eqb 92 92) ≡ true = subst (λ c. not (eqb c 92) ≡ true) e h in let P : ⊥ = cc in P

byte_shown : (b : ℕ) (text : List ℕ) → leb 32 b && leb b 126 ≡ true → IsShown text → IsShown (shown_byte b ++ text)
byte_shown b text range rest =
    let small = leb-true b 126 (and_parts (leb 32 b) (leb b 126) range).1 in
    if_case (λ t. IsShown (t ++ text)) (leb 32 b && leb b 126 && not (eqb b 92)) (b ∷ []) (codes "\\x" ++ hex_byte b)
    (λ plain. plain_shown b text range (not_same b (and_parts (leb 32 b && leb b 126) (not (eqb b 92)) plain).1) rest)
    (λ _. escape_shown b text (omega (arith, small)) rest)

body_shown : (body : List ℕ) → are_printable body ≡ true → IsShown (flat_map shown_byte body)
body_shown [] all = record { plain = []; escapes = []; cut = parts_none 92 [] (word_lacks 92 [] refl); printable = refl; escaped = refl }
body_shown (b ∷ bs) all =
    let both = and_parts (leb 32 b && leb b 126) (are_printable bs) all in
    byte_shown b (flat_map shown_byte bs) both.0 (body_shown bs both.1)

some_shown : (b : ℕ) (text : List ℕ) → 1 ≤ length (shown_byte b ++ text)
some_shown b text =
    if_case (λ t. 1 ≤ length (t ++ text)) (leb 32 b && leb b 126 && not (eqb b 92)) (b ∷ []) (codes "\\x" ++ hex_byte b) (λ _. omega arith) (λ _. omega arith)

some_bytes : (body : List ℕ) → 1 ≤ length body → 1 ≤ length (flat_map shown_byte body)
some_bytes [] some = absurd (omega arith)
some_bytes (b ∷ bs) some = some_shown b (flat_map shown_byte bs)

-- a datum is shown as such a text
pub body_read : (body : List ℕ) → are_printable body ≡ true → 1 ≤ length body → is_body (flat_map shown_byte body) ≡ true
body_read body all some =
    let shown = body_shown body all in
    and_from (leb 1 (length (flat_map shown_byte body))) _ (le-leb 1 (length (flat_map shown_byte body)) (some_bytes body some))
    (ap are_shown shown.cut ∙ and_from (are_printable shown.plain) _ shown.printable shown.escaped)
