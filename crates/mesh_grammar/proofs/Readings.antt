-- What is read stands as it is written.
use Rattle.std.proofs.Common.{◌≡◌, ◌⊎◌, inl, inr, ℕ, ◌^◌, ◌<◌, ◌≤◌, Bool, true, false, leb, cond, ◌&&◌, List, [], ◌∷◌, ◌++◌, Option, Some, None, Result, Ok, Err, length, refl, sym, ap, subst, ◌∙◌, arith, append_assoc, codes, leb-true}
use Rattle.std.specs.Prelude.{⊤}
use Rattle.std.specs.List.{AllByRecursion, join_with_byte}
use Rattle.std.specs.Str.{bytes_eq}
use Rattle.std.specs.Fmt.{decimal}
use Rattle.std.proofs.lemmas.Bool.{and_parts}
use Rattle.std.proofs.lemmas.List.Splits.{join_with_byte-slice_split}
use Rattle.std.proofs.lemmas.Slice.Eq.{bytes_eq-Decides}
use Rattle.std.proofs.lemmas.Option.{cond_some}
use Rattle.mesh_base.specs.declared.limits.TheConstants.{LONGEST_DATUM}
use Rattle.mesh_base.specs.Addresses.{address_of, dotted_decimal}
use Rattle.mesh_base.specs.Numbers.{number_up_to, positive}
use Rattle.mesh_base.specs.Parts.{parts}
use Rattle.mesh_base.proofs.Readings.{positive_in_range, address_fits}
use Rattle.mesh_grammar.specs.declared.fault.LineFault.{LineFault}
use Rattle.mesh_grammar.specs.declared.fault.LineFault.TheVariants.{BadAddress, BadNumber, BadText}
use Rattle.mesh_grammar.specs.declared.form.Form.{Form}
use Rattle.mesh_grammar.specs.declared.form.Form.TheVariants as form
use Rattle.mesh_grammar.specs.Words.{SpannedAddr, span_at, next_at, with_argument, address_at, number_at, are_printable, is_text, text_of, text_at, is_blank}
use Rattle.mesh_grammar.specs.Forms.{Arguments, NoArgument, OneAddress, TwoAddresses, OneNumber, NumberedAddress, AddressesAndText, AddressAndNumber, AddressAndText, greatest_first, no_argument, one_address, two_addresses, one_number, address_sn, numbered_address, addresses_and_text, address_and_number, address_and_text, arguments_of, IsText, AreOfForm}
use Rattle.mesh_grammar.specs.Scripts.{Row, Shape, row_in, shape_with, by_row, by_words, shape_by}
use Rattle.mesh_grammar.specs.Written.{command_text}
use Rattle.mesh_grammar.specs.Laws.{HaveAddresses, IsReadable, AreReadable, addresses_of, IsTextOf, IsRead, ReadLineIsWritten}
use Rattle.mesh_grammar.proofs.Canonical.{positive_is_written, address_is_written}

pub with_argument_case : {A B : Type 0} (P : Result B LineFault → Type 0) (o : Option A) (fault : LineFault) (next : A → Result B LineFault)
    → P (Err fault) → ((x : A) → o ≡ Some x → P (next x)) → P (with_argument o fault next)
with_argument_case P None fault next otherwise found = otherwise
with_argument_case P (Some x) fault next otherwise found = found x refl

pub if_case : {A : Type 0} (P : A → Type 0) (b : Bool) (x y : A) → (b ≡ true → P x) → (b ≡ false → P y) → P (cond b x y)
if_case P true x y then' else' = then' refl
if_case P false x y then' else' = else' refl

-- ---- texts

all_shown : (body : List ℕ) → are_printable body ≡ true → AllByRecursion (λ b. (32 ≤ b) × (b ≤ 126)) body
all_shown [] all = tt
all_shown (b ∷ bs) all =
    let each = and_parts (leb 32 b && leb b 126) (are_printable bs) all in
    let range = and_parts (leb 32 b) (leb b 126) each.0 in
    ((leb-true 32 b range.0, leb-true b 126 range.1), all_shown bs each.1)

pub is_text_if : (body : List ℕ) → is_text body ≡ true → IsText body
is_text_if body is =
    let each = and_parts (leb 1 (length body) && leb (length body) LONGEST_DATUM) (are_printable body) is in
    let range = and_parts (leb 1 (length body)) (leb (length body) LONGEST_DATUM) each.0 in
    (leb-true 1 (length body) range.0, leb-true (length body) LONGEST_DATUM range.1, all_shown body each.1)

-- ---- the arguments of each form

-- the words after a command are read as these arguments
record IsGiven (f : Form) (words : List (List ℕ)) (arguments : Arguments SpannedAddr) : Type 0 where
  form : AreOfForm f arguments
  addresses : HaveAddresses (addresses_of arguments)
  text : (word : List ℕ) → IsTextOf (join_with_byte 32 (word ∷ words)) word (addresses_of arguments)

Given : Form → List (List ℕ) → Result (Arguments SpannedAddr) LineFault → Type 0
Given f words (Err fault) = ⊤
Given f words (Ok arguments) = IsGiven f words arguments

module _ (f : Form) (words : List (List ℕ)) where
  address_case : (at : ℕ) (word : List ℕ) (next : SpannedAddr → Result (Arguments SpannedAddr) LineFault)
      → ((m : SpannedAddr) → m.address < 2 ^ 32 → dotted_decimal m.address ≡ word → Given f words (next m)) → Given f words (address_at at word next)
  unfolding Given
  address_case at word next given =
      with_argument_case (Given f words) (address_of word) (BadAddress (span_at at word)) (λ x. next (record { address = x; span = span_at at word })) tt
      (λ x is. given (record { address = x; span = span_at at word }) (address_fits word x is) (address_is_written word x is))

  number_case : (most at : ℕ) (word : List ℕ) (next : ℕ → Result (Arguments SpannedAddr) LineFault) → most < 2 ^ 64
      → ((n : ℕ) → 1 ≤ n → n ≤ most → decimal n ≡ word → Given f words (next n)) → Given f words (number_at most at word next)
  unfolding Given
  number_case most at word next fits given =
      with_argument_case (Given f words) (positive (number_up_to most word)) (BadNumber (span_at at word)) next tt
      (λ n is.
      let range = positive_in_range most word n is in
      given n range.0 range.1 (positive_is_written most word n is (omega (arith, range.1, fits))))

  text_case : (at : ℕ) (bytes : List ℕ) (next : List ℕ → Result (Arguments SpannedAddr) LineFault)
      → (IsText bytes → Given f words (next bytes)) → Given f words (text_at at bytes next)
  unfolding Given
  text_case at bytes next given =
      with_argument_case (Given f words) (text_of bytes) (BadText (span_at at bytes)) next tt
      (λ body is.
      let both = cond_some (is_text bytes) bytes body is in
      subst (λ text. Given f words (next text)) both.1 (given (is_text_if bytes both.0)))

none_given : (words : List (List ℕ)) → Given form.Bare words (no_argument words NoArgument)
unfolding Given command_text
none_given [] = record { form = tt; addresses = tt; text = λ word. refl }
none_given (w ∷ ws) = tt

one_given : (at : ℕ) (words : List (List ℕ)) → Given form.Address words (one_address at words OneAddress)
unfolding Given command_text
one_given at [] = tt
one_given at (a ∷ []) =
    address_case form.Address (a ∷ []) at a (λ m. Ok (OneAddress m)) (λ m fits is.
    record { form = tt; addresses = fits; text = λ word. ap (λ t. word ++ 32 ∷ t) (sym is) })
one_given at (a ∷ b ∷ ws) = tt

pub two_texts : (word a b : List ℕ) → word ++ 32 ∷ (a ++ 32 ∷ b) ≡ word ++ 32 ∷ a ++ 32 ∷ b
two_texts word a b = simp append_assoc

two_given : (at : ℕ) (words : List (List ℕ)) → Given form.Addresses words (two_addresses at words TwoAddresses)
unfolding Given command_text
two_given at [] = tt
two_given at (a ∷ []) = tt
two_given at (a ∷ b ∷ []) =
    address_case form.Addresses (a ∷ b ∷ []) at a (λ m. address_at (next_at at a) b (λ n. Ok (TwoAddresses m n))) (λ m m_fits m_is.
    address_case form.Addresses (a ∷ b ∷ []) (next_at at a) b (λ n. Ok (TwoAddresses m n)) (λ n n_fits n_is.
    record { form = tt; addresses = (m_fits, n_fits); text = λ word. rw (m_is, n_is) (two_texts word a b) }))
two_given at (a ∷ b ∷ c ∷ ws) = tt

number_given : (most at : ℕ) (words : List (List ℕ)) → most < 2 ^ 64 → Given (form.Number most) words (one_number most at words OneNumber)
unfolding Given command_text
number_given most at [] fits = tt
number_given most at (n ∷ []) fits =
    number_case (form.Number most) (n ∷ []) most at n (λ k. Ok (OneNumber k)) fits (λ k one le is.
    record { form = (one, le); addresses = tt; text = λ word. ap (λ t. word ++ 32 ∷ t) (sym is) })
number_given most at (n ∷ m ∷ ws) fits = tt

pub sn_text : (word a n : List ℕ) → word ++ 32 ∷ (a ++ 32 ∷ (codes "sn" ++ 32 ∷ n)) ≡ word ++ 32 ∷ a ++ codes " sn " ++ n
sn_text word a n = simp append_assoc

sn_given : (at : ℕ) (a sn n : List ℕ) → Given form.Numbered (a ∷ sn ∷ n ∷ []) (address_sn at a sn n NumberedAddress)
unfolding Given command_text
sn_given at a sn n =
    let ws : List (List ℕ) = a ∷ sn ∷ n ∷ [] in
    let third : ℕ = next_at (next_at at a) sn in
    if_case (Given form.Numbered ws) (bytes_eq sn (codes "sn")) _ _
    (λ same.
    let sn_is : sn ≡ codes "sn" = (bytes_eq-Decides sn (codes "sn")).0 same in
    address_case form.Numbered ws at a (λ m. number_at greatest_first third n (λ k. Ok (NumberedAddress m k))) (λ m fits m_is.
    number_case form.Numbered ws greatest_first third n (λ k. Ok (NumberedAddress m k)) (omega arith) (λ k one le k_is.
    record { form = (one, le); addresses = fits; text = λ word. inl (rw (sn_is, m_is, k_is) (sn_text word a n)) })))
    (λ _. tt)

numbered_given : (at : ℕ) (words : List (List ℕ)) → Given form.Numbered words (numbered_address at words NumberedAddress)
unfolding Given command_text numbered_address
numbered_given at [] = tt
numbered_given at (a ∷ []) =
    address_case form.Numbered (a ∷ []) at a (λ m. Ok (NumberedAddress m 1)) (λ m fits is.
    record { form = (omega arith, omega arith); addresses = fits; text = λ word. inr (refl, ap (λ t. word ++ 32 ∷ t) (sym is)) })
numbered_given at (a ∷ sn ∷ []) = tt
numbered_given at (a ∷ sn ∷ n ∷ []) = sn_given at a sn n
numbered_given at (a ∷ sn ∷ n ∷ m ∷ ws) = tt

pub three_texts : (word a b c : List ℕ) → word ++ 32 ∷ (a ++ 32 ∷ (b ++ 32 ∷ c)) ≡ word ++ 32 ∷ a ++ 32 ∷ b ++ 32 ∷ c
three_texts word a b c = simp append_assoc

text_given : (at : ℕ) (words : List (List ℕ)) → Given form.Text words (addresses_and_text at words AddressesAndText)
unfolding Given command_text addresses_and_text
text_given at [] = tt
text_given at (a ∷ []) = tt
text_given at (a ∷ b ∷ []) = tt
text_given at (a ∷ b ∷ t ∷ ts) =
    let ws : List (List ℕ) = a ∷ b ∷ t ∷ ts in
    let body : List ℕ = join_with_byte 32 (t ∷ ts) in
    let second : ℕ = next_at at a in
    let third : ℕ = next_at second b in
    address_case form.Text ws at a (λ m. address_at second b (λ n. text_at third body (λ text. Ok (AddressesAndText m n text)))) (λ m m_fits m_is.
    address_case form.Text ws second b (λ n. text_at third body (λ text. Ok (AddressesAndText m n text))) (λ n n_fits n_is.
    text_case form.Text ws third body (λ text. Ok (AddressesAndText m n text)) (λ is.
    record { form = is; addresses = (m_fits, n_fits); text = λ word. rw (m_is, n_is) (three_texts word a b body) })))

address_number_given : (most at : ℕ) (words : List (List ℕ)) → most < 2 ^ 64
    → Given (form.AddressNumber most) words (address_and_number most at words AddressAndNumber)
unfolding Given command_text
address_number_given most at [] fits = tt
address_number_given most at (a ∷ []) fits = tt
address_number_given most at (a ∷ n ∷ []) fits =
    let f : Form = form.AddressNumber most in
    let ws : List (List ℕ) = a ∷ n ∷ [] in
    address_case f ws at a (λ m. number_at most (next_at at a) n (λ k. Ok (AddressAndNumber m k))) (λ m m_fits m_is.
    number_case f ws most (next_at at a) n (λ k. Ok (AddressAndNumber m k)) fits (λ k one le k_is.
    record { form = (one, le); addresses = m_fits; text = λ word. rw (m_is, k_is) (two_texts word a n) }))
address_number_given most at (a ∷ n ∷ w ∷ ws) fits = tt

address_text_given : (at : ℕ) (words : List (List ℕ)) → Given form.AddressText words (address_and_text at words AddressAndText)
unfolding Given command_text address_and_text
address_text_given at [] = tt
address_text_given at (a ∷ []) = tt
address_text_given at (a ∷ t ∷ ts) =
    let ws : List (List ℕ) = a ∷ t ∷ ts in
    let body : List ℕ = join_with_byte 32 (t ∷ ts) in
    let second : ℕ = next_at at a in
    address_case form.AddressText ws at a (λ m. text_at second body (λ text. Ok (AddressAndText m text))) (λ m m_fits m_is.
    text_case form.AddressText ws second body (λ text. Ok (AddressAndText m text)) (λ is.
    record { form = is; addresses = m_fits; text = λ word. rw m_is (two_texts word a body) }))

arguments_given : (f : Form) (at : ℕ) (words : List (List ℕ)) → IsReadable f → Given f words (arguments_of f at words)
arguments_given form.Bare at words readable = none_given words
arguments_given form.Address at words readable = one_given at words
arguments_given form.Addresses at words readable = two_given at words
arguments_given (form.Number most) at words readable = number_given most at words readable
arguments_given form.Numbered at words readable = numbered_given at words
arguments_given form.Text at words readable = text_given at words
arguments_given (form.AddressNumber most) at words readable = address_number_given most at words readable
arguments_given form.AddressText at words readable = address_text_given at words

-- ---- the row of the first word

first_or : {A : Type 0} (b : Bool) (o : Option A) (x y : A) → cond b (Some x) o ≡ Some y → ((b ≡ true) × (x ≡ y)) ⊎ (o ≡ Some y)
first_or true o x y h = inl (refl, cc)
first_or false o x y h = inr h

module _ {C : Type 0} where
  found_word : (rows : List (Row C)) (word : List ℕ) (row : Row C) → row_in rows word ≡ Some row → word ≡ row.word
  found_word [] word row h = absurd (let P : ⊥ = cc in P)
  found_word (r ∷ rs) word row h =
      elim (first_or (bytes_eq word r.word) (row_in rs word) r row h) [
        | inl is ↦ (bytes_eq-Decides word r.word).0 is.0 ∙ ap (λ q. q.word) is.1
        | inr later ↦ found_word rs word row later
      ]

  -- what holds of each row of a table holds of the one that a word finds
  pub row_found : (P : Row C → Type 0) (rows : List (Row C)) (word : List ℕ) (row : Row C) → AllByRecursion P rows
      → row_in rows word ≡ Some row → P row
  row_found P [] word row all h = absurd (let Q : ⊥ = cc in Q)
  row_found P (r ∷ rs) word row all h =
      elim (first_or (bytes_eq word r.word) (row_in rs word) r row h) [
        | inl is ↦ subst P is.1 all.0
        | inr later ↦ row_found P rs word row all.1 later
      ]

  -- a blank line, or one of the table
  unfoldable pub LineRead : List (Row C) → List ℕ → Result (Option (Shape C SpannedAddr)) LineFault → Type 0
  LineRead rows line (Err fault) = ⊤
  LineRead rows line (Ok None) = is_blank line ≡ true
  LineRead rows line (Ok (Some s)) = (row : Row C) × IsRead rows line s row

  given_read : (rows : List (Row C)) (row : Row C) (words : List (List ℕ)) (r : Result (Arguments SpannedAddr) LineFault)
      → row_in rows row.word ≡ Some row → Given row.form words r
      → LineRead rows (join_with_byte 32 (row.word ∷ words)) (shape_with row.command r)
  unfolding Given LineRead
  given_read rows row words (Err fault) found given = tt
  given_read rows row words (Ok arguments) found given =
      (row, record { found = found; command = refl; form = given.form; addresses = given.addresses; text = given.text row.word })

  row_read : (rows : List (Row C)) (o : Option (Row C)) (word : List ℕ) (words : List (List ℕ))
      → AreReadable rows → row_in rows word ≡ o
      → LineRead rows (join_with_byte 32 (word ∷ words)) (by_row o word words)
  unfolding LineRead
  row_read rows None word words readable is = tt
  row_read rows (Some row) word words readable is =
      let same : word ≡ row.word = found_word rows word row is in
      let found : row_in rows row.word ≡ Some row = ap (row_in rows) (sym same) ∙ is in
      let given = arguments_given row.form (next_at 0 word) words (row_found (λ row. IsReadable row.form) rows word row readable is) in
      subst (λ w. LineRead rows (join_with_byte 32 (w ∷ words)) (by_row (Some row) word words)) (sym same)
      (given_read rows row words (arguments_of row.form (next_at 0 word) words) found given)

  words_read : (rows : List (Row C)) (words : List (List ℕ)) → AreReadable rows
      → LineRead rows (join_with_byte 32 words) (by_words rows words)
  unfolding LineRead
  words_read rows [] readable = tt
  words_read rows (word ∷ words) readable = row_read rows (row_in rows word) word words readable refl

  pub line_read : (rows : List (Row C)) (line : List ℕ) → AreReadable rows
      → LineRead rows line (shape_by rows line)
  unfolding LineRead shape_by
  line_read rows line readable =
      if_case (LineRead rows line) (is_blank line) (Ok None) (by_words rows (parts 32 line)) (λ blank. blank)
      (λ _. subst (λ l. LineRead rows l (by_words rows (parts 32 line))) (join_with_byte-slice_split 32 line) (words_read rows (parts 32 line) readable))

pub read_line_is_written : (C : Type 0) → ReadLineIsWritten C
unfolding LineRead
read_line_is_written C rows line s readable is = subst (LineRead rows line) is (line_read rows line readable)
