-- What is written is read as it was.
use Rattle.std.proofs.Common.{◌≡◌, ◌≢◌, ℕ, ◌^◌, ◌<◌, ◌≤◌, Bool, true, false, eqb, leb, cond, ◌&&◌, List, [], ◌∷◌, ◌++◌, Some, None, Result, Ok, length, refl, sym, ap, ◌∙◌, arith, append_assoc, codes}
use Rattle.std.specs.List.{AllByRecursion, join_with_byte}
use Rattle.std.specs.Fmt.{decimal}
use Rattle.std.proofs.lemmas.Bool.{ne_eqb, le-leb, and_from}
use Rattle.std.proofs.lemmas.List.Splits.{length-slice_split, join_with_byte-slice_split}
use Rattle.mesh_base.specs.declared.limits.TheConstants.{LONGEST_DATUM}
use Rattle.mesh_base.specs.Parts.{parts}
use Rattle.mesh_base.specs.Addresses.{dotted_decimal}
use Rattle.mesh_base.proofs.WrittenForms.{Lacks, one_lacks, parts_at, parts_none, decimal_lacks, dotted_lacks, positive-decimal, address_of-dotted}
use Rattle.mesh_grammar.specs.declared.fault.LineFault.{LineFault}
use Rattle.mesh_grammar.specs.declared.fault.LineFault.TheVariants.{BadAddress, BadNumber, BadText}
use Rattle.mesh_grammar.specs.declared.form.Form.{Form}
use Rattle.mesh_grammar.specs.declared.form.Form.TheVariants as form
use Rattle.mesh_grammar.specs.Words.{SpannedAddr, span_at, next_at, with_argument, address_at, number_at, are_printable, is_text, text_of, text_at, is_blank}
use Rattle.mesh_grammar.specs.Forms.{Arguments, NoArgument, OneAddress, TwoAddresses, OneNumber, NumberedAddress, AddressesAndText, AddressAndNumber, AddressAndText, greatest_first, numbered_address, addresses_and_text, address_and_text, arguments_of, IsText, AreOfForm}
use Rattle.mesh_grammar.specs.Scripts.{Row, row_in, shape_with, by_row, by_words, shape_by}
use Rattle.mesh_grammar.specs.Written.{command_text}
use Rattle.mesh_grammar.proofs.Readings.{sn_text, two_texts, three_texts}
use Rattle.mesh_grammar.specs.Laws.{spanned, after_address, as_spanned, HaveAddresses, IsReadable, WrittenLineIsRead}

-- ---- one argument

pub address_there : {B : Type 0} (at a : ℕ) (next : SpannedAddr → Result B LineFault) → a < 2 ^ 32 → address_at at (dotted_decimal a) next ≡ next (spanned at a)
address_there {B} at a next fits =
    let next_of : ℕ → Result B LineFault = λ n. next (record { address = n; span = span_at at (dotted_decimal a) }) in
    ap (λ o. with_argument o (BadAddress (span_at at (dotted_decimal a))) next_of) (address_of-dotted a fits)

pub number_there : {B : Type 0} (most at n : ℕ) (next : ℕ → Result B LineFault) → 1 ≤ n → n ≤ most → n < 2 ^ 64 → number_at most at (decimal n) next ≡ next n
number_there most at n next one le fits = ap (λ o. with_argument o (BadNumber (span_at at (decimal n))) next) (positive-decimal most n one le fits)

all_shown : (body : List ℕ) → AllByRecursion (λ b. (32 ≤ b) × (b ≤ 126)) body → are_printable body ≡ true
all_shown [] all = refl
all_shown (b ∷ bs) all =
    and_from (leb 32 b && leb b 126) _ (and_from (leb 32 b) (leb b 126) (le-leb 32 b all.0.0) (le-leb b 126 all.0.1)) (all_shown bs all.1)

pub text_is : (body : List ℕ) → IsText body → is_text body ≡ true
text_is body is =
    let low : leb 1 (length body) ≡ true = le-leb 1 (length body) is.0 in
    let high : leb (length body) LONGEST_DATUM ≡ true = le-leb (length body) LONGEST_DATUM is.1 in
    let short : leb 1 (length body) && leb (length body) LONGEST_DATUM ≡ true = and_from (leb 1 (length body)) (leb (length body) LONGEST_DATUM) low high in
    and_from (leb 1 (length body) && leb (length body) LONGEST_DATUM) _ short (all_shown body is.2)

is_text_of : (body : List ℕ) → IsText body → text_of body ≡ Some body
is_text_of body is = ap (λ b. cond b (Some body) None) (text_is body is)

pub text_there : {B : Type 0} (at : ℕ) (body : List ℕ) (next : List ℕ → Result B LineFault) → IsText body → text_at at body next ≡ next body
text_there at body next is = ap (λ o. with_argument o (BadText (span_at at body)) next) (is_text_of body is)

-- ---- the words of arguments

unfoldable pub words_in : Arguments ℕ → List (List ℕ)
words_in NoArgument = []
words_in (OneAddress a) = dotted_decimal a ∷ []
words_in (TwoAddresses a b) = dotted_decimal a ∷ dotted_decimal b ∷ []
words_in (OneNumber n) = decimal n ∷ []
words_in (NumberedAddress a first) = dotted_decimal a ∷ codes "sn" ∷ decimal first ∷ []
words_in (AddressesAndText a b text) = dotted_decimal a ∷ dotted_decimal b ∷ parts 32 text
words_in (AddressAndNumber a n) = dotted_decimal a ∷ decimal n ∷ []
words_in (AddressAndText a text) = dotted_decimal a ∷ parts 32 text

-- numbers have at most 64 bits
unfoldable pub HaveNumbers : Arguments ℕ → Type 0
HaveNumbers (OneNumber n) = n < 2 ^ 64
HaveNumbers (NumberedAddress a first) = first < 2 ^ 64
HaveNumbers (AddressAndNumber a n) = n < 2 ^ 64
HaveNumbers others = Unit {0}

module _ (word : List ℕ) (lacks : Lacks 32 word) where
  after_name : (a : ℕ) (rest : List ℕ) → a < 2 ^ 32 → parts 32 (word ++ 32 ∷ (dotted_decimal a ++ 32 ∷ rest)) ≡ word ∷ dotted_decimal a ∷ parts 32 rest
  after_name a rest fits =
      parts_at 32 word (dotted_decimal a ++ 32 ∷ rest) lacks
      ∙ ap (λ ws. word ∷ ws) (parts_at 32 (dotted_decimal a) rest (dotted_lacks 32 a (omega arith) fits))

  only_name : (a : ℕ) → a < 2 ^ 32 → parts 32 (dotted_decimal a) ≡ dotted_decimal a ∷ []
  only_name a fits = parts_none 32 (dotted_decimal a) (dotted_lacks 32 a (omega arith) fits)

  only_number : (n : ℕ) → n < 2 ^ 64 → parts 32 (decimal n) ≡ decimal n ∷ []
  only_number n fits = parts_none 32 (decimal n) (decimal_lacks 32 n (omega arith) fits)

  pub words_written : (arguments : Arguments ℕ) → HaveAddresses arguments → HaveNumbers arguments → parts 32 (command_text word arguments) ≡ word ∷ words_in arguments
  unfolding command_text words_in HaveNumbers
  words_written NoArgument fit low = parts_none 32 word lacks
  words_written (OneAddress a) fit low = parts_at 32 word (dotted_decimal a) lacks ∙ ap (λ ws. word ∷ ws) (only_name a fit)
  words_written (TwoAddresses a b) fit low =
      ap (parts 32) (append_assoc word (32 ∷ dotted_decimal a) (32 ∷ dotted_decimal b))
      ∙ after_name a (dotted_decimal b) fit.0
      ∙ ap (λ ws. word ∷ dotted_decimal a ∷ ws) (only_name b fit.1)
  words_written (OneNumber n) fit low = parts_at 32 word (decimal n) lacks ∙ ap (λ ws. word ∷ ws) (only_number n low)
  words_written (NumberedAddress a first) fit low =
      ap (parts 32) (sym (sn_text word (dotted_decimal a) (decimal first)))
      ∙ after_name a (codes "sn" ++ 32 ∷ decimal first) fit
      ∙ ap (λ ws. word ∷ dotted_decimal a ∷ codes "sn" ∷ ws) (only_number first low)
  words_written (AddressesAndText a b text) fit low =
      ap (parts 32) (sym (three_texts word (dotted_decimal a) (dotted_decimal b) text))
      ∙ after_name a (dotted_decimal b ++ 32 ∷ text) fit.0
      ∙ ap (λ ws. word ∷ dotted_decimal a ∷ ws) (parts_at 32 (dotted_decimal b) text (dotted_lacks 32 b (omega arith) fit.1))
  words_written (AddressAndNumber a n) fit low =
      ap (parts 32) (sym (two_texts word (dotted_decimal a) (decimal n)))
      ∙ after_name a (decimal n) fit
      ∙ ap (λ ws. word ∷ dotted_decimal a ∷ ws) (only_number n low)
  words_written (AddressAndText a text) fit low =
      ap (parts 32) (sym (two_texts word (dotted_decimal a) text)) ∙ after_name a text fit

-- ---- the arguments of each form

module _ (at : ℕ) where
  one_there : (a : ℕ) → a < 2 ^ 32 → arguments_of form.Address at (dotted_decimal a ∷ []) ≡ Ok (OneAddress (spanned at a))
  one_there a fits = address_there at a (λ x. Ok (OneAddress x)) fits

  two_there : (a b : ℕ) → a < 2 ^ 32 → b < 2 ^ 32
      → arguments_of form.Addresses at (dotted_decimal a ∷ dotted_decimal b ∷ []) ≡ Ok (TwoAddresses (spanned at a) (spanned (after_address at a) b))
  two_there a b a_fits b_fits =
      address_there at a (λ x. address_at (after_address at a) (dotted_decimal b) (λ y. Ok (TwoAddresses x y))) a_fits
      ∙ address_there (after_address at a) b (λ y. Ok (TwoAddresses (spanned at a) y)) b_fits

  count_there : (most n : ℕ) → most < 2 ^ 64 → 1 ≤ n → n ≤ most → arguments_of (form.Number most) at (decimal n ∷ []) ≡ Ok (OneNumber n)
  count_there most n fits one le = number_there most at n (λ k. Ok (OneNumber k)) one le (omega arith)

  numbered_there : (a first : ℕ) → a < 2 ^ 32 → 1 ≤ first → first ≤ greatest_first
      → arguments_of form.Numbered at (dotted_decimal a ∷ codes "sn" ∷ decimal first ∷ []) ≡ Ok (NumberedAddress (spanned at a) first)
  unfolding numbered_address
  numbered_there a first fits one le =
      let third : ℕ = next_at (after_address at a) (codes "sn") in
      address_there at a (λ x. number_at greatest_first third (decimal first) (λ n. Ok (NumberedAddress x n))) fits
      ∙ number_there greatest_first third first (λ n. Ok (NumberedAddress (spanned at a) n)) one le (omega arith)

  -- the words of the text, joined again
  text_joined : (a b : ℕ) (text : List ℕ) (ws : List (List ℕ)) → 1 ≤ length ws → join_with_byte 32 ws ≡ text → a < 2 ^ 32 → b < 2 ^ 32 → IsText text
      → arguments_of form.Text at (dotted_decimal a ∷ dotted_decimal b ∷ ws) ≡ Ok (AddressesAndText (spanned at a) (spanned (after_address at a) b) text)
  unfolding addresses_and_text
  text_joined a b text [] some joined a_fits b_fits is = absurd (omega arith)
  text_joined a b text (t ∷ ts) some joined a_fits b_fits is =
      let second : ℕ = after_address at a in
      let third : ℕ = after_address second b in
      let body : List ℕ = join_with_byte 32 (t ∷ ts) in
      address_there at a (λ x. address_at second (dotted_decimal b) (λ y. text_at third body (λ z. Ok (AddressesAndText x y z)))) a_fits
      ∙ address_there second b (λ y. text_at third body (λ z. Ok (AddressesAndText (spanned at a) y z))) b_fits
      ∙ ap (λ l. text_at third l (λ z. Ok (AddressesAndText (spanned at a) (spanned second b) z))) joined
      ∙ text_there third text (λ z. Ok (AddressesAndText (spanned at a) (spanned second b) z)) is

  texts_there : (a b : ℕ) (text : List ℕ) → a < 2 ^ 32 → b < 2 ^ 32 → IsText text
      → arguments_of form.Text at (dotted_decimal a ∷ dotted_decimal b ∷ parts 32 text) ≡ Ok (AddressesAndText (spanned at a) (spanned (after_address at a) b) text)
  texts_there a b text a_fits b_fits is =
      text_joined a b text (parts 32 text) (omega (arith, length-slice_split (λ c. eqb c 32) text)) (join_with_byte-slice_split 32 text) a_fits b_fits is

  number_after : (most a n : ℕ) → most < 2 ^ 64 → a < 2 ^ 32 → 1 ≤ n → n ≤ most
      → arguments_of (form.AddressNumber most) at (dotted_decimal a ∷ decimal n ∷ []) ≡ Ok (AddressAndNumber (spanned at a) n)
  number_after most a n fits a_fits one le =
      address_there at a (λ x. number_at most (after_address at a) (decimal n) (λ k. Ok (AddressAndNumber x k))) a_fits
      ∙ number_there most (after_address at a) n (λ k. Ok (AddressAndNumber (spanned at a) k)) one le (omega arith)

  -- the words of the text, joined again
  one_text_joined : (a : ℕ) (text : List ℕ) (ws : List (List ℕ)) → 1 ≤ length ws → join_with_byte 32 ws ≡ text → a < 2 ^ 32 → IsText text
      → arguments_of form.AddressText at (dotted_decimal a ∷ ws) ≡ Ok (AddressAndText (spanned at a) text)
  unfolding address_and_text
  one_text_joined a text [] some joined fits is = absurd (omega arith)
  one_text_joined a text (t ∷ ts) some joined fits is =
      let second : ℕ = after_address at a in
      address_there at a (λ x. text_at second (join_with_byte 32 (t ∷ ts)) (λ z. Ok (AddressAndText x z))) fits
      ∙ ap (λ l. text_at second l (λ z. Ok (AddressAndText (spanned at a) z))) joined
      ∙ text_there second text (λ z. Ok (AddressAndText (spanned at a) z)) is

  text_after : (a : ℕ) (text : List ℕ) → a < 2 ^ 32 → IsText text
      → arguments_of form.AddressText at (dotted_decimal a ∷ parts 32 text) ≡ Ok (AddressAndText (spanned at a) text)
  text_after a text fits is =
      one_text_joined a text (parts 32 text) (omega (arith, length-slice_split (λ c. eqb c 32) text)) (join_with_byte-slice_split 32 text) fits is

  arguments_there : (f : Form) (arguments : Arguments ℕ) → IsReadable f → AreOfForm f arguments → HaveAddresses arguments
      → arguments_of f at (words_in arguments) ≡ Ok (as_spanned at arguments)
  unfolding words_in
  arguments_there form.Bare NoArgument readable is fit = refl
  arguments_there form.Address (OneAddress a) readable is fit = one_there a fit
  arguments_there form.Addresses (TwoAddresses a b) readable is fit = two_there a b fit.0 fit.1
  arguments_there (form.Number most) (OneNumber n) readable is fit = count_there most n readable is.0 is.1
  arguments_there form.Numbered (NumberedAddress a first) readable is fit = numbered_there a first fit is.0 is.1
  arguments_there form.Text (AddressesAndText a b text) readable is fit = texts_there a b text fit.0 fit.1 is
  arguments_there (form.AddressNumber most) (AddressAndNumber a n) readable is fit = number_after most a n readable fit is.0 is.1
  arguments_there form.AddressText (AddressAndText a text) readable is fit = text_after a text fit is
  arguments_there other arguments readable is fit = absurd is

numbers_fit : (f : Form) (arguments : Arguments ℕ) → IsReadable f → AreOfForm f arguments → HaveNumbers arguments
unfolding HaveNumbers
numbers_fit (form.Number most) (OneNumber n) readable is = omega (arith, is.1)
numbers_fit form.Numbered (NumberedAddress a first) readable is = omega (arith, is.1)
numbers_fit form.Bare NoArgument readable is = tt
numbers_fit form.Address (OneAddress a) readable is = tt
numbers_fit form.Addresses (TwoAddresses a b) readable is = tt
numbers_fit form.Text (AddressesAndText a b text) readable is = tt
numbers_fit (form.AddressNumber most) (AddressAndNumber a n) readable is = omega (arith, is.1)
numbers_fit form.AddressText (AddressAndText a text) readable is = tt
numbers_fit other arguments readable is = absurd is

-- ---- the line

lacks_space : (word : List ℕ) → AllByRecursion (λ b. b ≢ 32) word → Lacks 32 word
lacks_space [] whole = λ k d lt. absurd (omega arith)
lacks_space (b ∷ bs) whole = one_lacks 32 b bs (ne_eqb b 32 whole.0) (lacks_space bs whole.1)

not_shown : (b : Bool) → b ≢ true → b ≡ false
not_shown true h = absurd (h refl)
not_shown false h = refl

-- a line that begins with a word is not blank
begins : (word : List ℕ) (arguments : Arguments ℕ) → is_blank word ≢ true → is_blank (command_text word arguments) ≡ false
unfolding command_text
begins [] arguments shown = absurd (shown refl)
begins (b ∷ bs) NoArgument shown = not_shown (eqb b 35) shown
begins (b ∷ bs) arguments shown = not_shown (eqb b 35) shown

module _ {C : Type 0} where
  by_words_there : (rows : List (Row C)) (row : Row C) (words : List (List ℕ)) (arguments : Arguments SpannedAddr)
      → row_in rows row.word ≡ Some row → arguments_of row.form (next_at 0 row.word) words ≡ Ok arguments
      → by_words rows (row.word ∷ words) ≡ Ok (Some (record { command = row.command; arguments = arguments }))
  by_words_there rows row words arguments found is =
      ap (λ o. by_row o row.word words) found ∙ ap (shape_with row.command) is

  line_there : (rows : List (Row C)) (row : Row C) (line : List ℕ) (words : List (List ℕ)) (arguments : Arguments SpannedAddr)
      → is_blank line ≡ false → parts 32 line ≡ row.word ∷ words
      → row_in rows row.word ≡ Some row → arguments_of row.form (next_at 0 row.word) words ≡ Ok arguments
      → shape_by rows line ≡ Ok (Some (record { command = row.command; arguments = arguments }))
  unfolding shape_by
  line_there rows row line words arguments shown cut found is =
      ap (λ b. cond b (Ok None) (by_words rows (parts 32 line))) shown
      ∙ ap (by_words rows) cut ∙ by_words_there rows row words arguments found is

pub written_line_is_read : (C : Type 0) → WrittenLineIsRead C
written_line_is_read C rows row arguments is =
    let lacks : Lacks 32 row.word = lacks_space row.word is.word.whole in
    let numbers : HaveNumbers arguments = numbers_fit row.form arguments is.readable is.form in
    line_there rows row (command_text row.word arguments) (words_in arguments) (as_spanned (next_at 0 row.word) arguments)
    (begins row.word arguments is.word.shown)
    (words_written row.word lacks arguments is.addresses numbers)
    is.found
    (arguments_there (next_at 0 row.word) row.form arguments is.readable is.form is.addresses)
