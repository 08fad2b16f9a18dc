-- A word is not alone where others stand behind it.
use Rattle.std.proofs.Common.{◌≡◌, ℕ, ◌≤◌, Bool, true, false, List, [], ◌∷◌, length, Option, Some, None, refl, arith, ◌∙◌, cond, zero, suc, ap, sym, ◌&&◌, ◌<◌, drop, not}
use Rattle.std.specs.Prelude.{is_some}
use Rattle.std.proofs.lemmas.List.Splits.{join_with_byte-slice_split}
use Rattle.std.specs.List.{join_with_byte}
use Rattle.std.specs.Borrow.{Bor}
use Rattle.mesh_base.specs.Parts.{parts, rest_parts}
use Rattle.mesh_lines.specs.declared.form.Field.{Field}
use Rattle.mesh_lines.specs.Lines.{is_full, is_full_by, is_refusal, is_refusal_by}
use Rattle.mesh_base.specs.Addresses.{address_of}
use Rattle.mesh_base.specs.Numbers.{number_up_to}
use Rattle.mesh_base.proofs.AddressLaws.{address_word, number_word}
use Rattle.mesh_base.proofs.Lemmas.Lists.{some_parts}
use Rattle.mesh_grammar.specs.Commands.{greatest_id}
use Rattle.mesh_grammar.proofs.Canonical.{positive_is}
use Rattle.std.proofs.lemmas.Option.{none-some}
use Rattle.mesh_lines.specs.Forms.{alone, are, text_behind, is_address}
use Rattle.mesh_lines.specs.Belows.{number_of}
use Rattle.mesh_lines.specs.Words.{one_word, two_words, three_words}

more_than_one : (word : List ℕ) (words : List (List ℕ)) → 1 ≤ length words → one_word (word ∷ words) ≡ None
more_than_one word [] h = absurd (omega arith)
more_than_one word (next ∷ words) h = refl

pub not_one : (sep : ℕ) (word rest : List ℕ) → one_word (word ∷ parts sep rest) ≡ None
not_one sep word rest = more_than_one word (parts sep rest) (some_parts sep rest)

some_words : (words : List (List ℕ)) → 1 ≤ length words → are [] words ≡ false
some_words [] h = absurd (omega arith)
some_words (word ∷ words) h = refl

-- no words are left for a field
pub no_more_words : (fields : List Field) (k : ℕ) → k < length fields → are (drop k fields) [] ≡ false
no_more_words [] k lt = absurd (omega arith)
no_more_words (field ∷ fields) zero lt = refl
no_more_words (field ∷ fields) (suc k) lt = no_more_words fields k (omega arith)

-- no fields are left
pub past : (fields : List Field) (k : ℕ) → length fields ≤ k → drop k fields ≡ []
past [] zero le = refl
past [] (suc k) le = refl
past (field ∷ fields) zero le = absurd (omega arith)
past (field ∷ fields) (suc k) le = past fields k (omega arith)

-- words are left
pub not_all_words : (rest : List ℕ) → are [] (parts 32 rest) ≡ false
not_all_words rest = some_words (parts 32 rest) (some_parts 32 rest)

pub all_read : (rest : Option (Bor (List ℕ))) (none : Bool) → is_some rest ≡ not none → are [] (rest_parts 32 rest) ≡ none
all_read None true is = refl
all_read None false is = sym is
all_read (Some text) true is = not_all_words text.now ∙ sym is
all_read (Some text) false is = not_all_words text.now

joined : (from to : List ℕ) (words : List (List ℕ)) → 1 ≤ length words
    → text_behind (from ∷ to ∷ words) ≡ cond (is_address from && is_address to) (Some (join_with_byte 32 words)) None
joined from to [] h = absurd (omega arith)
joined from to (word ∷ words) h = refl

-- what stands behind two words
pub text_of_ends : (from to text : List ℕ)
    → text_behind (from ∷ to ∷ parts 32 text) ≡ cond (is_address from && is_address to) (Some text) None
text_of_ends from to text =
    joined from to (parts 32 text) (some_parts 32 text) ∙ rw (join_with_byte-slice_split 32 text) refl

-- there are no two words with others behind them
pub no_ends : (from : List ℕ) → text_behind (from ∷ []) ≡ None
no_ends from = refl

-- the text of the words between the spaces is the text
pub words_joined : (text : List ℕ) → join_with_byte 32 (parts 32 text) ≡ text
words_joined text = join_with_byte-slice_split 32 text

-- ---- a text without a space

one_is : (read : List ℕ → Option ℕ) (text : List ℕ) (ps : List (List ℕ)) → join_with_byte 32 ps ≡ text → read text ≡ None → alone read ps ≡ None
one_is read text [] whole none = refl
one_is read text (word ∷ []) whole none = ap read whole ∙ none
one_is read text (word ∷ next ∷ ps) whole none = refl

by_word : (read : List ℕ → Option ℕ) (text : List ℕ) → ((n : ℕ) → read text ≡ Some n → parts 32 text ≡ text ∷ []) → (answer : Option ℕ) → read text ≡ answer
    → alone read (parts 32 text) ≡ read text
by_word read text word None is = one_is read text (parts 32 text) (words_joined text) is ∙ sym is
by_word read text word (Some n) is = rw (word n is) refl

-- an address has no space
pub only_address : (text : List ℕ) → alone address_of (parts 32 text) ≡ address_of text
only_address text = by_word address_of text (address_word text) (address_of text) refl

-- nor has a number
pub only_number : (text : List ℕ) → alone number_of (parts 32 text) ≡ number_of text
only_number text =
    by_word number_of text (λ n is. number_word greatest_id text n (positive_is (number_up_to greatest_id text) n is)) (number_of text) refl

-- ---- the parts between colons

pub full_by : (words : Option (Bor (List ℕ))) → is_full (rest_parts 32 words) ≡ is_full_by (rest_parts 58 words)
full_by None = refl
full_by (Some text) = ap (λ l. is_full_by (parts 58 l)) (words_joined text.now)

pub refusal_by : (words : Option (Bor (List ℕ))) → is_refusal (rest_parts 32 words) ≡ is_refusal_by (rest_parts 58 words)
refusal_by None = refl
refusal_by (Some text) = ap (λ l. is_refusal_by (parts 58 l)) (words_joined text.now)

pub not_full : (ps : List (List ℕ)) → three_words ps ≡ None → is_full_by ps ≡ false
not_full [] h = refl
not_full (a ∷ []) h = refl
not_full (a ∷ b ∷ []) h = refl
not_full (a ∷ b ∷ c ∷ []) h = absurd (none-some _ (sym h))
not_full (a ∷ b ∷ c ∷ d ∷ ps) h = refl

pub not_refused : (ps : List (List ℕ)) → two_words ps ≡ None → is_refusal_by ps ≡ false
not_refused [] h = refl
not_refused (a ∷ []) h = refl
not_refused (a ∷ b ∷ []) h = absurd (none-some _ (sym h))
not_refused (a ∷ b ∷ c ∷ ps) h = refl
