-- Part of what the headline says.
-- A line in its written form: a command's word, and each argument after one space.
use Rattle.std.specs.Prelude.{ℕ, List, [], ◌∷◌, ◌++◌, codes}
use Rattle.std.specs.Fmt.{decimal}
use Rattle.mesh_base.specs.Addresses.{dotted_decimal}
use Rattle.mesh_grammar.specs.Forms.{Arguments, NoArgument, OneAddress, TwoAddresses, OneNumber, NumberedAddress, AddressesAndText, AddressAndNumber, AddressAndText}

-- a text with the LF that ends it
abbrev pub line : List ℕ → List ℕ
line text = text ++ 10 ∷ []

-- a label and a number
abbrev pub label_number : List ℕ → ℕ → List ℕ
label_number label n = label ++ decimal n

-- a word and its arguments, with the addresses themselves. A first sequence number is always
-- written
unfoldable pub command_text : List ℕ → Arguments ℕ → List ℕ
command_text word NoArgument = word
command_text word (OneAddress a) = word ++ 32 ∷ dotted_decimal a
command_text word (TwoAddresses a b) = word ++ 32 ∷ dotted_decimal a ++ 32 ∷ dotted_decimal b
command_text word (OneNumber n) = word ++ 32 ∷ decimal n
command_text word (NumberedAddress a first) =
    word ++ 32 ∷ dotted_decimal a ++ codes " sn " ++ decimal first
command_text word (AddressesAndText a b text) =
    word ++ 32 ∷ dotted_decimal a ++ 32 ∷ dotted_decimal b ++ 32 ∷ text
command_text word (AddressAndNumber a n) = word ++ 32 ∷ dotted_decimal a ++ 32 ∷ decimal n
command_text word (AddressAndText a text) = word ++ 32 ∷ dotted_decimal a ++ 32 ∷ text
