-- The statements that this crate proves of its definitions, for the table of any script.
use Rattle.std.specs.Prelude.{◌≡◌, ◌≢◌, ◌<◌, ◌^◌, ◌⊎◌, ℕ, true, List, Some, Ok, ⊤}
use Rattle.std.specs.List.{AllByRecursion}
use Rattle.mesh_base.specs.Addresses.{dotted_decimal}
use Rattle.mesh_grammar.specs.declared.form.Form.{Form}
use Rattle.mesh_grammar.specs.declared.form.Form.TheVariants as form
use Rattle.mesh_grammar.specs.Words.{SpannedAddr, span_at, next_at, is_blank}
use Rattle.mesh_grammar.specs.Forms.{Arguments, NoArgument, OneAddress, TwoAddresses, OneNumber, NumberedAddress, AddressesAndText, AddressAndNumber, AddressAndText, AreOfForm}
use Rattle.mesh_grammar.specs.Scripts.{Row, Shape, row_in, shape_by}
use Rattle.mesh_grammar.specs.Written.{command_text}

-- ---- what is written is read

-- an address with its span, if it begins at this byte
abbrev pub spanned : ℕ → ℕ → SpannedAddr
spanned at a = record { address = a; span = span_at at (dotted_decimal a) }

-- where the word after an address begins
abbrev pub after_address : ℕ → ℕ → ℕ
after_address at a = next_at at (dotted_decimal a)

-- the arguments that are read from written ones, the first of which begins at this byte
abbrev pub as_spanned : ℕ → Arguments ℕ → Arguments SpannedAddr
as_spanned at NoArgument = NoArgument
as_spanned at (OneAddress a) = OneAddress (spanned at a)
as_spanned at (TwoAddresses a b) = TwoAddresses (spanned at a) (spanned (after_address at a) b)
as_spanned at (OneNumber n) = OneNumber n
as_spanned at (NumberedAddress a first) = NumberedAddress (spanned at a) first
as_spanned at (AddressesAndText a b text) =
    AddressesAndText (spanned at a) (spanned (after_address at a) b) text
as_spanned at (AddressAndNumber a n) = AddressAndNumber (spanned at a) n
as_spanned at (AddressAndText a text) = AddressAndText (spanned at a) text

-- addresses have 32 bits
abbrev pub HaveAddresses : Arguments ℕ → Type 0
HaveAddresses (OneAddress a) = a < 2 ^ 32
HaveAddresses (TwoAddresses a b) = (a < 2 ^ 32) × (b < 2 ^ 32)
HaveAddresses (NumberedAddress a first) = a < 2 ^ 32
HaveAddresses (AddressesAndText a b text) = (a < 2 ^ 32) × (b < 2 ^ 32)
HaveAddresses (AddressAndNumber a n) = a < 2 ^ 32
HaveAddresses (AddressAndText a text) = a < 2 ^ 32
HaveAddresses others = ⊤

-- no number that a form allows has more than 64 bits
abbrev pub IsReadable : Form → Type 0
IsReadable (form.Number most) = most < 2 ^ 64
IsReadable (form.AddressNumber most) = most < 2 ^ 64
IsReadable others = ⊤

-- a table whose forms are all readable
abbrev pub AreReadable : {C : Type 0} → List (Row C) → Type 0
AreReadable rows = AllByRecursion (λ row. IsReadable row.form) rows

-- a word that isn't empty, has no space and doesn't begin a remark
pub record IsWord (word : List ℕ) : Type 0 where
  pub whole : AllByRecursion (λ b. b ≢ 32) word
  pub shown : is_blank word ≢ true

-- a row that is found in the table by its word, and arguments that it allows
pub record IsLine {C : Type 0} (rows : List (Row C)) (row : Row C) (arguments : Arguments ℕ) :
    Type 0 where
  pub found : row_in rows row.word ≡ Some row
  pub word : IsWord row.word
  pub readable : IsReadable row.form
  pub form : AreOfForm row.form arguments
  pub addresses : HaveAddresses arguments

-- a command and its arguments that are written as a line are read back from it as they were
abbrev pub WrittenLineIsRead : (C : Type 0) → Type 0
WrittenLineIsRead C = (rows : List (Row C)) (row : Row C) (arguments : Arguments ℕ)
    → IsLine rows row arguments
    → shape_by rows (command_text row.word arguments)
    ≡ Ok (Some (record {
      command = row.command;
      arguments = as_spanned (next_at 0 row.word) arguments;
    }))

-- ---- what is read is the text of what was read

-- arguments with each address without its span
abbrev pub addresses_of : Arguments SpannedAddr → Arguments ℕ
addresses_of NoArgument = NoArgument
addresses_of (OneAddress a) = OneAddress a.address
addresses_of (TwoAddresses a b) = TwoAddresses a.address b.address
addresses_of (OneNumber n) = OneNumber n
addresses_of (NumberedAddress a first) = NumberedAddress a.address first
addresses_of (AddressesAndText a b text) = AddressesAndText a.address b.address text
addresses_of (AddressAndNumber a n) = AddressAndNumber a.address n
addresses_of (AddressAndText a text) = AddressAndText a.address text

-- the line is the text of this word and these arguments, or gives an address without its number,
-- which is 1
abbrev pub IsTextOf : List ℕ → List ℕ → Arguments ℕ → Type 0
IsTextOf line word (NumberedAddress a first) =
    (line ≡ command_text word (NumberedAddress a first))
    ⊎ ((first ≡ 1) × (line ≡ command_text word (OneAddress a)))
IsTextOf line word arguments = line ≡ command_text word arguments

-- a row that is found in the table by the line's first word, and what the line says after that word
pub record IsRead {C : Type 0} (rows : List (Row C)) (line : List ℕ) (s : Shape C SpannedAddr)
    (row : Row C) : Type 0 where
  pub found : row_in rows row.word ≡ Some row
  pub command : row.command ≡ s.command
  pub form : AreOfForm row.form s.arguments
  pub addresses : HaveAddresses (addresses_of s.arguments)
  pub text : IsTextOf line row.word (addresses_of s.arguments)

-- a line that is read as a command and its arguments has arguments of the command's form, and is
-- the text of both
abbrev pub ReadLineIsWritten : (C : Type 0) → Type 0
ReadLineIsWritten C = (rows : List (Row C)) (line : List ℕ) (s : Shape C SpannedAddr)
    → AreReadable rows → shape_by rows line ≡ Ok (Some s) → (row : Row C) × IsRead rows line s row
