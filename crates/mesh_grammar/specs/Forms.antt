-- Part of what the headline says.
-- The arguments of a command, by their form. They are read from the words after the command, and
-- the byte at which the first word begins.
use Rattle.std.specs.Prelude.{◌≤◌, ℕ, List, [], ◌∷◌, Result, Ok, Err, length, codes, if◌then◌else◌, ⊤}
use Rattle.std.specs.List.{join_with_byte, AllByRecursion}
use Rattle.std.specs.Str.{bytes_eq}
use Rattle.mesh_base.specs.declared.limits.TheConstants.{LONGEST_DATUM}
use Rattle.mesh_grammar.specs.declared.fault.LineFault.{LineFault}
use Rattle.mesh_grammar.specs.declared.fault.LineFault.TheVariants.{Count}
use Rattle.mesh_grammar.specs.declared.form.Form.{Form}
use Rattle.mesh_grammar.specs.declared.form.Form.TheVariants as form
use Rattle.mesh_grammar.specs.Words.{SpannedAddr, next_at, address_at, number_at, text_at}

-- arguments with an A for each address: an address with its span when a line is read, a node's
-- index once the line is allowed
pub data Arguments (A : Type 0) : Type 0 where
  NoArgument : Arguments A
  OneAddress : (a : A) → Arguments A
  TwoAddresses : (a b : A) → Arguments A
  OneNumber : (n : ℕ) → Arguments A
  NumberedAddress : (a : A) (first : ℕ) → Arguments A
  AddressesAndText : (a b : A) (text : List ℕ) → Arguments A
  AddressAndNumber : (a : A) (n : ℕ) → Arguments A
  AddressAndText : (a : A) (text : List ℕ) → Arguments A

-- the greatest first sequence number, which has 32 bits
abbrev pub greatest_first : ℕ
greatest_first = 4294967295

-- ---- what is read from the words, for each form

abbrev pub no_argument : {B : Type 0} → List (List ℕ) → B → Result B LineFault
no_argument [] made = Ok made
no_argument (w ∷ ws) made = Err Count

abbrev pub one_address : {B : Type 0} → ℕ → List (List ℕ) → (SpannedAddr → B) → Result B LineFault
one_address at (a ∷ []) make = address_at at a (λ x. Ok (make x))
one_address at others make = Err Count

abbrev pub two_addresses : {B : Type 0} → ℕ → List (List ℕ) → (SpannedAddr → SpannedAddr → B)
    → Result B LineFault
two_addresses at (a ∷ b ∷ []) make =
    address_at at a (λ x. address_at (next_at at a) b (λ y. Ok (make x y)))
two_addresses at others make = Err Count

-- a number from 1 to the most that is allowed
abbrev pub one_number : {B : Type 0} → ℕ → ℕ → List (List ℕ) → (ℕ → B) → Result B LineFault
one_number most at (n ∷ []) make = number_at most at n (λ k. Ok (make k))
one_number most at others make = Err Count

-- an address and its number. The word between them is `sn`, or the line has the wrong number of
-- words
abbrev pub address_sn : {B : Type 0} → ℕ → List ℕ → List ℕ → List ℕ → (SpannedAddr → ℕ → B)
    → Result B LineFault
address_sn at a sn n make =
    if bytes_eq sn (codes "sn")
    then address_at at a (λ x. number_at greatest_first (next_at (next_at at a) sn) n (λ k.
    Ok (make x k)))
    else Err Count

-- `ADDR`, with the number 1; or `ADDR sn NUM`
unfoldable pub numbered_address : {B : Type 0} → ℕ → List (List ℕ) → (SpannedAddr → ℕ → B)
    → Result B LineFault
numbered_address at (a ∷ []) make = address_at at a (λ x. Ok (make x 1))
numbered_address at (a ∷ sn ∷ n ∷ []) make = address_sn at a sn n make
numbered_address at others make = Err Count

-- two addresses, and a text that is all that follows
unfoldable pub addresses_and_text : {B : Type 0} → ℕ → List (List ℕ)
    → (SpannedAddr → SpannedAddr → List ℕ → B) → Result B LineFault
addresses_and_text at (a ∷ b ∷ t ∷ ts) make =
    address_at at a (λ x. address_at (next_at at a) b (λ y.
    text_at (next_at (next_at at a) b) (join_with_byte 32 (t ∷ ts)) (λ text. Ok (make x y text))))
addresses_and_text at others make = Err Count

-- an address, and a number from 1 to the most that is allowed
abbrev pub address_and_number : {B : Type 0} → ℕ → ℕ → List (List ℕ) → (SpannedAddr → ℕ → B)
    → Result B LineFault
address_and_number most at (a ∷ n ∷ []) make =
    address_at at a (λ x. number_at most (next_at at a) n (λ k. Ok (make x k)))
address_and_number most at others make = Err Count

-- an address, and a text that is all that follows
unfoldable pub address_and_text : {B : Type 0} → ℕ → List (List ℕ) → (SpannedAddr → List ℕ → B)
    → Result B LineFault
address_and_text at (a ∷ t ∷ ts) make =
    address_at at a (λ x.
    text_at (next_at at a) (join_with_byte 32 (t ∷ ts)) (λ text. Ok (make x text)))
address_and_text at others make = Err Count

-- the arguments of this form that the words give, or the first fault
abbrev pub arguments_of : Form → ℕ → List (List ℕ) → Result (Arguments SpannedAddr) LineFault
arguments_of form.Bare at words = no_argument words NoArgument
arguments_of form.Address at words = one_address at words OneAddress
arguments_of form.Addresses at words = two_addresses at words TwoAddresses
arguments_of (form.Number most) at words = one_number most at words OneNumber
arguments_of form.Numbered at words = numbered_address at words NumberedAddress
arguments_of form.Text at words = addresses_and_text at words AddressesAndText
arguments_of (form.AddressNumber most) at words = address_and_number most at words AddressAndNumber
arguments_of form.AddressText at words = address_and_text at words AddressAndText

-- ---- the arguments that a form may have

-- 1 to 512 bytes from the space to the tilde
abbrev pub IsText : List ℕ → Type 0
IsText body =
    (1 ≤ length body) × (length body ≤ LONGEST_DATUM)
    × AllByRecursion (λ b. (32 ≤ b) × (b ≤ 126)) body

-- arguments of this form, with numbers and texts in their ranges
abbrev pub AreOfForm : {A : Type 0} → Form → Arguments A → Type 0
AreOfForm form.Bare NoArgument = ⊤
AreOfForm form.Address (OneAddress a) = ⊤
AreOfForm form.Addresses (TwoAddresses a b) = ⊤
AreOfForm (form.Number most) (OneNumber n) = (1 ≤ n) × (n ≤ most)
AreOfForm form.Numbered (NumberedAddress a first) = (1 ≤ first) × (first ≤ greatest_first)
AreOfForm form.Text (AddressesAndText a b text) = IsText text
AreOfForm (form.AddressNumber most) (AddressAndNumber a n) = (1 ≤ n) × (n ≤ most)
AreOfForm form.AddressText (AddressAndText a text) = IsText text
AreOfForm other arguments = ⊥
