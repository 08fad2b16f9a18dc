-- Part of what the headline says.
-- The words of a line, with one space between two of them, and what a word may be.
use Rattle.std.specs.Prelude.{ℕ, ◌+◌, ◌==◌, Bool, true, ◌&&◌, List, [], ◌∷◌, Option, Some, None, Result, Err, length, nat_le, if◌then◌else◌}
use Rattle.std.specs.List.{list_all}
use Rattle.mesh_base.specs.declared.limits.TheConstants.{LONGEST_DATUM}
use Rattle.mesh_base.specs.Addresses.{address_of}
use Rattle.mesh_base.specs.Numbers.{number_up_to, positive}
use Rattle.mesh_grammar.specs.declared.fault.Span.{Span}
use Rattle.mesh_grammar.specs.declared.fault.LineFault.{LineFault}
use Rattle.mesh_grammar.specs.declared.fault.LineFault.TheVariants.{BadAddress, BadNumber, BadText}

-- an address that a line names, and where in the line it is
pub record SpannedAddr : Type 0 where
  pub address : ℕ
  pub span : Span

-- the bytes of a word, or of a text, that begins at this byte
abbrev pub span_at : ℕ → List ℕ → Span
span_at at word = record { from = at; to = at + length word }

-- where the word after this one begins: there is one space between them
abbrev pub next_at : ℕ → List ℕ → ℕ
next_at at word = at + length word + 1

-- goes on with an argument that was read, or gives the fault
abbrev pub with_argument : {A B : Type 0} → Option A → LineFault → (A → Result B LineFault)
    → Result B LineFault
with_argument None fault next = Err fault
with_argument (Some x) fault next = next x

-- the word that begins at this byte, as an address
abbrev pub address_at : {B : Type 0} → ℕ → List ℕ → (SpannedAddr → Result B LineFault)
    → Result B LineFault
address_at at word next =
    with_argument (address_of word) (BadAddress (span_at at word)) (λ a.
    next (record { address = a; span = span_at at word }))

-- the word that begins at this byte, as a number from 1 to the most that is allowed
abbrev pub number_at : {B : Type 0} → ℕ → ℕ → List ℕ → (ℕ → Result B LineFault) → Result B LineFault
number_at most at word next =
    with_argument (positive (number_up_to most word)) (BadNumber (span_at at word)) next

-- bytes from the space to the tilde
abbrev pub are_printable : List ℕ → Bool
are_printable bytes = list_all (λ b. nat_le 32 b && nat_le b 126) bytes

-- 1 to 512 bytes from the space to the tilde
abbrev pub is_text : List ℕ → Bool
is_text bytes =
    nat_le 1 (length bytes) && nat_le (length bytes) LONGEST_DATUM && are_printable bytes

abbrev pub text_of : List ℕ → Option (List ℕ)
text_of bytes = if is_text bytes then Some bytes else None

-- the bytes from this one to the line's end, as a datum's text
abbrev pub text_at : {B : Type 0} → ℕ → List ℕ → (List ℕ → Result B LineFault) → Result B LineFault
text_at at bytes next = with_argument (text_of bytes) (BadText (span_at at bytes)) next

-- empty, or a remark (`#` is byte 35)
abbrev pub is_blank : List ℕ → Bool
is_blank [] = true
is_blank (b ∷ bs) = b == 35
