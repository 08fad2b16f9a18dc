-- Part of what the headline says.
-- How a packet is laid out: lines of 32 bits, as the figures of RFC 3561 section 5 draw them.
-- A line is four bytes, the highest first; its bits are numbered from 0, the highest first.
use Rattle.std.specs.Prelude.{ℕ, zero, suc, ◌+◌, ◌-◌, ◌*◌, ◌/◌, ◌%◌, ◌^◌, ◌==◌, Bool, ◌&&◌, if◌then◌else◌, nat_le, List, [], ◌∷◌, ◌++◌}
use Rattle.byteorder.specs.Endian.{big_from, big_bytes}

-- where a field is: its line, its first bit in that line, and how many bits it has
pub record FieldBits : Type 0 where
  pub line : ℕ
  pub bit : ℕ
  pub bits : ℕ

abbrev pub field_at : ℕ → ℕ → ℕ → FieldBits
field_at line bit bits = record { line = line; bit = bit; bits = bits }

-- what the last bit of a field is worth in its line
abbrev pub unit : FieldBits → ℕ
unit p = 2 ^ (32 - (p.bit + p.bits))

-- reading: the number that the bytes have in a field
abbrev pub number_at : List ℕ → FieldBits → ℕ
number_at b p = big_from (4 * p.line) 4 b / unit p % 2 ^ p.bits

-- writing: the number of a line in which each of these fields has its value
abbrev pub line_of : {F : Type 0} → (F → FieldBits) → (F → ℕ) → ℕ → List F → ℕ
line_of table value line [] = 0
line_of table value line (f ∷ fs) =
    (if (table f).line == line then value f * unit (table f) else 0) + line_of table value line fs

-- the bytes of n lines, from this one on
abbrev pub lines_from : {F : Type 0} → (F → FieldBits) → (F → ℕ) → List F → ℕ → ℕ → List ℕ
lines_from table value fs line zero = []
lines_from table value fs line (suc n) =
    big_bytes 4 (line_of table value line fs) ++ lines_from table value fs (suc line) n

-- the bytes of n lines in which each of these fields has its value
abbrev pub laid_out : {F : Type 0} → (F → FieldBits) → (F → ℕ) → List F → ℕ → List ℕ
laid_out table value fs n = lines_from table value fs 0 n

-- a table is whole: its fields follow one another from bit `from` to bit `to`, none across the end
-- of a line
abbrev pub is_whole : {F : Type 0} → (F → FieldBits) → List F → ℕ → ℕ → Bool
is_whole table [] from to = from == to
is_whole table (f ∷ fs) from to =
    (32 * (table f).line + (table f).bit == from) && nat_le
    ((table f).bit + (table f).bits) 32 && is_whole table fs (from + (table f).bits) to
