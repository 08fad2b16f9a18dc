-- Part of what the headline says.
-- A data packet: three lines and a body of 1 to 512 bytes. RFC 3561 has none; the layout is this
-- project's own.
use Rattle.std.specs.Prelude.{ℕ, ◌==◌, not, nat_lt, List, [], ◌∷◌, ◌++◌, length, drop, Option}
use Rattle.mesh_base.specs.declared.addr.Addr.{Addr}
use Rattle.aodv_wire.specs.declared.error.WireError.{WireError}
use Rattle.aodv_wire.specs.declared.error.WireError.TheVariants.{WrongLength, BadData}
use Rattle.aodv_wire.specs.Layout.{FieldBits, field_at, number_at, laid_out}
use Rattle.aodv_wire.specs.Refused.{refuse_if, first_of}

-- a datum on its way
pub record Datum : Type 0 where
  pub dip : Addr
  pub oip : Addr
  pub body : List ℕ

abbrev pub type_number : ℕ
type_number = 16

-- the fields of the three lines
pub data Field : Type 0 where
  Kind Zero DestinationAddress OriginatorAddress : Field

-- the table: each field's line, first bit and number of bits
abbrev pub table : Field → FieldBits
table Kind = field_at 0 0 8
table Zero = field_at 0 8 24
table DestinationAddress = field_at 1 0 32
table OriginatorAddress = field_at 2 0 32

abbrev pub fields : List Field
fields = Kind ∷ Zero ∷ DestinationAddress ∷ OriginatorAddress ∷ []

-- reading: what the bytes have in a field
abbrev pub value_in : List ℕ → Field → ℕ
value_in b f = number_at b (table f)

-- the datum in the fields, and in all bytes after them
abbrev pub datum : List ℕ → Datum
datum b = record {
  dip = record { 0 = value_in b DestinationAddress };
  oip = record { 0 = value_in b OriginatorAddress };
  body = drop 12 b;
}

-- why bytes of this type encode no datum: the first of these that applies
abbrev pub refusal : List ℕ → Option WireError
refusal b = first_of (
    -- three lines, and a body of 1 to 512 bytes
    refuse_if (nat_lt (length b) 13) WrongLength
    ∷ refuse_if (nat_lt 524 (length b)) WrongLength
    -- what follows the type in the first line is 0
    ∷ refuse_if (not (value_in b Zero == 0)) BadData
    ∷ [])

-- writing: each field's value
abbrev pub value : Addr → Addr → Field → ℕ
value dip oip Kind = type_number
value dip oip Zero = 0
value dip oip DestinationAddress = dip.0
value dip oip OriginatorAddress = oip.0

abbrev pub bytes_of : Datum → List ℕ
bytes_of m = laid_out table (value m.dip m.oip) fields 3 ++ m.body
