-- Part of what the headline says.
-- A route reply, RREP: RFC 3561 section 5.2. It has five lines, 20 bytes.
use Rattle.std.specs.Prelude.{ℕ, ◌==◌, not, List, [], ◌∷◌, length, Option}
use Rattle.aodv_wire.specs.declared.error.WireError.{WireError}
use Rattle.aodv_wire.specs.declared.error.WireError.TheVariants.{WrongLength, OutsideProfile, ZeroNumber}
use Rattle.aodv_wire.specs.declared.route_reply.Rrep.{Rrep}
use Rattle.aodv_wire.specs.Layout.{FieldBits, field_at, number_at, laid_out}
use Rattle.aodv_wire.specs.Refused.{refuse_if, first_of}

abbrev pub type_number : ℕ
type_number = 2

-- the fields, as the section's figure names them: R repair, A acknowledgment required
pub data Field : Type 0 where
  Kind R A Reserved PrefixSize HopCount DestinationAddress DestinationNumber OriginatorAddress
      Lifetime : Field

-- the table: each field's line, first bit and number of bits
abbrev pub table : Field → FieldBits
table Kind = field_at 0 0 8
table R = field_at 0 8 1
table A = field_at 0 9 1
table Reserved = field_at 0 10 9
table PrefixSize = field_at 0 19 5
table HopCount = field_at 0 24 8
table DestinationAddress = field_at 1 0 32
table DestinationNumber = field_at 2 0 32
table OriginatorAddress = field_at 3 0 32
table Lifetime = field_at 4 0 32

abbrev pub fields : List Field
fields =
    Kind ∷ R ∷ A ∷ Reserved ∷ PrefixSize ∷ HopCount ∷ DestinationAddress ∷ DestinationNumber
    ∷ OriginatorAddress ∷ Lifetime ∷ []

-- reading: what the bytes have in a field
abbrev pub value_in : List ℕ → Field → ℕ
value_in b f = number_at b (table f)

-- the reply in the fields; reserved bits and the lifetime are ignored
abbrev pub reply : List ℕ → Rrep
reply b = record {
  hops = value_in b HopCount;
  dip = record { 0 = value_in b DestinationAddress };
  dsn = value_in b DestinationNumber;
  oip = record { 0 = value_in b OriginatorAddress };
}

-- why bytes of this type encode no reply: the first of these that applies
abbrev pub refusal : List ℕ → Option WireError
refusal b = first_of (
    -- 5.2: five lines
    refuse_if (not (length b == 20)) WrongLength
    -- 5.2: R serves multicast; 6.7: A asks for an acknowledgment; 7: a prefix size makes it a route
    -- to a subnet
    ∷ refuse_if (value_in b R == 1) OutsideProfile
    ∷ refuse_if (value_in b A == 1) OutsideProfile
    ∷ refuse_if (not (value_in b PrefixSize == 0)) OutsideProfile
    -- 6.6.1, 6.6.2: the number is the destination's own, or that of a valid route; in AWN neither
    -- is 0
    ∷ refuse_if (value_in b DestinationNumber == 0) ZeroNumber
    ∷ [])

-- writing: each field's value; the lifetime, in milliseconds, is the longest, and the rest is 0
abbrev pub value : Rrep → Field → ℕ
value m Kind = type_number
value m HopCount = m.hops
value m DestinationAddress = m.dip.0
value m DestinationNumber = m.dsn
value m OriginatorAddress = m.oip.0
value m Lifetime = 4294967295
value m others = 0

abbrev pub bytes_of : Rrep → List ℕ
bytes_of m = laid_out table (value m) fields 5
