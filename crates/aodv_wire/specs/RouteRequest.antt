-- Part of what the headline says.
-- A route request, RREQ: RFC 3561 section 5.1. It has six lines, 24 bytes.
use Rattle.std.specs.Prelude.{ℕ, ◌==◌, not, if◌then◌else◌, List, [], ◌∷◌, length, Option}
use Rattle.aodv_wire.specs.declared.error.WireError.{WireError}
use Rattle.aodv_wire.specs.declared.error.WireError.TheVariants.{WrongLength, OutsideProfile, ZeroNumber}
use Rattle.aodv_wire.specs.declared.route_request.Rreq.{Rreq}
use Rattle.aodv_wire.specs.Layout.{FieldBits, field_at, number_at, laid_out}
use Rattle.aodv_wire.specs.Refused.{refuse_if, first_of}

abbrev pub type_number : ℕ
type_number = 1

-- the fields, as the section's figure names them: J join, R repair, G gratuitous reply, D
-- destination only, U unknown number
pub data Field : Type 0 where
  Kind J R G D U Reserved HopCount RreqId DestinationAddress DestinationNumber OriginatorAddress
      OriginatorNumber : Field

-- the table: each field's line, first bit and number of bits
abbrev pub table : Field → FieldBits
table Kind = field_at 0 0 8
table J = field_at 0 8 1
table R = field_at 0 9 1
table G = field_at 0 10 1
table D = field_at 0 11 1
table U = field_at 0 12 1
table Reserved = field_at 0 13 11
table HopCount = field_at 0 24 8
table RreqId = field_at 1 0 32
table DestinationAddress = field_at 2 0 32
table DestinationNumber = field_at 3 0 32
table OriginatorAddress = field_at 4 0 32
table OriginatorNumber = field_at 5 0 32

abbrev pub fields : List Field
fields =
    Kind ∷ J ∷ R ∷ G ∷ D ∷ U ∷ Reserved ∷ HopCount ∷ RreqId ∷ DestinationAddress ∷ DestinationNumber
    ∷ OriginatorAddress ∷ OriginatorNumber ∷ []

-- reading: what the bytes have in a field
abbrev pub value_in : List ℕ → Field → ℕ
value_in b f = number_at b (table f)

-- the request in the fields; reserved bits are ignored
abbrev pub request : List ℕ → Rreq
request b = record {
  hops = value_in b HopCount;
  id = value_in b RreqId;
  dip = record { 0 = value_in b DestinationAddress };
  dsn = value_in b DestinationNumber;
  known = value_in b U == 0;
  oip = record { 0 = value_in b OriginatorAddress };
  osn = value_in b OriginatorNumber;
}

-- why bytes of this type encode no request: the first of these that applies
abbrev pub refusal : List ℕ → Option WireError
refusal b = first_of (
    -- 5.1: six lines
    refuse_if (not (length b == 24)) WrongLength
    -- 5.1: J and R serve multicast; 6.6.3: G asks for a gratuitous reply; 6.3: D lets only the
    -- destination answer
    ∷ refuse_if (value_in b J == 1) OutsideProfile
    ∷ refuse_if (value_in b R == 1) OutsideProfile
    ∷ refuse_if (value_in b G == 1) OutsideProfile
    ∷ refuse_if (value_in b D == 1) OutsideProfile
    -- 6.1: a node raises its own number before it sends a request; AWN lets it begin at 1, so 0 is
    -- no number
    ∷ refuse_if (value_in b OriginatorNumber == 0) ZeroNumber
    ∷ [])

-- writing: each field's value; flags of no use here and reserved bits are 0
abbrev pub value : Rreq → Field → ℕ
value m Kind = type_number
value m U = if m.known then 0 else 1
value m HopCount = m.hops
value m RreqId = m.id
value m DestinationAddress = m.dip.0
value m DestinationNumber = m.dsn
value m OriginatorAddress = m.oip.0
value m OriginatorNumber = m.osn
value m others = 0

abbrev pub bytes_of : Rreq → List ℕ
bytes_of m = laid_out table (value m) fields 6
