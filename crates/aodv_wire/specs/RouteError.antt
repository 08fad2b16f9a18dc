-- Part of what the headline says.
-- A route error, RERR: RFC 3561 section 5.3. It has one line, and two for each destination that
-- can't be reached.
use Rattle.std.specs.Prelude.{◌<◌, ◌≤◌, ℕ, zero, suc, ◌+◌, ◌*◌, ◌==◌, not, nat_lt, if◌then◌else◌, List, [], ◌∷◌, ◌++◌, length, map, drop, Option, Some, None, option_map}
use Rattle.std.specs.List.{flat_map, list_any}
use Rattle.mesh_base.specs.declared.limits.TheConstants.{MOST_NODES}
use Rattle.mesh_base.specs.declared.addr.Addr.{Addr}
use Rattle.aodv_wire.specs.declared.error.WireError.{WireError}
use Rattle.aodv_wire.specs.declared.error.WireError.TheVariants.{WrongLength, OutsideProfile, NoDestinations, Repeated}
use Rattle.aodv_wire.specs.Layout.{FieldBits, field_at, number_at, laid_out}
use Rattle.aodv_wire.specs.Refused.{refuse_if, first_of}

abbrev pub type_number : ℕ
type_number = 3

-- the fields of the first line, as the section's figure names them: N no delete
pub data Field : Type 0 where
  Kind N Reserved DestCount : Field

-- the table: each field's line, first bit and number of bits
abbrev pub table : Field → FieldBits
table Kind = field_at 0 0 8
table N = field_at 0 8 1
table Reserved = field_at 0 9 15
table DestCount = field_at 0 24 8

abbrev pub fields : List Field
fields = Kind ∷ N ∷ Reserved ∷ DestCount ∷ []

-- the two lines of each destination
pub data PairField : Type 0 where
  UnreachableAddress UnreachableNumber : PairField

abbrev pub pair_table : PairField → FieldBits
pair_table UnreachableAddress = field_at 0 0 32
pair_table UnreachableNumber = field_at 1 0 32

abbrev pub pair_fields : List PairField
pair_fields = UnreachableAddress ∷ UnreachableNumber ∷ []

-- reading: what the bytes have in a field
abbrev pub value_in : List ℕ → Field → ℕ
value_in b f = number_at b (table f)

-- the pair of address and number in the first eight bytes
abbrev pub pair : List ℕ → Addr × ℕ
pair b = (
  record { 0 = number_at b (pair_table UnreachableAddress) },
  number_at b
      (pair_table UnreachableNumber),
)

-- n pairs, one after the other
abbrev pub pairs : ℕ → List ℕ → List (Addr × ℕ)
pairs zero b = []
pairs (suc n) b = pair b ∷ pairs n (drop 8 b)

-- the pairs of a whole route error
abbrev pub destinations : List ℕ → List (Addr × ℕ)
destinations b = pairs (value_in b DestCount) (drop 4 b)

-- the first address of the second list that is also in the first list or earlier in the second
abbrev pub first_repeated : List Addr → List Addr → Option Addr
first_repeated before [] = None
first_repeated before (a ∷ after) =
    if list_any (λ s. s.0 == a.0) before then Some a else first_repeated (before ++ a ∷ []) after

abbrev pub addresses : List (Addr × ℕ) → List Addr
addresses ps = map (λ p. p.0) ps

-- the first address of these pairs that an earlier pair has too
abbrev pub repeated_address : List (Addr × ℕ) → Option Addr
repeated_address ps = first_repeated [] (addresses ps)

-- why bytes of this type encode no route error: the first of these that applies
abbrev pub refusal : List ℕ → Option WireError
refusal b = first_of (
    -- 5.3: one line, and two for each of DestCount destinations
    refuse_if (nat_lt (length b) 4) WrongLength
    ∷ refuse_if (not (length b == 4 + 8 * value_in b DestCount)) WrongLength
    -- 6.12: N is set after a local repair
    ∷ refuse_if (value_in b N == 1) OutsideProfile
    -- 5.3: DestCount is at least 1
    ∷ refuse_if (value_in b DestCount == 0) NoDestinations
    -- its destinations are a map: no address is there twice
    ∷ option_map Repeated (repeated_address (destinations b))
    ∷ [])

-- writing: each field's value, in a route error with n destinations
abbrev pub value : ℕ → Field → ℕ
value n Kind = type_number
value n DestCount = n
value n others = 0

abbrev pub pair_value : Addr × ℕ → PairField → ℕ
pair_value p UnreachableAddress = p.0.0
pair_value p UnreachableNumber = p.1

abbrev pub pair_bytes : Addr × ℕ → List ℕ
pair_bytes p = laid_out pair_table (pair_value p) pair_fields 2

abbrev pub bytes_of : List (Addr × ℕ) → List ℕ
bytes_of ps = laid_out table (value (length ps)) fields 1 ++ flat_map pair_bytes ps

-- each address is above the one before it
abbrev pub IsRising : List (Addr × ℕ) → Type 0
IsRising [] = Unit {0}
IsRising (p ∷ []) = Unit {0}
IsRising (p ∷ q ∷ ps) = (p.0.0 < q.0.0) × IsRising (q ∷ ps)

-- what can be written: 1 to 200 destinations, in rising order of their addresses
pub record AreDestinations (ps : List (Addr × ℕ)) : Type 0 where
  pub some : 1 ≤ length ps
  pub few : length ps ≤ MOST_NODES
  pub rising : IsRising ps
