-- The copies of packets in flight. They are the mesh's copies, with bytes in place of messages.
use Rattle.std.specs.Prelude.{◌≡◌, ◌≢◌, ◌<◌, ◌≤◌, ℕ, ◌+◌, nat_le, if◌then◌else◌, Option, Some, List, [], ◌∷◌, length, filter}
use Rattle.std.specs.List.{AllByRecursion}
use Rattle.mesh_base.specs.declared.limits.TheConstants.{LONGEST_PACKET}
use Rattle.mesh_base.specs.declared.events.Flying.{Flying}
use Rattle.aodv_wire.specs.Encodes.{is_data}
use Rattle.mesh_radio.specs.declared.copies.Held.{Held}
use Rattle.mesh_model.specs.Numbered.{find_by, without_by, AreNumberedBy, numbered_from}

-- the copy in flight that is held
abbrev pub held_seen : Held → Flying
held_seen held = record { id = held.id; from = held.from; to = held.to; bytes = held.bytes.now }

-- the copy of that id
abbrev pub find_copy : List Flying → ℕ → Option Flying
find_copy cs id = find_by (λ c. c.id) cs id

-- the packet of the copy of that id, if there is one, has at most this many bytes
abbrev pub IsCopyWithin : List Flying → ℕ → ℕ → Type 0
IsCopyWithin cs id most = (c : Flying) → find_copy cs id ≡ Some c → length c.bytes ≤ most

-- the copies except the one of that id
unfoldable pub without : List Flying → ℕ → List Flying
without cs id = without_by (λ c. c.id) cs id

-- the copies of that id and of later ones
unfoldable pub from_id : List Flying → ℕ → List Flying
from_id cs id = filter (λ c. nat_le id c.id) cs

-- one copy for each receiver, with ids that rise from `id` on
abbrev pub copies_to : List ℕ → ℕ → ℕ → List ℕ → List Flying
copies_to tos id from bytes =
    numbered_from (λ i to. record { id = i; from = from; to = to; bytes = bytes }) tos id

-- the ids rise from `low` on, and are below `next`
abbrev pub AreNumbered : ℕ → List Flying → ℕ → Type 0
AreNumbered low cs next = AreNumberedBy (λ c. c.id) low cs next

-- the copies' ids are below that one
abbrev pub AreBefore : ℕ → List Flying → Type 0
AreBefore id cs = AllByRecursion (λ c. c.id < id) cs

-- a copy is between two different nodes, each below the number of nodes
abbrev pub IsBetween : ℕ → Flying → Type 0
IsBetween size c = (c.from < size) × (c.to < size) × (c.from ≢ c.to)

-- how many bytes the longest packet has
abbrev pub longest_packet : ℕ
longest_packet = LONGEST_PACKET

-- the packet of a copy is no longer than that
abbrev pub IsPacketLong : Flying → Type 0
IsPacketLong c = length c.bytes ≤ longest_packet

-- how many of these copies are of data
abbrev pub data_in : List Flying → ℕ
data_in [] = 0
data_in (c ∷ cs) = (if is_data c.bytes then 1 else 0) + data_in cs
