-- What a turn answers, and what is seen of the node afterwards.
use Rattle.std.specs.Prelude.{◌≡◌, ◌<◌, ◌≤◌, ◌==◌, ℕ, Bool, true, false, not, Some, None, Result, Ok, Err, List, [], ◌∷◌, ⊤}
use Rattle.std.specs.FinSet as sets
use Rattle.mesh_base.specs.Meshes.{Nodes}
use Rattle.mesh_base.specs.Members.{NodeIds}
use Rattle.mesh_base.specs.declared.events.Full.{Full as Counter}
use Rattle.mesh_base.specs.declared.events.Effect.{Effect}
use Rattle.mesh_base.specs.declared.events.Item as items
use Rattle.mesh_base.specs.declared.events.Item.TheVariants as item
use Rattle.mesh_base.specs.declared.events.Kind.{Kind}
use Rattle.mesh_base.specs.declared.events.Took as taken
use Rattle.mesh_base.specs.declared.events.Took.TheVariants as takes
use Rattle.aodv_model.specs.Cores.{Core, Item, New, Heard, Pkt, Rreq, Rrep, Rerr, has_seen}
use Rattle.aodv_model.specs.Handlers.{key_of, turn, Took, Own, Stored, FromNeighbour, took}
use Rattle.aodv_model.specs.Fullness.{turn_full}
use Rattle.aodv_wire.specs.Encodes.{refusal, message_in_fields}
use Rattle.aodv_meaning.specs.Meaning.{stranger}
use Rattle.aodv_meaning.specs.Effects.{item_in, kind_of}
use Rattle.aodv_handlers.specs.Made.{IsMade}
use Rattle.aodv_node.specs.declared.answers.TurnError.{TurnError}
use Rattle.aodv_node.specs.declared.answers.TurnError.TheVariants as errors
use Rattle.aodv_node.specs.declared.answers.TurnDone as done
use Rattle.aodv_node.specs.Seen.{NodeSeen}

-- ---- items

-- the bytes encode a message, and it names nodes of the mesh only
pub record IsReadable (mesh : Nodes) (bytes : List ℕ) : Type 0 where
  pub allowed : refusal bytes ≡ None
  pub known : stranger mesh (message_in_fields bytes) ≡ None

-- the item is readable: a packet is if its bytes are, and a datum always is
abbrev pub IsReadableItem : Nodes → items.Item → Type 0
IsReadableItem mesh (item.New dest body) = ⊤
IsReadableItem mesh (item.Heard from bytes) = IsReadable mesh bytes

-- a table has room for an entry of each node
abbrev pub HasAllRooms : {T : Type 0} → (T → ℕ) → (T → NodeIds) → T → Type 0
HasAllRooms nodes rooms t = (d : ℕ) → d < nodes t → sets.contains (rooms t) d ≡ true

-- ---- what is taken

-- the bytes of a packet, or none for a datum
abbrev pub packet_of : items.Item → List ℕ
packet_of (item.New dest body) = []
packet_of (item.Heard from bytes) = bytes

-- what the model takes, with the packet of the item and its kind in place of a neighbour's message
abbrev pub taken_of : items.Item → Took → taken.Took
taken_of front (Own body) = takes.Own body
taken_of front (Stored dip) = takes.Stored dip
taken_of front (FromNeighbour from m) = takes.Heard from (kind_of m) (packet_of front)

-- ---- turns

-- the front item was taken, and the node did what the model does with it
pub record IsTaken (mesh : Nodes) (range : NodeIds) (old : NodeSeen) (d : done.TurnDone)
    (new : NodeSeen) (out : List ℕ) : Type 0 where
  pub front : items.Item
  pub was : old.items ≡ front ∷ new.items
  pub readable : IsReadableItem mesh front
  pub took : d.took ≡ taken_of front (took old.core (item_in mesh front))
  pub made : IsMade mesh (turn_full old.core range (item_in mesh front))
      (turn old.core range (item_in mesh front)) d.effect new.core out
  pub room : old.room ≤ new.room
  pub size : new.size ≡ old.size

-- the front item, which had these bytes from that node, was taken, and all else stayed, except the
-- room
pub record IsDropped (old : NodeSeen) (from : ℕ) (bytes : List ℕ) (new : NodeSeen) : Type 0 where
  pub was : old.items ≡ item.Heard from bytes ∷ new.items
  pub core : new.core ≡ old.core
  pub room : old.room ≤ new.room
  pub size : new.size ≡ old.size

-- the turn on the front item would overfill this field
pub record IsFullAt (mesh : Nodes) (range : NodeIds) (old : NodeSeen) (field : Counter)
    : Type 0 where
  pub front : items.Item
  pub rest : List items.Item
  pub was : old.items ≡ front ∷ rest
  pub readable : IsReadableItem mesh front
  pub full : turn_full old.core range (item_in mesh front) ≡ Some field

-- a turn on the item may need memory: a datum for another node waits, and a request that the node
-- hasn't seen before is kept among those seen
abbrev pub needs_memory : Core → Item → Bool
needs_memory core (New b d) = not (d == core.ip)
needs_memory core (Heard from (Pkt b d o)) = false
needs_memory core (Heard from (Rreq m)) = not (has_seen core.seen (key_of core.variant m))
needs_memory core (Heard from (Rrep m)) = false
needs_memory core (Heard from (Rerr dests)) = false

-- the turn on the front item may need memory
pub record IsShort (mesh : Nodes) (old : NodeSeen) : Type 0 where
  pub front : items.Item
  pub rest : List items.Item
  pub was : old.items ≡ front ∷ rest
  pub readable : IsReadableItem mesh front
  pub needs : needs_memory old.core (item_in mesh front) ≡ true

-- a turn of the node `old`, with the nodes of `range` in range: its answer, the node after it, and
-- the packet that is cast
abbrev pub IsTurn : Nodes → NodeIds → NodeSeen → Result done.TurnDone TurnError → NodeSeen → List ℕ
    → Type 0
IsTurn mesh range old (Ok d) new out = IsTaken mesh range old d new out
IsTurn mesh range old (Err errors.Idle) new out = (old.items ≡ []) × (new ≡ old)
IsTurn mesh range old (Err (errors.Refused from why)) new out =
    (bytes : List ℕ) × (refusal bytes ≡ Some why) × IsDropped old from bytes new
IsTurn mesh range old (Err (errors.Stranger from who)) new out =
    (bytes : List ℕ) × (refusal bytes ≡ None) × (stranger mesh (message_in_fields bytes) ≡ Some who)
    × IsDropped old from bytes new
IsTurn mesh range old (Err (errors.Full field)) new out =
    IsFullAt mesh range old field × (new ≡ old)
IsTurn mesh range old (Err errors.NoMemory) new out = IsShort mesh old × (new ≡ old)

-- ---- a packet that is taken as it is heard

-- the node with one item in its inbox: a packet of these bytes from that node
abbrev pub hearing : NodeSeen → ℕ → List ℕ → NodeSeen
hearing node from bytes = record node { items = item.Heard from bytes ∷ [] }

-- what a turn that took this packet did
abbrev pub heard_done : ℕ → List ℕ → Kind × Effect → done.TurnDone
heard_done from bytes p = record { took = takes.Heard from p.0 bytes; effect = p.1 }

-- a turn of the node `old`, whose inbox is empty, on a packet as it hears it: the turn that would
-- follow if the packet had joined the inbox. A refusal is that turn's, but changes nothing
abbrev pub IsTurnOn : Nodes → NodeIds → NodeSeen → ℕ → List ℕ → Result (Kind × Effect) TurnError
    → NodeSeen → List ℕ → Type 0
IsTurnOn mesh range old from bytes (Ok p) new out =
    IsTurn mesh range (hearing old from bytes) (Ok (heard_done from bytes p)) new out
IsTurnOn mesh range old from bytes (Err why) new out =
    (after : NodeSeen) × IsTurn mesh range (hearing old from bytes) (Err why) after out
    × (new ≡ old)
