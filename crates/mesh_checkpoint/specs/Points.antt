-- The body of a state of a run: its maps and sets as lists, its messages as packets.
use Rattle.std.specs.Prelude.{◌<◌, ℕ, List, [], ◌∷◌, map, option_map}
use Rattle.std.specs.FinMap as maps
use Rattle.std.specs.FinSet as sets
use Rattle.mesh_base.specs.declared.events.Flying.{Flying}
use Rattle.mesh_base.specs.declared.events.Item as items
use Rattle.mesh_base.specs.declared.events.Item.TheVariants as item
use Rattle.mesh_base.specs.Members.{member_list}
use Rattle.mesh_base.specs.Meshes.{Nodes}
use Rattle.aodv_model.specs.declared.entry.Entry.{Entry}
use Rattle.aodv_model.specs.Quality.{is_kno, is_val}
use Rattle.aodv_model.specs.Tables.{Table}
use Rattle.aodv_model.specs.Pairs.{Pairs, pairs_in}
use Rattle.aodv_model.specs.Cores.{Item, New, Heard, Store, Waiting}
use Rattle.mesh_model.specs.Worlds as model
use Rattle.mesh_meaning.specs.Packets.{packet_of}
use Rattle.mesh_text.specs.Schedule.{RunState}
use Rattle.mesh_checkpoint.specs.declared.limits.TheConstants.{LONGEST_BODY}
use Rattle.mesh_checkpoint.specs.declared.body.Head.{Head}
use Rattle.mesh_checkpoint.specs.Checkpoint.{Route, Waits, Node, Link, World, Body}
use Rattle.mesh_checkpoint.specs.State.{body_length, IsCheckpoint}

abbrev pub head_of : RunState → Head
head_of m = record {
  variant = m.variant;
  lines = m.lines;
  events = (m.sums).events;
  idle = (m.sums).idle;
  given = (m.sums).given;
  delivered = (m.sums).delivered;
  lost = (m.sums).lost;
  copied = (m.sums).copied;
}

-- ---- sets and maps as lists

-- the entry of a destination
abbrev pub route_of : ℕ × Entry → Route
route_of p = record {
  dest = p.0;
  number = (p.1).dsn;
  known = is_kno (p.1).dsk;
  valid = is_val (p.1).flag;
  hops = (p.1).hops;
  next = (p.1).next;
  precursors = member_list (p.1).pre;
}

-- the entries of a table
unfoldable pub routes_in : Table → List Route
routes_in rt = map route_of (maps.entries rt)

-- what waits for a destination
abbrev pub waits_of : ℕ × Waiting → Waits
waits_of p = record {
  dest = p.0;
  needs_request = (p.1).needs_request;
  bodies = (p.1).bodies;
}

-- what waits in a store
unfoldable pub waits_in : Store → List Waits
waits_in store = map waits_of (maps.entries store)

-- ---- a node

-- an item of an inbox; a message that was heard is kept as its packet
abbrev pub item_of : Nodes → Item → items.Item
item_of mesh (New body dest) = item.New dest body
item_of mesh (Heard from message) = item.Heard from (packet_of mesh message)

abbrev pub node_of : Nodes → model.Node → Node
node_of mesh n = record {
  sn = (n.core).sn;
  routes = routes_in (n.core).rt;
  asked = pairs_in (n.core).seen;
  store = waits_in (n.core).store;
  inbox = map (item_of mesh) n.queue;
}

-- ---- the radio

-- the links that ever stood, and whether each stands
abbrev pub links_of : (ever links : Pairs) → List Link
links_of ever links =
    map (λ p. record { a = p.0; b = p.1; stands = sets.contains links p }) (pairs_in ever)

abbrev pub copy_of : Nodes → model.Copy → Flying
copy_of mesh c =
    record { id = c.id; from = c.from; to = c.to; bytes = packet_of mesh c.message }

-- ---- the world and the body

-- the world after this many steps
abbrev pub world_after : ℕ → Nodes → model.World → World
world_after steps mesh w = record {
  steps = steps;
  nodes = map (node_of mesh) w.nodes;
  links = links_of w.ever w.links;
  next = w.next_copy;
  copies = map (copy_of mesh) w.flying;
}

abbrev pub body_of : RunState → Body
body_of m = record {
  head = head_of m;
  mesh = m.mesh;
  world = option_map (world_after m.steps m.mesh) m.world;
}

-- the bytes are the checkpoint of the state. A state has at most one, and it has one if its numbers
-- are in the table's ranges and its body isn't too long
abbrev pub IsState : List ℕ → RunState → Type 0
IsState b m = IsCheckpoint b (body_of m)

-- the state's body is longer than that of any checkpoint
abbrev pub IsTooLong : RunState → Type 0
IsTooLong m = LONGEST_BODY < body_length (body_of m)
