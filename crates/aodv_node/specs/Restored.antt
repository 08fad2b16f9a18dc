-- A node that is made from parts that were kept.
use Rattle.std.specs.Prelude.{◌≡◌, ℕ, Result, Ok, Err}
use Rattle.std.specs.List.{AllByRecursion}
use Rattle.mesh_base.specs.declared.events.Variant.{Variant}
use Rattle.aodv_model.specs.Soundness.{IsSoundCore}
use Rattle.aodv_table.specs.Seen.{TableSeen}
use Rattle.aodv_asked.specs.Requests.{RoomySeen}
use Rattle.aodv_waiting.specs.Seen.{RoomyStore}
use Rattle.aodv_inbox.specs.Queues.{Queue}
use Rattle.aodv_node.specs.declared.answers.Unfit.{Unfit}
use Rattle.aodv_node.specs.declared.answers.Unfit.TheVariants as unfits
use Rattle.aodv_node.specs.Seen.{NodeSeen, IsItemAt}

-- what is seen of node `me` with these parts
abbrev pub node_of : Variant → ℕ → ℕ → TableSeen → RoomySeen → RoomyStore → Queue → NodeSeen
node_of variant me sn table asked waiting inbox = record {
  core = record {
    ip = me;
    variant = variant;
    sn = sn;
    rt = table.entries;
    seen = asked.pairs;
    store = waiting.store;
  };
  items = inbox.items;
  room = inbox.room;
  size = table.nodes;
}

-- the node's state is in order
abbrev pub HasSoundCore : NodeSeen → Type 0
HasSoundCore node = IsSoundCore node.size node.core

-- each item of the node's inbox may wait there
abbrev pub HasItemsAt : NodeSeen → Type 0
HasItemsAt node = AllByRecursion (IsItemAt node.size (node.core).ip) node.items

-- what is answered when a node with these parts is wanted: the node, if its state and its items are
-- in order; otherwise which of the two isn't, the state before the items
abbrev pub IsRestored : NodeSeen → Result NodeSeen Unfit → Type 0
IsRestored parts (Ok node) = (node ≡ parts) × HasSoundCore parts × HasItemsAt parts
IsRestored parts (Err unfits.Core) = ¬ (HasSoundCore parts)
IsRestored parts (Err unfits.Item) = HasSoundCore parts × ¬ (HasItemsAt parts)
