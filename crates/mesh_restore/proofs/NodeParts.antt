-- The parts of a node, one after another.
use Rattle.std.proofs.Common.{◌≡◌, ℕ, List, Some, refl}
use Rattle.std.specs.Prelude.{Result}
use Rattle.mesh_base.specs.declared.events.Variant.{Variant}
use Rattle.aodv_table.specs.Seen.{TableSeen}
use Rattle.aodv_asked.specs.Requests.{RoomySeen}
use Rattle.aodv_waiting.specs.Seen.{RoomyStore}
use Rattle.aodv_inbox.specs.Queues.{Queue}
use Rattle.aodv_node.specs.declared.answers.Unfit.{Unfit}
use Rattle.aodv_node.specs.Seen.{NodeSeen}
use Rattle.aodv_node.specs.Restored.{node_of, IsRestored}
use Rattle.aodv_model.specs.Pairs.{pairs_in}
use Rattle.mesh_checkpoint.specs.Points.{routes_in, waits_in}
use Rattle.mesh_checkpoint.specs.Checkpoint as model
use Rattle.mesh_restore.specs.Nodes.{ArePrecursorsBelow, IsNodeRead}
use Rattle.mesh_restore.specs.Reading.{Refuses}
use Rattle.mesh_restore.specs.declared.error.ReadError.{ReadError}
use Rattle.mesh_restore.specs.declared.error.ReadError.TheVariants.{Spelling, NoMemory}

pub table_refused : (nodes sn : ℕ) (bytes r : List ℕ) (e : ReadError) → model.positive32.get bytes ≡ Some (sn, r) → Refuses e ((model.routes nodes).get r) → Refuses e ((model.node nodes).get bytes)
table_refused nodes sn bytes r Spelling one none = rw (one, none) refl
table_refused nodes sn bytes r NoMemory one none = tt

pub asked_refused : (nodes sn : ℕ) (bytes r s : List ℕ) (routes : List model.Route) (e : ReadError) → model.positive32.get bytes ≡ Some (sn, r) → (model.routes nodes).get r ≡ Some (routes, s) → Refuses e ((model.asked_format nodes).get s) → Refuses e ((model.node nodes).get bytes)
asked_refused nodes sn bytes r s routes Spelling one two none = rw (one, two, none) refl
asked_refused nodes sn bytes r s routes NoMemory one two none = tt

pub store_refused : (nodes sn : ℕ) (bytes r s t : List ℕ) (routes : List model.Route) (asked : List (ℕ × ℕ)) (e : ReadError) → model.positive32.get bytes ≡ Some (sn, r) → (model.routes nodes).get r ≡ Some (routes, s) → (model.asked_format nodes).get s ≡ Some (asked, t) → Refuses e ((model.store nodes).get t) → Refuses e ((model.node nodes).get bytes)
store_refused nodes sn bytes r s t routes asked Spelling one two three none = rw (one, two, three, none) refl
store_refused nodes sn bytes r s t routes asked NoMemory one two three none = tt

pub inbox_refused : (nodes sn : ℕ) (bytes r s t u : List ℕ) (routes : List model.Route) (asked : List (ℕ × ℕ)) (store : List model.Waits) (e : ReadError) → model.positive32.get bytes ≡ Some (sn, r) → (model.routes nodes).get r ≡ Some (routes, s) → (model.asked_format nodes).get s ≡ Some (asked, t) → (model.store nodes).get t ≡ Some (store, u)
    → Refuses e ((model.inbox nodes).get u) → Refuses e ((model.node nodes).get bytes)
inbox_refused nodes sn bytes r s t u routes asked store Spelling one two three four none = rw (one, two, three, four, none) refl
inbox_refused nodes sn bytes r s t u routes asked store NoMemory one two three four none = tt

pub node_read : (variant : Variant) (nodes me sn : ℕ) (bytes r s t u rest : List ℕ) (table : TableSeen) (asked : RoomySeen) (waiting : RoomyStore) (inbox : Queue) (answer : Result NodeSeen Unfit) → table.nodes ≡ nodes → ArePrecursorsBelow nodes table.entries → model.positive32.get bytes ≡ Some (sn, r) → (model.routes nodes).get r ≡ Some (routes_in table.entries, s)
    → (model.asked_format nodes).get s ≡ Some (pairs_in asked.pairs, t) → (model.store nodes).get t ≡ Some (waits_in waiting.store, u) → (model.inbox nodes).get u ≡ Some (inbox.items, rest) → IsRestored (node_of variant me sn table asked waiting inbox) answer
    → IsNodeRead variant me nodes ((model.node nodes).get bytes) answer rest
node_read variant nodes me sn bytes r s t u rest table asked waiting inbox answer size below one two three four five is = record {
  parts = node_of variant me sn table asked waiting inbox;
  mine = record { named = refl; variant_is = refl; size_is = size };
  below = below;
  read_is = rw (one, two, three, four, five) refl;
  answer_is = is;
}
