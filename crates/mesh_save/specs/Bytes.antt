-- The bytes of each part of a body. They don't depend on the size of the mesh, which only says
-- which values are in the table's ranges.
use Rattle.std.specs.Prelude.{ℕ, Bool, if◌then◌else◌, List, [], Option, Some, None}
use Rattle.mesh_base.specs.declared.events.Item.{Item}
use Rattle.mesh_base.specs.declared.events.Flying.{Flying}
use Rattle.mesh_checkpoint.specs.Checkpoint as model
use Rattle.mesh_checkpoint.specs.Checkpoint.{Route, Waits, Node, Link, World}

abbrev pub indices_bytes : List ℕ → List ℕ
indices_bytes = (model.indices 0).put

abbrev pub route_bytes : Route → List ℕ
route_bytes = (model.route 0).put

abbrev pub routes_bytes : List Route → List ℕ
routes_bytes = (model.routes 0).put

abbrev pub request_bytes : ℕ × ℕ → List ℕ
request_bytes = (model.request 0).put

abbrev pub requests_bytes : List (ℕ × ℕ) → List ℕ
requests_bytes = (model.asked_format 0).put

abbrev pub waits_bytes : Waits → List ℕ
waits_bytes = (model.waits 0).put

abbrev pub store_bytes : List Waits → List ℕ
store_bytes = (model.store 0).put

abbrev pub item_bytes : Item → List ℕ
item_bytes = (model.item 0).put

abbrev pub inbox_bytes : List Item → List ℕ
inbox_bytes = (model.inbox 0).put

abbrev pub node_bytes : Node → List ℕ
node_bytes = (model.node 0).put

abbrev pub link_bytes : Link → List ℕ
link_bytes = (model.link 0).put

abbrev pub links_bytes : List Link → List ℕ
links_bytes = (model.links 0).put

abbrev pub copy_bytes : Flying → List ℕ
copy_bytes = (model.copy 0 0).put

abbrev pub copies_bytes : List Flying → List ℕ
copies_bytes = (model.copies 0 0).put

abbrev pub world_bytes : World → List ℕ
world_bytes = (model.world 0).put

-- the bytes of a value, if there is one
abbrev pub bytes_if : {A : Type 0} → (A → List ℕ) → Option A → List ℕ
bytes_if put None = []
bytes_if put (Some x) = put x

-- the bytes, if b holds
abbrev pub bytes_where : Bool → List ℕ → List ℕ
bytes_where b bytes = if b then bytes else []
