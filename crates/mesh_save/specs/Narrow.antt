-- Numbers that are no greater than their fields in a checkpoint.
use Rattle.std.specs.Prelude.{◌≡◌, ◌<◌, ◌≤◌, ◌^◌, ℕ, length, Some, slice_get}
use Rattle.std.specs.FinMap as maps
use Rattle.aodv_model.specs.declared.entry.Entry.{Entry}
use Rattle.aodv_model.specs.Tables.{Table}
use Rattle.aodv_model.specs.Cores.{Core}
use Rattle.mesh_base.specs.Meshes.{Nodes}
use Rattle.mesh_model.specs.Worlds.{World, Node}
use Rattle.mesh_model.specs.InMesh.{IsInMesh}
use Rattle.mesh_save.specs.Requests.{AreRequestsOf}

-- an entry's number has 32 bits, and its hops 8
abbrev pub IsNarrowEntry : Entry → Type 0
IsNarrowEntry e = (e.dsn < 2 ^ 32) × (e.hops < 2 ^ 8)

abbrev pub AreEntriesNarrow : Table → Type 0
AreEntriesNarrow rt = (d : ℕ) (e : Entry) → maps.get rt d ≡ Some e → IsNarrowEntry e

-- a node's own number has 32 bits, and its entries and the requests that it has seen are narrow
pub record IsNarrow (size : ℕ) (core : Core) : Type 0 where
  pub number : core.sn < 2 ^ 32
  pub entries : AreEntriesNarrow core.rt
  pub requests : AreRequestsOf size core.seen

-- each node is narrow, in a mesh of this size
abbrev pub AreNarrow : ℕ → World → Type 0
AreNarrow size w = (i : ℕ) (n : Node) → slice_get w.nodes i ≡ Some n → IsNarrow size n.core

-- a world of a mesh: it has a node for each address, all that it names is in the mesh, and its
-- nodes are narrow
pub record IsNarrowWorld (mesh : Nodes) (w : World) : Type 0 where
  pub some : 1 ≤ length mesh
  pub count : length w.nodes ≡ length mesh
  pub in_mesh : IsInMesh w
  pub narrow : AreNarrow (length mesh) w
